-- The rules over tree and names: a test for each code, in the order of codes. The tables and the
-- walk say at which token a code stands where its test holds. What a name denotes decides on E30 to
-- E32 and on E38 (`idl_scope`), where that of a `typeprefix` is a scope too (`is_scope`), and what
-- an expression comes to on E50 to E54 (`idl_value`). E75 and W80 are of no unit: the listing tells
-- them of what is never defined in the root (`idl_repo`).
use Rattle.std.specs.Prelude.{ℕ, ◌-◌, Bool, true, false, ◌&&◌, ◌||◌, List, [], ◌∷◌, is_none, is_some, length, nat_eq, nat_le, not, take, Option, None, Some}
use Rattle.std.specs.Bool.{beq}
use Rattle.std.specs.List.{list_all, list_any}
use Rattle.std.specs.Map.{lookup}
use Rattle.std.specs.Str.{bytes_eq}
use Rattle.idl_check.specs.told.Labels.{Labels, is_idle, is_labelled}
use Rattle.idl_check.specs.told.Types.{may_switch}
use Rattle.idl_check.specs.declared.ids.identifying.Ids.{Ids}
use Rattle.idl_check.specs.declared.tables.standing.Standing.{Standing}
use Rattle.idl_lex.specs.kinds.Keywords.{folded}
use Rattle.idl_entity.specs.Identity.{told}
use Rattle.idl_entity.specs.Kind.{kind_eq, stage_eq, is_scope}
use Rattle.idl_entity.specs.Path.{name_of, path_eq}
use Rattle.idl_env.specs.declared.answering.answer.Scope.{Scope}
use Rattle.idl_entity.specs.declared.entity.Entity.{Entity}
use Rattle.idl_entity.specs.declared.identity.Fixed.{Fixed}
use Rattle.idl_entity.specs.declared.identity.Fixed.TheVariants.{Version, Id}
use Rattle.idl_entity.specs.declared.identity.Identity.{Identity}
use Rattle.idl_entity.specs.declared.kind.Kind.{Kind}
use Rattle.idl_entity.specs.declared.kind.Kind.TheVariants.{Module, Interface, Structure, Union, Exception, Enumeration, Enumerator, Alias, Native, Parameter, Member}
use Rattle.idl_entity.specs.declared.kind.Stage.TheVariants.{Ahead, Complete}
use Rattle.idl_parts.specs.declared.part.Use.{Use}
use Rattle.idl_parts.specs.declared.part.Use.TheVariants.{AsBase, AsStructBase, AsType, AsElement, AsConstantType, AsDiscriminator, AsOperand, Raised, RaisedBySet, AsIdentified, AsPrefixed}
use Rattle.idl_tree.specs.declared.declarations.interface.Forward.TheVariants as forward
use Rattle.idl_tree.specs.declared.unit.Tree.{Tree}
use Rattle.idl_tree.specs.declared.unit.Tree.TheVariants as tree
use Rattle.idl_value.specs.declared.constant_type.ConstantType.{ConstantType}
use Rattle.idl_value.specs.declared.value.Value.{Value}

-- how many scopes are open beside the global one, the last of these
abbrev pub depth : List Scope → ℕ
depth scopes = length scopes - 1

-- whether an entity is there and passes a test
abbrev pub is_there : Option Entity → (Entity → Bool) → Bool
is_there None test = false
is_there (Some old) test = test old

-- E22: The global scope holds no closing, an interface no module and no interface, and nothing else
-- than an interface holds an operation or an attribute.
abbrev pub is_misplaced_in : Bool → Tree → Bool
is_misplaced_in in_interface (tree.Module name) = in_interface
is_misplaced_in in_interface (tree.Interface i) = in_interface
is_misplaced_in in_interface (tree.Forward (forward.Interface is_local name)) = in_interface
is_misplaced_in in_interface (tree.ReadonlyAttribute a) = not in_interface
is_misplaced_in in_interface (tree.Attribute a) = not in_interface
is_misplaced_in in_interface (tree.Operation o) = not in_interface
is_misplaced_in in_interface other = false

abbrev pub is_interface : List Scope → Bool
is_interface [] = false
is_interface (s ∷ scopes) = kind_eq s.kind Interface

abbrev pub is_misplaced : Tree → List Scope → Bool
is_misplaced tree.Closing scopes = nat_eq (depth scopes) 0
is_misplaced other scopes = is_misplaced_in (is_interface scopes) other

-- E24: 64 scopes may be open, and no more.
abbrev pub is_too_deep : List Scope → Bool
is_too_deep scopes = nat_le 64 (depth scopes)

-- E33: A name is declared once in its scope. It may be declared again with the same spelling: a
-- module; and an interface, a struct or a union where one of the two is a declaration ahead.
abbrev pub may_be_ahead : Kind → Bool
may_be_ahead kind = kind_eq kind Interface || (kind_eq kind Structure || kind_eq kind Union)

abbrev pub is_ahead : Entity → Bool
is_ahead e = stage_eq e.stage Ahead

abbrev pub are_modules : Entity → Entity → Bool
are_modules old new = kind_eq old.kind Module && kind_eq new.kind Module

abbrev pub come_ahead : Entity → Entity → Bool
come_ahead old new =
    (may_be_ahead old.kind && may_be_ahead new.kind) && (is_ahead old || is_ahead new)

abbrev pub may_follow : Entity → Entity → Bool
may_follow old new =
    bytes_eq (name_of old.path) (name_of new.path) && (are_modules old new || come_ahead old new)

abbrev pub is_declared : Option Entity → Entity → Bool
is_declared there e = is_there there (λ old. not (may_follow old e))

-- E34: In a module, an interface, a struct, a union or an exception its own name isn't declared.
abbrev pub is_name_of_scope : Scope → Entity → Bool
is_name_of_scope s e =
    is_scope s.kind && bytes_eq (folded (name_of s.path)) (folded (name_of e.path))

-- E35: A name that a use has introduced into a scope, or into this body of a module, isn't declared
-- there.
abbrev pub is_introduced : Standing → Bool
is_introduced standing = standing.is_used

-- E37: A base is an interface; a type is an interface, a struct, a union, an enum, a typedef or a
-- native; what is raised is an exception; and an operand is an enumerator, or a constant other than
-- the one whose value is told.
abbrev pub is_type : Kind → Bool
is_type Interface = true
is_type Structure = true
is_type Union = true
is_type Enumeration = true
is_type Alias = true
is_type Native = true
is_type other = false

abbrev pub suits : Use → Entity → Bool
suits (AsBase is_local) e = kind_eq e.kind Interface
suits AsStructBase e = kind_eq e.kind Structure
suits AsType e = is_type e.kind
suits AsElement e = is_type e.kind
suits AsConstantType e = is_type e.kind
suits AsDiscriminator e = is_type e.kind
suits AsOperand e = is_some e.value
suits Raised e = kind_eq e.kind Exception
suits RaisedBySet e = kind_eq e.kind Exception
suits AsIdentified e = true
suits AsPrefixed e = true

-- E39: What is declared ahead, and its definition, are of one kind, and `local` both or neither.
abbrev pub differs : Entity → Entity → Bool
differs old new = not (kind_eq old.kind new.kind) || not (beq old.is_local new.is_local)

abbrev pub is_other_ahead : Option Entity → Entity → Bool
is_other_ahead there e = is_there there (λ old. may_follow old e && differs old e)

-- E40: A base is closed.
abbrev pub is_open_base : Entity → Bool
is_open_base e = not (stage_eq e.stage Complete)

-- E41: A base is named once, after these.
abbrev pub is_named_again : List (List (List ℕ)) → Entity → Bool
is_named_again paths e = list_any (path_eq e.path) paths

-- E42: No two operations or attributes of one name are brought from two interfaces, and none is
-- declared in an interface under the name of one that it inherits.
abbrev pub is_another : List (List ℕ × List (List ℕ)) → List (List ℕ) → Bool
is_another operations p =
    elim (lookup (bytes_eq (folded (name_of p))) operations)
    [ None ↦ false | Some q ↦ not (path_eq p q) ]

abbrev pub brings_another : List (List ℕ × List (List ℕ)) → Entity → Bool
brings_another operations e = list_any (is_another operations) e.operations

abbrev pub brings_operation : Scope → Standing → Bool
brings_operation s standing = kind_eq s.kind Interface && standing.brings_operation

-- E43: A base is not `local` unless the interface is.
abbrev pub is_local_base : Bool → Entity → Bool
is_local_base is_local e = e.is_local && not is_local

-- E44: Nothing is declared in a struct under a name that is reached through its base.
abbrev pub is_reached : Scope → Standing → Bool
is_reached s standing = kind_eq s.kind Structure && standing.is_reached

-- E56: A constant is of a type of which constants are, written out or behind typedefs.
abbrev pub has_no_constants : Option ConstantType → Bool
has_no_constants constants = is_none constants

-- E57: A struct or a union that isn't complete stands nowhere but as the element of a sequence.
abbrev pub is_incomplete : Entity → Bool
is_incomplete e =
    (kind_eq e.kind Structure || kind_eq e.kind Union) && not (stage_eq e.stage Complete)

-- E60: A union switches on an integer type, a character type, `boolean` or an enum, written out or
-- behind typedefs. All types of keywords that may be written there are such, so it is of a name.
abbrev pub is_no_discriminator : Option ConstantType → Bool
is_no_discriminator constants = not (may_switch constants)

-- E61: No two labels of a union, the innermost of these, have one value, and it has one `default`.
abbrev pub is_label_again : List Labels → Value → Bool
is_label_again unions v = list_any (λ l. is_labelled l v) (take 1 unions)

abbrev pub is_default_again : List Labels → Bool
is_default_again unions = list_any (λ l. l.has_default) (take 1 unions)

-- E62: There is no `default` where the labels are all the values of their type.
abbrev pub is_useless_default : List Labels → Bool
is_useless_default unions = list_any is_idle (take 1 unions)

-- E64: A `oneway` operation gives nothing back: neither a result, nor a parameter that is `out` or
-- `inout`, nor by `raises`. There is no test here: before the first token of each of these, and
-- there alone, the sites of such an operation have a mark (`given_back` in `UnitParts` of
-- `idl_parts`), at which the walk tells it.

-- E70: An interface, a struct or a union is declared again under the prefix of its first
-- declaration.
abbrev pub has_other_prefix : Option Ids → Bool
has_other_prefix None = false
has_other_prefix (Some ids) =
    elim ids.before [ None ↦ false | Some d ↦ not (bytes_eq d.prefix.text ids.prefix.text) ]

-- E71: An id is given once, and behind a version only the id that it told.
abbrev pub is_other : List ℕ → List ℕ → Option Fixed → Bool
is_other text id None = false
is_other text id (Some (Version major minor)) = not (bytes_eq text id)
is_other text id (Some (Id given)) = true

abbrev pub is_given : List ℕ → List (List ℕ) → Identity → Bool
is_given text path d = is_other text (told path d) d.fixed

-- E72: A version is told once, and not behind an id.
abbrev pub is_fixed : Identity → Bool
is_fixed d = elim d.fixed [ None ↦ false | Some by ↦ true ]

-- E73: The text of a prefix or an id has characters from 33 to 126 alone, and an id has a `:` among
-- them.
abbrev pub is_visible : List ℕ → Bool
is_visible text = list_all (λ c. nat_le 33 c && nat_le c 126) text

abbrev pub is_id : List ℕ → Bool
is_id text = is_visible text && list_any (nat_eq 58) text

abbrev pub is_no_prefix : List ℕ → Bool
is_no_prefix text = not (is_visible text)

abbrev pub is_no_id : List ℕ → Bool
is_no_id text = not (is_id text)

-- E74: What an id or a version is of has one: members, parameters and enumerators have none.
abbrev pub has_id : Kind → Bool
has_id Enumerator = false
has_id Parameter = false
has_id Member = false
has_id other = true

-- E76: A scope is given one typeprefix.
abbrev pub is_prefixed : Option (List ℕ) → Bool
is_prefixed typeprefix = is_some typeprefix
