-- Used names: what they may denote where they stand, and what bases bring.
use Rattle.std.specs.Prelude.{ℕ, Bool, true, false, List, [], ◌∷◌, ◌++◌, drop, fold, length, map, take, Option, None, Some, if◌then◌else◌}
use Rattle.std.specs.Str.{bytes_eq}
use Rattle.idl_map.specs.Table.{insert_entry}
use Rattle.idl_check.specs.tables.Codes.{Table}
use Rattle.idl_check.specs.told.Labels.{Labels, no_labels}
use Rattle.idl_check.specs.told.Types.{constants_of}
use Rattle.idl_check.specs.tables.Rules.{brings_another, has_no_constants, is_incomplete, is_local_base, is_named_again, is_no_discriminator, is_open_base, suits}
use Rattle.idl_check.specs.told.Values.{Values, with_operand}
use Rattle.idl_fault.specs.declared.code.Code.{Code}
use Rattle.idl_fault.specs.declared.code.Code.TheVariants as code
use Rattle.idl_lex.specs.kinds.Keywords.{folded}
use Rattle.idl_entity.specs.DataType.{plain_type}
use Rattle.idl_env.specs.Facts.{joined, over, with_addition}
use Rattle.idl_entity.specs.Path.{name_of}
use Rattle.idl_env.specs.declared.additions.addition.Addition.{Addition}
use Rattle.idl_env.specs.declared.additions.addition.Addition.TheVariants.{Declares, Uses, UsesFurther}
use Rattle.idl_env.specs.declared.answering.answer.Scope.{Scope}
use Rattle.idl_entity.specs.declared.data_type.DataType.{DataType}
use Rattle.idl_entity.specs.declared.data_type.Element.TheVariants.{Named}
use Rattle.idl_entity.specs.declared.entity.Entity.{Entity}
use Rattle.idl_entity.specs.declared.kind.Stage.TheVariants.{Open}
use Rattle.idl_scope.specs.Meaning.{undeclared}
use Rattle.idl_scope.specs.declared.fault.NameCode.{NameCode}
use Rattle.idl_scope.specs.declared.fault.NameCode.TheVariants.{Undeclared, Ambiguous, OtherSpelling, NoScope}
use Rattle.idl_scope.specs.declared.found.Reach.{Reach}
use Rattle.idl_parts.specs.declared.part.Use.{Use}
use Rattle.idl_parts.specs.declared.part.Use.TheVariants.{AsBase, AsStructBase, AsType, AsElement, AsConstantType, AsDiscriminator, AsOperand}
use Rattle.idl_value.specs.declared.constant_type.ConstantType.{ConstantType}
use Rattle.idl_value.specs.declared.value.Value.{Value}

-- the code of what a name denotes nothing for
abbrev pub name_code : NameCode → Code
name_code Undeclared = code.NameNotFound
name_code Ambiguous = code.AmbiguousName
name_code OtherSpelling = code.OtherCase
name_code NoScope = code.NoScope

-- the bases that were named so far: their paths, and those of the operations and attributes that
-- they bring, by the folded names
pub record Bases : Type 0 where
  pub paths : List (List (List ℕ))
  pub operations : List (List ℕ × List (List ℕ))

abbrev pub no_bases : Bases
no_bases = record { paths = []; operations = [] }

-- the bases with one more
abbrev pub with_operation : List (List ℕ × List (List ℕ)) → List (List ℕ)
    → List (List ℕ × List (List ℕ))
with_operation operations p = insert_entry bytes_eq operations (folded (name_of p)) p

abbrev pub with_base : Entity → Bases → Bases
with_base e bases = record {
  paths = joined bases.paths (e.path ∷ []);
  operations = fold with_operation bases.operations e.operations;
}

-- the faults of a base of an interface, which is local or not
abbrev pub base_table : Bool → Bases → Entity → Table
base_table is_local bases e =
    (is_open_base e, code.IncompleteBase)
    ∷ (is_named_again bases.paths e, code.RepeatedBase)
    ∷ (brings_another bases.operations e, code.DeclaredAgain)
    ∷ (is_local_base is_local e, code.LocalBase) ∷ []

abbrev pub is_base : Use → Bool
is_base (AsBase is_local) = true
is_base other = false

-- the faults of a name that denotes this, behind which that stands
abbrev pub suited_table : Use → Bases → Entity → Entity → Table
suited_table (AsBase is_local) bases e behind = base_table is_local bases e
suited_table AsStructBase bases e behind = (is_incomplete e, code.IncompleteType) ∷ []
suited_table AsType bases e behind = (is_incomplete e, code.IncompleteType) ∷ []
suited_table AsConstantType bases e behind =
    (has_no_constants (constants_of behind), code.NoConstantType)
    ∷ (is_incomplete e, code.IncompleteType) ∷ []
suited_table AsDiscriminator bases e behind =
    (is_incomplete e, code.IncompleteType)
    ∷ (is_no_discriminator (constants_of behind), code.BadDiscriminator) ∷ []
suited_table other bases e behind = []

abbrev pub used_table : Use → Bases → Entity → Entity → Table
used_table way bases e behind =
    if suits way e then suited_table way bases e behind else (true, code.WrongKind) ∷ []

-- the bases after a name that is used so and denotes this
abbrev pub bases_after : Use → Entity → Bases → Bases
bases_after (AsBase is_local) e bases = with_base e bases
bases_after other e bases = bases

-- a name that is used so is that of a type
abbrev pub is_type_use : Use → Bool
is_type_use AsType = true
is_type_use AsElement = true
is_type_use AsConstantType = true
is_type_use AsDiscriminator = true
is_type_use other = false

-- the type that is written once a name is used so and denotes this
abbrev pub type_after : Use → Entity → Option DataType → Option DataType
type_after way e before =
    if is_type_use way then Some (plain_type (Named e.path)) else before

-- the type that the next constant has, where that stands behind the name
abbrev pub constants_after : Use → Entity → Option ConstantType → Option ConstantType
constants_after AsConstantType behind before = constants_of behind
constants_after other behind before = before

-- the values of an expression's names, and the unions, innermost first, after such a name
abbrev pub values_after : Use → Option Value → Values → Values
values_after AsOperand v values = with_operand v values
values_after other v values = values

abbrev pub unions_after : Use → Entity → List Labels → List Labels
unions_after AsDiscriminator behind unions =
    no_labels (constants_of behind) (length behind.enumerators) ∷ unions
unions_after other behind unions = unions

-- uses of a folded name that go further outward, into these scopes: each unless it, one inside it or
-- one of those before them itself declares the name
abbrev pub further_uses : List ℕ → List (List (List ℕ)) → List Scope → List Addition
further_uses n before [] = []
further_uses n before (s ∷ scopes) =
    let unless = before ++ s.path ∷ [] in
    UsesFurther n s.path (record { body = s.body; unless = unless })
    ∷ further_uses n unless scopes

-- the use of a folded name in these scopes that goes so far, where a unit's earlier tokens add this:
-- further outward it goes up to the first scope in which these declare the name
abbrev pub uses_of : List ℕ → Reach → List Scope → List Addition → List Addition
uses_of n r scopes own =
    map (λ s. Uses n s.path s.body) (take r.certain scopes)
    ++ further_uses n []
    (undeclared (λ k. over own k None) n (take r.further (drop r.certain scopes)))

-- with that use
abbrev pub with_uses : List ℕ → Reach → List Scope → List Addition → List Addition
with_uses n r scopes own = fold with_addition own (uses_of n r scopes own)

-- the struct that was declared last is open over what is used as its base
abbrev pub last_after : Use → List (List ℕ) → Option Entity → Option Entity
last_after AsStructBase path (Some e) = Some (record e { stage = Open; bases = path ∷ [] })
last_after other path last = last

-- what it then adds
abbrev pub own_after : Use → Option Entity → List Addition → List Addition
own_after AsStructBase (Some e) own = with_addition own (Declares e)
own_after other last own = own
