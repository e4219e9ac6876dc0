-- Declared names: what they are declared as, and what is wrong with that.
use Rattle.std.specs.Prelude.{ℕ, Bool, true, false, ◌&&◌, ◌||◌, List, [], ◌∷◌, fold, is_some, map, Option, None, Some, if◌then◌else◌}
use Rattle.std.specs.List.{list_any}
use Rattle.idl_check.specs.told.Bodies.{Clauses, signature_of}
use Rattle.idl_check.specs.tables.Codes.{Table}
use Rattle.idl_check.specs.ids.Identifying.{ids_of, with_identity}
use Rattle.idl_check.specs.tables.Rules.{has_other_prefix, is_ahead, is_declared, brings_operation, is_introduced, is_name_of_scope, is_other_ahead, is_reached, is_there, may_follow}
use Rattle.idl_check.specs.declared.tables.standing.Standing.{Standing}
use Rattle.idl_fault.specs.declared.code.Code.TheVariants.{AlreadyDeclared, NameOfScope, DeclaredAfterUse, OtherForward, DeclaredAgain, ReachedThroughBase, OtherPrefix}
use Rattle.idl_lex.specs.kinds.Keywords.{folded}
use Rattle.idl_memo.specs.Query.{Done, Ask, and_then}
use Rattle.idl_entity.specs.DataType.{plain_type}
use Rattle.idl_entity.specs.Entity.{is_operation}
use Rattle.idl_env.specs.Facts.{entity_in, entity_key, with_addition}
use Rattle.idl_entity.specs.Kind.{kind_eq, inherits}
use Rattle.idl_scope.specs.Lookup.{Lookup, bases_of, reached}
use Rattle.idl_entity.specs.Path.{name_of}
use Rattle.idl_env.specs.declared.additions.addition.Addition.{Addition}
use Rattle.idl_env.specs.declared.additions.addition.Addition.TheVariants.{Declares}
use Rattle.idl_env.specs.declared.answering.answer.Scope.{Scope}
use Rattle.idl_entity.specs.declared.data_type.DataType.{DataType}
use Rattle.idl_entity.specs.declared.data_type.Element.TheVariants.{Named}
use Rattle.idl_entity.specs.declared.entity.Entity.{Entity}
use Rattle.idl_env.specs.declared.keys.key.Key.TheVariants.{Declared, Introduced}
use Rattle.idl_entity.specs.declared.kind.Kind.{Kind}
use Rattle.idl_entity.specs.declared.kind.Kind.TheVariants.{Module, Interface, Structure, Union, Exception, Enumeration, Enumerator, Alias, Native, Constant, Attribute, Operation, Parameter, Member}
use Rattle.idl_entity.specs.declared.kind.Stage.{Stage}
use Rattle.idl_entity.specs.declared.kind.Stage.TheVariants.{Ahead, Begun, Open, Complete}
use Rattle.idl_parts.specs.declared.part.Declaration.{Declaration}
use Rattle.idl_parts.specs.declared.part.Declaration.TheVariants as declaration
use Rattle.idl_value.specs.declared.constant_type.ConstantType.{ConstantType}
use Rattle.idl_value.specs.declared.value.Value.{Value}
use Rattle.idl_value.specs.declared.value.Value.TheVariants as value

abbrev pub kind_of : Declaration → Kind
kind_of declaration.Module = Module
kind_of (declaration.Interface is_local) = Interface
kind_of (declaration.InterfaceAhead is_local) = Interface
kind_of declaration.Structure = Structure
kind_of declaration.StructureAhead = Structure
kind_of declaration.Union = Union
kind_of declaration.UnionAhead = Union
kind_of declaration.Exception = Exception
kind_of declaration.Enumeration = Enumeration
kind_of declaration.Enumerator = Enumerator
kind_of declaration.Alias = Alias
kind_of declaration.Native = Native
kind_of declaration.Constant = Constant
kind_of (declaration.Attribute is_readonly) = Attribute
kind_of (declaration.Operation is_oneway) = Operation
kind_of (declaration.Parameter direction) = Parameter
kind_of declaration.Member = Member

abbrev pub is_local_in : Declaration → Bool
is_local_in (declaration.Interface is_local) = is_local
is_local_in (declaration.InterfaceAhead is_local) = is_local
is_local_in other = false

abbrev pub is_readonly_in : Declaration → Bool
is_readonly_in (declaration.Attribute is_readonly) = is_readonly
is_readonly_in other = false

abbrev pub is_oneway_in : Declaration → Bool
is_oneway_in (declaration.Operation is_oneway) = is_oneway
is_oneway_in other = false

-- How far it has come at its name: an interface, a struct, a union or a constant has begun, and is
-- complete when its unit ends.
abbrev pub stage_of : Declaration → Stage
stage_of (declaration.InterfaceAhead is_local) = Ahead
stage_of declaration.StructureAhead = Ahead
stage_of declaration.UnionAhead = Ahead
stage_of (declaration.Interface is_local) = Begun
stage_of declaration.Structure = Begun
stage_of declaration.Union = Begun
stage_of declaration.Constant = Begun
stage_of other = Complete

-- what the names that are declared next are declared with: the type that was written last, the
-- one that the next constant is to have a value of, the enum that was declared last, and the
-- enumerators of the next one
pub record Written : Type 0 where
  pub data_type : Option DataType
  pub constants : Option ConstantType
  pub enumeration : List (List ℕ)
  pub enumerators : List (List ℕ)

-- the type that a name is declared with, if it is with one
abbrev pub data_type_in : Written → Declaration → Option DataType
data_type_in written declaration.Alias = written.data_type
data_type_in written declaration.Constant = written.data_type
data_type_in written (declaration.Attribute is_readonly) = written.data_type
data_type_in written (declaration.Operation is_oneway) = written.data_type
data_type_in written (declaration.Parameter direction) = written.data_type
data_type_in written declaration.Member = written.data_type
data_type_in written other = None

abbrev pub value_in : Written → Declaration → List ℕ → Option Value
value_in written declaration.Enumerator name = Some (value.Enumerator written.enumeration name)
value_in written other name = None

abbrev pub enumerators_in : Written → Declaration → List (List ℕ)
enumerators_in written declaration.Enumeration = written.enumerators
enumerators_in written other = []

-- the entity that a name is declared as in the scope at a path
abbrev pub entity_of : Written → Declaration → List ℕ → List (List ℕ) → Entity
entity_of written way name scope = record {
  path = name ∷ scope;
  kind = kind_of way;
  is_local = is_local_in way;
  is_readonly = is_readonly_in way;
  is_oneway = is_oneway_in way;
  stage = stage_of way;
  bases = [];
  operations = [];
  data_type = data_type_in written way;
  value = value_in written way name;
  enumerators = enumerators_in written way;
  signature = None;
}

-- what is written once this name is declared: an enum is a type
abbrev pub written_after : Written → Entity → Written
written_after written e =
    if kind_eq e.kind Enumeration
    then record written {
      data_type = Some (plain_type (Named e.path));
      enumeration = e.path;
    }
    else written

-- it as its unit leaves it: an interface is open with these bases, an attribute raises what its
-- clauses say, and a constant has this value
abbrev pub finished : List (List (List ℕ)) → Option Value → Clauses → Entity → Entity
finished bases v clauses e =
    if kind_eq e.kind Interface then record e { stage = Open; bases = bases }
    else if kind_eq e.kind Attribute
    then record e { signature = Some (signature_of [] clauses) }
    else record e { stage = Complete; value = v }

-- additions with those that finish what has begun
abbrev pub with_finished : (Entity → Entity) → List Addition → List Entity → List Addition
with_finished finish own begun =
    fold with_addition own (map (λ e. Declares (finish e)) begun)

-- what is inherited under a folded name in a scope, which its bases may have
abbrev pub inherited : ℕ → Scope → List ℕ → Lookup (List Entity)
inherited turns s n =
    if inherits s.kind
    then Ask (entity_key s.path) (λ scope. reached turns n (bases_of (entity_in scope)))
    else Done []

-- whether anything is among these
abbrev pub is_any : List Entity → Bool
is_any [] = false
is_any (e ∷ found) = true

-- what stands under the name of an entity in the scope in which it is declared
abbrev pub standing : ℕ → Scope → Entity → Lookup Standing
standing turns s e =
    let n = folded (name_of e.path) in
    Ask (Declared n s.path) (λ there.
    Ask (Introduced n s.path s.body) (λ used.
    and_then (inherited turns s n) (λ found.
    and_then (ids_of (entity_in there) e) (λ ids.
    Done (record {
      there = entity_in there;
      is_used = is_some used;
      brings_operation = list_any is_operation found;
      is_reached = is_any found;
      ids = ids;
    })))))

-- the faults of a declared name
abbrev pub declared_table : Scope → Standing → Entity → Table
declared_table s standing e =
    (is_declared standing.there e, AlreadyDeclared)
    ∷ (is_name_of_scope s e, NameOfScope)
    ∷ (is_introduced standing, DeclaredAfterUse)
    ∷ (is_other_ahead standing.there e, OtherForward)
    ∷ (brings_operation s standing, DeclaredAgain)
    ∷ (is_reached s standing, ReachedThroughBase)
    ∷ (has_other_prefix standing.ids, OtherPrefix) ∷ []

-- what is there already stays as it is where a module is opened again, or where it is declared
-- ahead
abbrev pub stays : Option Entity → Entity → Bool
stays there e = is_there there (λ old. may_follow old e && (kind_eq e.kind Module || is_ahead e))

-- what a declared name adds: its id, where it is declared first, and the entity
abbrev pub with_declared : Standing → Entity → List Addition → List Addition
with_declared standing e own =
    let identified = with_identity standing.there standing.ids e own in
    if stays standing.there e then identified else with_addition identified (Declares e)
