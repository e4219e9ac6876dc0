-- Declared names: a line for each form of declaration, and one for each rule.
use Rattle.std.specs.Prelude.{◌&&◌, ◌+◌, ◌++◌, ◌||◌, ℕ, List, [], ◌∷◌, Bool, false, filter, fold, is_none, map, not, Option, None, Some, true, if◌then◌else◌}
use Rattle.std.specs.Option.{option_to_list}
use Rattle.std.specs.Str.{bytes_eq}
use Rattle.idl_check.specs.tables.Codes.{Table, faults_by}
use Rattle.idl_check.specs.tables.Declaring.{Written}
use Rattle.idl_check.specs.tables.Rules.{differs, has_other_prefix, is_there, may_follow}
use Rattle.idl_check.specs.told.Bodies.{Body, with_member}
use Rattle.idl_check.specs.walk.Walk.{Visit, Walk}
use Rattle.idl_check.specs.declared.tables.standing.Standing.{Standing}
use Rattle.idl_entity.specs.DataType.{plain_type}
use Rattle.idl_entity.specs.Kind.{is_scope, kind_eq, stage_eq}
use Rattle.idl_entity.specs.Path.{name_of}
use Rattle.idl_entity.specs.declared.data_type.DataType.{DataType}
use Rattle.idl_entity.specs.declared.data_type.Element.TheVariants.{Named}
use Rattle.idl_entity.specs.declared.entity.Entity.{Entity}
use Rattle.idl_entity.specs.declared.kind.Kind.{Kind}
use Rattle.idl_entity.specs.declared.kind.Kind.TheVariants as kind
use Rattle.idl_entity.specs.declared.kind.Stage.{Stage}
use Rattle.idl_entity.specs.declared.kind.Stage.TheVariants.{Ahead, Begun, Complete}
use Rattle.idl_entity.specs.declared.signature.Member.{Member}
use Rattle.idl_env.specs.Facts.{with_addition}
use Rattle.idl_env.specs.declared.additions.addition.Addition.{Addition}
use Rattle.idl_env.specs.declared.additions.addition.Addition.TheVariants.{Appears, Declares}
use Rattle.idl_env.specs.declared.answering.answer.Scope.{Scope}
use Rattle.idl_fault.specs.declared.code.Code.TheVariants as code
use Rattle.idl_lex.specs.kinds.Keywords.{folded}
use Rattle.idl_parts.specs.declared.part.Declaration.{Declaration}
use Rattle.idl_parts.specs.declared.part.Declaration.TheVariants as way
use Rattle.idl_tree.specs.declared.declarations.operation.Direction.TheVariants.{In, InOut, Out}
use Rattle.idl_value.specs.declared.value.Value.TheVariants as value

-- an entity that has no more than a kind, how far it has come, a type if it has one, and a path
abbrev pub bare : Kind → Stage → Option DataType → List (List ℕ) → Entity
bare kind stage t path = record {
  path = path;
  kind = kind;
  stage = stage;
  data_type = t;
  is_local = false;
  is_readonly = false;
  is_oneway = false;
  bases = [];
  operations = [];
  value = None;
  enumerators = [];
  signature = None;
}

-- What the name at a path is declared as, behind what is written. Its unit's end completes an
-- interface, a struct, a union or a constant.
abbrev pub declared : Written → List (List ℕ) → Declaration → Entity
declared w p way.Module = bare kind.Module Complete None p
declared w p (way.Interface is_local) =
    record (bare kind.Interface Begun None p) { is_local = is_local }
declared w p (way.InterfaceAhead is_local) =
    record (bare kind.Interface Ahead None p) { is_local = is_local }
declared w p way.Structure = bare kind.Structure Begun None p
declared w p way.StructureAhead = bare kind.Structure Ahead None p
declared w p way.Union = bare kind.Union Begun None p
declared w p way.UnionAhead = bare kind.Union Ahead None p
declared w p way.Exception = bare kind.Exception Complete None p
declared w p way.Enumeration =
    record (bare kind.Enumeration Complete None p) { enumerators = w.enumerators }
declared w p way.Enumerator =
    record (bare kind.Enumerator Complete None p) {
      value = Some (value.Enumerator w.enumeration (name_of p));
    }
declared w p way.Alias = bare kind.Alias Complete w.data_type p
declared w p way.Native = bare kind.Native Complete None p
declared w p way.Constant = bare kind.Constant Begun w.data_type p
declared w p (way.Attribute is_readonly) =
    record (bare kind.Attribute Complete w.data_type p) { is_readonly = is_readonly }
declared w p (way.Operation is_oneway) =
    record (bare kind.Operation Complete w.data_type p) { is_oneway = is_oneway }
declared w p (way.Parameter direction) = bare kind.Parameter Complete w.data_type p
declared w p way.Member = bare kind.Member Complete w.data_type p

-- whether a parameter goes in, and whether it comes out; nothing else does
abbrev pub directions : Declaration → Bool × Bool
directions (way.Parameter In) = (true, false)
directions (way.Parameter InOut) = (true, true)
directions (way.Parameter Out) = (false, true)
directions other = (false, false)

-- what is wrong with a name that is declared as this in a scope, by what stands there
abbrev pub rules_of_declared : Scope → Standing → Entity → Table
rules_of_declared s standing e =
    (is_there standing.there (λ old. not (may_follow old e)), code.AlreadyDeclared)
    ∷ (
      is_scope s.kind && bytes_eq (folded (name_of s.path)) (folded (name_of e.path)),
      code.NameOfScope,
    )
    ∷ (standing.is_used, code.DeclaredAfterUse)
    ∷ (is_there standing.there (λ old. may_follow old e && differs old e), code.OtherForward)
    ∷ (kind_eq s.kind kind.Interface && standing.brings_operation, code.DeclaredAgain)
    ∷ (kind_eq s.kind kind.Structure && standing.is_reached, code.ReachedThroughBase)
    ∷ (has_other_prefix standing.ids, code.OtherPrefix) ∷ []

-- What a declared name adds: its id, where it is declared first, and the entity, but where a module
-- is opened again, or a declaration ahead comes again, which leave what is there.
abbrev pub declared_in : Standing → Entity → List Addition → List Addition
declared_in standing e own =
    let first = if is_none standing.there then option_to_list standing.ids else [] in
    let identified = fold with_addition own (map (λ ids. Appears e.path ids.prefix) first) in
    let is_again = kind_eq e.kind kind.Module || stage_eq e.stage Ahead in
    if is_there standing.there (λ old. may_follow old e && is_again) then identified
    else with_addition identified (Declares e)

-- what comes of a declared name in a scope, by what stands there: an enum is a type from then on,
-- and the unit's end finishes an interface or a constant
abbrev pub declared_at : Walk → Declaration → Scope → Entity → Standing → Visit
declared_at w way s e standing =
    let is_begun : Entity → Bool = λ e. stage_eq e.stage Begun
    && (kind_eq e.kind kind.Interface || kind_eq e.kind kind.Constant) in
    let as_type : Written = record w.written {
      data_type = Some (plain_type (Named e.path));
      enumeration = e.path;
    } in record {
      faults = faults_by w.at (rules_of_declared s standing e);
      after = record w {
        at = w.at + 1;
        own = declared_in standing e w.own;
        begun = w.begun ++ filter is_begun (e ∷ []);
        written = if kind_eq e.kind kind.Enumeration then as_type else w.written;
        last = Some e;
        bodies = with_member way e w.bodies;
      };
    }

-- a body with what is declared so, if that is a member or a parameter, behind the labels before it
abbrev pub member_in : Declaration → Entity → Body → Body
member_in way e b =
    let member : Member = record {
      name = name_of e.path;
      data_type = e.data_type;
      labels = b.labels;
      goes_in = (directions way).0;
      comes_out = (directions way).1;
    } in
    if kind_eq e.kind kind.Member || kind_eq e.kind kind.Parameter
    then record b { members = b.members ++ member ∷ []; labels = [] } else b
