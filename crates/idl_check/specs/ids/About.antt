-- What is said of the id of what a name denotes, and what is wrong with that: the name's own faults,
-- E74, and E71 or E72. What is wrong with the text of an id stands at that.
-- What is said of an id goes through one definition for pragmas and `typeid` (`about`,
-- `about_entity`), and of a scope through `about_scope`. The faults of a text are told by
-- themselves, so no other list of faults is needed.
use Rattle.std.specs.Prelude.{ℕ, List, [], ◌∷◌, ◌++◌, None, Some, if◌then◌else◌}
use Rattle.idl_check.specs.ids.Identifying.{changed}
use Rattle.idl_check.specs.tables.Codes.{faults_by}
use Rattle.idl_check.specs.tables.Rules.{has_id, is_fixed, is_given}
use Rattle.idl_check.specs.tables.Using.{name_code}
use Rattle.idl_fault.specs.declared.code.Code.TheVariants.{NoRepositoryId, RepeatedId, RepeatedVersion}
use Rattle.idl_memo.specs.Query.{Done, and_then}
use Rattle.idl_scope.specs.Known.{known}
use Rattle.idl_scope.specs.Lookup.{Lookup, by_result, denoted}
use Rattle.idl_env.specs.declared.additions.addition.Addition.{Addition}
use Rattle.idl_env.specs.declared.additions.addition.Addition.TheVariants.{Identifies}
use Rattle.idl_env.specs.declared.additions.addition.Step.{Step}
use Rattle.idl_env.specs.declared.additions.addition.Step.TheVariants.{Stays}
use Rattle.idl_env.specs.declared.answering.answer.Scope.{Scope}
use Rattle.idl_entity.specs.declared.entity.Entity.{Entity}
use Rattle.idl_scope.specs.declared.fault.NameFault.{NameFault}
use Rattle.idl_scope.specs.declared.fault.NameFault.TheVariants.{At, Memory}
use Rattle.idl_entity.specs.declared.identity.Fixed.{Fixed}
use Rattle.idl_entity.specs.declared.identity.Fixed.TheVariants.{Version, Id}
use Rattle.idl_entity.specs.declared.identity.Identity.{Identity}
use Rattle.idl_tree.specs.NameParts.{last_at, part_at}
use Rattle.idl_tree.specs.declared.name.ScopedName.{ScopedName}
use Rattle.idl_unit.specs.TokenRules.{fault_at}
use Rattle.idl_unit.specs.declared.fault.Fault.{Fault}

-- what is wrong with what is said, and what that does where nothing is
pub record Said : Type 0 where
  pub faults : List Fault
  pub additions : List Addition
  pub step : Step

abbrev pub refused_for : List Fault → Said
refused_for faults = record { faults = faults; additions = []; step = Stays }

-- with more faults
abbrev pub with_faults : List Fault → Said → Said
with_faults more s = record s { faults = s.faults ++ more }

-- the fault, at this token, of saying this of the id of the name at a path that is identified so
abbrev pub repeated : ℕ → Fixed → List (List ℕ) → Identity → List Fault
repeated at (Id text) path d = faults_by at ((is_given text path d, RepeatedId) ∷ [])
repeated at (Version major minor) path d = faults_by at ((is_fixed d, RepeatedVersion) ∷ [])

-- this said of it: by that it is identified from then on
abbrev pub said_at : ℕ → Fixed → List (List ℕ) → Identity → Said
said_at at change path d = record {
  faults = repeated at change path d;
  additions = Identifies path (changed change d) ∷ [];
  step = Stays;
}

-- this said of an entity whose name ends at this token
abbrev pub about_entity : ℕ → Fixed → Entity → Lookup Said
about_entity at change e =
    if has_id e.kind
    then and_then (known e.path) (λ d. Done (elim d
    [ None ↦ refused_for [] | Some d ↦ said_at at change e.path d ]))
    else Done (refused_for (fault_at at NoRepositoryId ∷ []))

-- the fault of a name that begins at this token and denotes nothing
abbrev pub unnamed_faults : ℕ → ScopedName → NameFault → List Fault
unnamed_faults first name (At why part) = fault_at (part_at first name part) (name_code why) ∷ []
unnamed_faults first name Memory = []

-- this said of what a name denotes in these scopes, which begins at this token and introduces nothing
abbrev pub about : ℕ → ℕ → List Scope → ScopedName → Fixed → Lookup Said
about first turns scopes name change =
    and_then (denoted turns scopes name)
    (λ r. by_result r (λ found. about_entity (last_at first name) change found.entity)
    (λ fault. Done (refused_for (unnamed_faults first name fault))))
