-- Pragmas: what they say of prefixes and ids, and what is wrong with that. The tokens are the word
-- `pragma`, its own word, and from the third on what it speaks of.
use Rattle.std.specs.Prelude.{ℕ, ◌+◌, List, [], ◌∷◌, Option, None, Some}
use Rattle.idl_check.specs.tables.Codes.{faults_by}
use Rattle.idl_check.specs.ids.About.{Said, about, refused_for, with_faults}
use Rattle.idl_tree.specs.NameParts.{last_at}
use Rattle.idl_check.specs.tables.Rules.{is_no_id, is_no_prefix}
use Rattle.idl_fault.specs.declared.code.Code.TheVariants.{BadIdText}
use Rattle.idl_memo.specs.Query.{Done, and_then}
use Rattle.idl_scope.specs.Lookup.{Lookup}
use Rattle.idl_env.specs.declared.additions.addition.Step.TheVariants.{Prefixes}
use Rattle.idl_env.specs.declared.answering.answer.Scope.{Scope}
use Rattle.idl_entity.specs.declared.identity.Fixed.TheVariants.{Version, Id}
use Rattle.idl_tree.specs.declared.pragma.Pragma.{Pragma}
use Rattle.idl_tree.specs.declared.pragma.Pragma.TheVariants as pragma
use Rattle.idl_unit.specs.declared.fault.Fault.{Fault}

-- the faults of a prefix
abbrev pub prefix_faults : List ℕ → List Fault
prefix_faults text = faults_by 2 ((is_no_prefix text, BadIdText) ∷ [])

-- that of the text of an id at this token
abbrev pub text_faults : ℕ → List ℕ → List Fault
text_faults at text = faults_by at ((is_no_id text, BadIdText) ∷ [])

abbrev pub said : ℕ → List Scope → Pragma → Lookup Said
said turns scopes (pragma.Prefix text) =
    Done (record { faults = prefix_faults text; additions = []; step = Prefixes text })
said turns scopes (pragma.Id name text) =
    and_then (about 2 turns scopes name (Id text))
    (λ s. Done (with_faults (text_faults (last_at 2 name + 1) text) s))
said turns scopes (pragma.Version name major minor) =
    about 2 turns scopes name (Version major minor)

-- what tokens say, if they are a pragma
abbrev pub said_by : ℕ → List Scope → Option Pragma → Lookup Said
said_by turns scopes None = Done (refused_for [])
said_by turns scopes (Some p) = said turns scopes p
