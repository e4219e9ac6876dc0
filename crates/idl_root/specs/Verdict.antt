-- The verdict of a unit, as the rules tell it: the least of all its faults, and where it has none
-- what it declares. Here no reader goes from token to token, no search ends at the first fault, and
-- nothing bounds a look-up.
use Rattle.std.specs.Prelude.{◌≡◌, ◌+◌, ℕ, Bool, List, [], ◌∷◌, Option, None, Some, Result, Ok, Err}
use Rattle.idl_env.specs.Facts.{UnitFacts, answers, scopes_in}
use Rattle.idl_env.specs.declared.answering.answer.Answer.{Answer}
use Rattle.idl_env.specs.declared.answering.answer.Scope.{Scope}
use Rattle.idl_env.specs.declared.keys.key.Key.{Key}
use Rattle.idl_env.specs.declared.keys.key.Key.TheVariants.{Cursor}
use Rattle.idl_fault.specs.declared.code.Code.TheVariants.{NoTree}
use Rattle.idl_lex.specs.tokens.Tokens.{Token}
use Rattle.idl_memo.specs.Query.{outcome}
use Rattle.idl_parts.specs.Item.{items}
use Rattle.idl_parts.specs.UnitParts.{unit_parts}
use Rattle.idl_root_blocks.specs.idl_check.ids.About.{Said}
use Rattle.idl_root_blocks.specs.idl_check.ids.Pragmas.{said_by}
use Rattle.idl_root_blocks.specs.idl_check.idl_parse.Parse.{StopsAt, pragma_faults}
use Rattle.idl_root_blocks.specs.idl_check.walk.AllFaults.{name_faults, or_else}
use Rattle.idl_root_blocks.specs.idl_check.walk.Judging.{walked}
use Rattle.idl_root_blocks.specs.idl_check.walk.Placing.{faulty_step}
use Rattle.idl_root_blocks.specs.idl_check.walk.Verdict.{faulty, first_faults, pragma_verdict, sound}
use Rattle.idl_root_blocks.specs.idl_check.walk.Walk.{first_walk}
use Rattle.idl_root_blocks.specs.idl_check.declared.walk.verdict.Verdict.{Verdict}
use Rattle.idl_tree.specs.Lexeme.{lexemes}
use Rattle.idl_tree.specs.Pragma.{pragma_of}
use Rattle.idl_tree.specs.Unit.{spell}
use Rattle.idl_tree.specs.declared.unit.Tree.{Tree}
use Rattle.idl_unit.specs.Faults.{least_fault}
use Rattle.idl_unit.specs.TokenRules.{fault_at}
use Rattle.idl_unit.specs.declared.fault.Fault.{Fault}
use Rattle.idl_unit.specs.declared.unit.UnitText.{UnitText}
use Rattle.idl_unit.specs.declared.unit.UnitText.TheVariants as unit

-- What is read of the tokens of a unit: the tree that they spell. Where they spell none, it is the
-- number of the token at which they stop being the beginning of one.
abbrev pub IsRead : List Token → Result Tree ℕ → Type 0
IsRead tokens (Ok tree) = lexemes tokens ≡ spell tree
IsRead tokens (Err n) = StopsAt tokens n

module _ (turns : ℕ) (bank : Key → Option Answer) where
  -- the faults behind the first step of tokens of which this is read: where they stop, or those of
  -- the tree's place and of its sites
  abbrev pub read_faults : List Scope → Result Tree ℕ → List Fault
  read_faults scopes read =
      elim read [ Err n ↦ fault_at n NoTree ∷ [] | Ok tree ↦ name_faults turns bank scopes tree ]

  -- the faults of the first step that has any
  abbrev pub faults_of : List Token → Result Tree ℕ → List Fault
  faults_of tokens read =
      let scopes = scopes_in (bank Cursor) in
      or_else turns bank (first_faults tokens scopes) (read_faults scopes read)

  -- The verdict of tokens of which this is read, by the least of their faults, if there is one: what
  -- a faulty unit does to the open scopes, or without a fault what all sites come to.
  abbrev pub IsToldBy : List Token → Option Fault → Result Tree ℕ → Verdict → Type 0
  IsToldBy tokens (Some f) read v = v ≡ faulty f (faulty_step tokens)
  IsToldBy tokens None (Ok tree) v =
      let scopes = scopes_in (bank Cursor) in
      v
      ≡ sound tokens scopes tree
      (walked turns bank (items (unit_parts tree)) (first_walk scopes))
  IsToldBy tokens None (Err n) v = ⊥

  -- what a pragma says, with the faults of the first step that has any
  abbrev pub pragma_said : List Token → Bool → Said
  pragma_said tokens inside =
      let s = outcome (said_by turns (scopes_in (bank Cursor)) (pragma_of tokens)) bank in
      record s { faults = or_else turns bank (pragma_faults tokens inside) s.faults }

  -- the verdict of a unit over these answers, where a look-up has so many turns
  abbrev pub IsVerdictBy : UnitText → Verdict → Type 0
  IsVerdictBy (unit.Tokens tokens) v =
      (read : Result Tree ℕ) × IsRead tokens read
      × IsToldBy tokens (least_fault (faults_of tokens read)) read v
  IsVerdictBy (unit.Pragma tokens inside) v = v ≡ pragma_verdict (pragma_said tokens inside)

-- The verdict of a unit behind these facts. A look-up takes turns, for bases and typedefs: this is
-- what some number of them gives, and each greater one.
abbrev pub IsVerdict : List UnitFacts → UnitText → Verdict → Type 0
IsVerdict facts text v =
    (turns : ℕ) × ((more : ℕ) → IsVerdictBy (turns + more) (answers facts) text v)
