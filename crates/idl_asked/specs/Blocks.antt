-- What a block asks, as the table of LANGUAGE tells it: the keys that its units ask, each behind
-- what stands before the block and what the block added before the unit, but for those at which the
-- block has written by then.
use Rattle.std.specs.Prelude.{◌≡◌, ◌≤◌, ◌<◌, ◌^◌, ℕ, zero, suc, List, [], ◌∷◌, ◌++◌, Option, false, map, not}
use Rattle.std.specs.List.{filter, list_any}
use Rattle.idl_block.specs.facts.Beneath.{start}
use Rattle.idl_check_laws.specs.Closing.{AreTold}
use Rattle.idl_check_laws.specs.idl_check.walk.Placing.{faulty_step}
use Rattle.idl_check_laws.specs.idl_check.walk.Verdict.{verdict_over}
use Rattle.idl_env.specs.Facts.{UnitFacts, World, after, answers, boundary, closing, count_in, key_of, nameless, path_around, scopes_in, unstopped, with_additions}
use Rattle.idl_env.specs.Turns.{most_turns, turns_for}
use Rattle.idl_env.specs.declared.additions.addition.Step.{Step}
use Rattle.idl_env.specs.declared.additions.addition.Step.TheVariants.{Closes, Enters as EntersFile, Leaves as LeavesFile, Opens, OpensNameless, Stays}
use Rattle.idl_env.specs.declared.answering.answer.Answer.{Answer}
use Rattle.idl_env.specs.declared.answering.answer.Scope.{Scope}
use Rattle.idl_env.specs.declared.keys.key.Key.{Key}
use Rattle.idl_env.specs.declared.keys.key.Key.TheVariants.{Cursor, Nameless, Opened, Prefix as PrefixKey}
use Rattle.idl_env.specs.keys.Key.{key_eq}
use Rattle.idl_memo.specs.Query.{asked, noted_all}
use Rattle.idl_root_blocks.specs.Blocks.{Block, IsOfBlock, Loose, Nothing, Pieces, text_in}
use Rattle.idl_root_blocks.specs.Places.{facts_behind, facts_over, with_entering}
use Rattle.idl_root_blocks.specs.verdicts.Standing.{unit_asks}
use Rattle.idl_root_blocks.specs.declared.text.BlockPart.{BlockPart}
use Rattle.idl_root_blocks.specs.declared.text.BlockPart.TheVariants.{Text, Enters, Leaves}
use Rattle.idl_unit.specs.declared.unit.UnitText.TheVariants.{Pragma, Tokens}

-- what a part adds behind facts: a unit what its verdict writes
abbrev pub added_at : List UnitFacts → BlockPart → UnitFacts
added_at facts (Text text) = (verdict_over facts text).writes
added_at facts (Enters inside) = boundary EntersFile
added_at facts (Leaves inside) = boundary LeavesFile

-- these facts, and what a text behind them adds
abbrev pub behind : List UnitFacts → List BlockPart → List UnitFacts
behind facts [] = facts
behind facts (part ∷ text) = behind (facts ++ added_at facts part ∷ []) text

-- the keys that a part asks behind facts: a boundary asks none
abbrev pub asked_at : List UnitFacts → BlockPart → List Key
asked_at facts (Text text) = asked (unit_asks text) (answers facts)
asked_at facts other = []

-- the keys at which the closing of the innermost of these scopes leaves an answer; the global one is
-- never closed
abbrev pub closing_keys : World → List Scope → List Key
closing_keys w (s ∷ t ∷ outer) = PrefixKey ∷ Cursor ∷ map key_of (closing w s)
closing_keys w scopes = []

-- those at which a change of the open scopes, of the files entered, or of the prefix leaves one
abbrev pub step_keys : World → Step → List Key
step_keys w Stays = []
step_keys w (Opens path kind) = Cursor ∷ Opened path ∷ []
step_keys w (OpensNameless kind) =
    let name = nameless (count_in (w.answers Nameless)) in
    Nameless ∷ Cursor ∷ Opened (name ∷ path_around (scopes_in (w.answers Cursor))) ∷ []
step_keys w Closes = closing_keys w (scopes_in (w.answers Cursor))
step_keys w other = PrefixKey ∷ []

-- and those at which facts do
abbrev pub written_keys : World → List UnitFacts → List Key
written_keys w [] = []
written_keys w (f ∷ facts) =
    map key_of (unstopped w.answers f.additions)
    ++ (step_keys (with_additions f.additions w) f.step ++ written_keys (after w f) facts)

-- the keys that a text asks behind facts, the last of which are the block's own, but for those at
-- which these have written
abbrev pub outer_keys : List UnitFacts → List UnitFacts → List BlockPart → List Key
outer_keys before own [] = []
outer_keys before own (part ∷ text) =
    let facts = before ++ own in
    let own_keys = written_keys (start (answers before)) own in
    filter (λ k. not (list_any (key_eq k) own_keys)) (asked_at facts part)
    ++ outer_keys before (own ++ added_at facts part ∷ []) text

-- the log of the block of this text behind facts: each of its keys once, with the answer before it
abbrev pub block_log : List UnitFacts → List BlockPart → List (Key × Option Answer)
block_log before text =
    noted_all key_eq (answers before) [] (outer_keys before (boundary EntersFile ∷ []) text)

-- This text may stand behind the beginning of a block that has opened so many scopes and entered so
-- many files: each of its closings closes a scope of these or of its own, and it leaves these files
-- and those that it enters, and no other. It may leave scopes open.
abbrev pub IsLevel : ℕ → ℕ → List BlockPart → Type 0
IsLevel scopes files [] = files ≡ 0
IsLevel scopes files (Enters inside ∷ text) = IsLevel scopes (suc files) text
IsLevel scopes zero (Leaves inside ∷ text) = ⊥
IsLevel scopes (suc files) (Leaves inside ∷ text) = IsLevel scopes files text
IsLevel scopes files (Text (Pragma tokens inside) ∷ text) = IsLevel scopes files text
IsLevel scopes files (Text (Tokens tokens) ∷ text) = elim (faulty_step tokens) [
  | Closes ↦ elim scopes [ zero ↦ ⊥ | suc n ↦ IsLevel n files text ]
  | OpensNameless kind ↦ IsLevel (suc scopes) files text
  | other ↦ IsLevel scopes files text
]

-- The text of a block behind facts that units told, where 64 bits count what it adds.
pub record IsBlockOf (before : List UnitFacts) (text : List BlockPart) : Type 0 where
  pub block : IsOfBlock text
  pub told : AreTold before
  pub turns : turns_for (behind before (Enters false ∷ text)) ≤ most_turns
  pub nameless : count_in (answers (behind before (Enters false ∷ text)) Nameless) < 2 ^ 64

-- each block among pieces behind facts is so
abbrev pub AreBlocksOf : List UnitFacts → Pieces → Type 0
AreBlocksOf facts Nothing = Unit {0}
AreBlocksOf facts (Loose part pieces) = AreBlocksOf (facts_over facts (part ∷ [])) pieces
AreBlocksOf facts (Block inside pieces) =
    IsBlockOf facts (text_in inside)
    × (AreBlocksOf (with_entering facts) inside × AreBlocksOf (facts_behind facts inside) pieces)
