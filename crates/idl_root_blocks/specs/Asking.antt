-- What open blocks have asked so far.
use Rattle.std.specs.Prelude.{◌≡◌, ◌≤◌, ◌⊎◌, ℕ, suc, true, List, [], ◌∷◌, ◌++◌, Option, All, flat_map, length, unwrap_or}
use Rattle.std.specs.Map.{lookup}
use Rattle.idl_env.specs.Facts.{UnitFacts}
use Rattle.idl_env.specs.Written.{last_written}
use Rattle.idl_env.specs.declared.answering.answer.Answer.{Answer}
use Rattle.idl_env.specs.declared.keys.key.Key.{Key}
use Rattle.idl_env.specs.keys.Key.{key_eq}
use Rattle.idl_memo.specs.Dated.{dated_on, entries_before}
use Rattle.idl_memo.specs.Kept.{Kept}
use Rattle.idl_memo.specs.Query.{is_logged}
use Rattle.idl_memo.specs.declared.dated.Dated.{Dated}
use Rattle.idl_root_blocks.specs.Outer.{Log, noted_over, outer_log}
use Rattle.idl_root_blocks.specs.Places.{facts_over, with_entering}
use Rattle.idl_root_blocks.specs.declared.held.HeldBlock.{HeldBlock}
use Rattle.idl_root_blocks.specs.declared.text.BlockPart.{BlockPart}

-- a block that is not yet left: its text, the number of the facts of its entering, and what it has
-- asked so far that it had not written
pub record OpenBlock : Type 0 where
  pub text : List BlockPart
  pub start : ℕ
  pub log : Log

-- all of them, outermost first, and how many facts there were when each key was asked last in one
pub record Opened : Type 0 where
  pub blocks : List OpenBlock
  pub asked : List (Key × ℕ)

-- how many facts there were when a key was asked last, or 0
abbrev pub asked_at : List (Key × ℕ) → Key → ℕ
asked_at asked k = unwrap_or (lookup (key_eq k) asked) 0

-- what was noted in a block, and in blocks inside that are left
abbrev pub noted_in : HeldBlock → List (Dated Key Answer)
noted_in block = dated_on block.pages.items ++ block.page.items

-- open blocks, each with what was noted before its entering in it and in those inside
abbrev pub seen_blocks : List HeldBlock → List OpenBlock
seen_blocks [] = []
seen_blocks (block ∷ inside) =
    record {
      text = block.text;
      start = block.start;
      log = entries_before block.start (flat_map noted_in (block ∷ inside));
    } ∷ seen_blocks inside

-- an open block behind the noting of an entry in it or inside: it has it if its date is before its start
abbrev pub with_dated : Dated Key Answer → OpenBlock → OpenBlock
with_dated entry block = record block {
  log = block.log ++ entries_before block.start (entry ∷ []);
}

-- what is kept of a block that is left
abbrev pub kept_of : OpenBlock → Kept Key (Option Answer) (List BlockPart) (Unit {0})
kept_of block = record { text = block.text; log = block.log; out = tt }

-- an open block behind the asking of these entries
abbrev pub with_asked : List UnitFacts → Log → OpenBlock → OpenBlock
with_asked facts entries block = record block {
  log = noted_over facts block.start block.log entries;
}

-- An open block behind this part of its text, where it was entered behind the facts before, and these
-- stand now: it has noted what its units asked and it had not written.
pub record IsOpen (before : List UnitFacts) (text : List BlockPart) (facts : List UnitFacts)
    (block : OpenBlock) : Type 0 where
  pub start : block.start ≡ suc (length before)
  pub now : facts ≡ facts_over (with_entering before) text
  pub log : block.log ≡ outer_log before text

-- A block has noted rightly behind these facts: a key that it logged was asked since its entering, and
-- one that was asked since then is logged, or was written since then.
pub record IsNoted (asked : List (Key × ℕ)) (facts : List UnitFacts)
    (block : OpenBlock) : Type 0 where
  pub logged : (k : Key) → is_logged key_eq block.log k ≡ true → block.start ≤ asked_at asked k
  pub asked_since : (k : Key) → block.start ≤ asked_at asked k
      → (is_logged key_eq block.log k ≡ true) ⊎ (block.start ≤ last_written facts k)

-- each block was entered no later than those inside it
abbrev pub AreOrdered : List OpenBlock → Type 0
AreOrdered [] = Unit {0}
AreOrdered (block ∷ inside) = All (λ b. block.start ≤ b.start) inside × AreOrdered inside

-- all open blocks have noted rightly behind these facts, by which they were entered
pub record AreNoted (facts : List UnitFacts) (opened : Opened) : Type 0 where
  pub entered : All (λ block. block.start ≤ length facts) opened.blocks
  pub ordered : AreOrdered opened.blocks
  pub asked : (k : Key) → asked_at opened.asked k ≤ length facts
  pub each : All (IsNoted opened.asked facts) opened.blocks
