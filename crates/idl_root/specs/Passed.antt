-- What the judging of a root comes to behind pieces of its units, where their results are kept and
-- blocks are open.
use Rattle.std.specs.Prelude.{◌≡◌, ◌≤◌, ℕ, List, [], ◌∷◌, ◌++◌, length, map}
use Rattle.idl_root_blocks.specs.verdicts.Standing.{IsBlockFront}
use Rattle.idl_env.specs.Facts.{UnitFacts}
use Rattle.idl_kept.specs.Texts.{DeclarationResult, IsLast, IsPlaced, Texts, begins_in, unit_results, with_blocks, with_units, with_whole}
use Rattle.idl_memo.specs.Meter.{compared_after, most_compared}
use Rattle.idl_memo.specs.declared.meter.Meter.{Meter}
use Rattle.idl_root.specs.Compared.{AreOf}
use Rattle.idl_root.specs.Followed.{IsKeeping, added_by}
use Rattle.idl_root.specs.Results.{ChecksOnly, HasDraft, IsDeclarationPass, marks_in}
use Rattle.idl_root.specs.declared.kept.keeping.Keeping.{Keeping}
use Rattle.idl_root.specs.declared.kept.known.Known.{Known}
use Rattle.idl_root_blocks.specs.Asking.{IsOpen, OpenBlock, kept_of}
use Rattle.idl_root_blocks.specs.Blocks.{Pieces, cut, parts_of, text_in}
use Rattle.idl_root_blocks.specs.Met.{Known as KnownTasks, compared, met_over, outermost_keys}
use Rattle.idl_root_blocks.specs.Places.{Stands, block_at, block_result, blocks_over, declaration_result, declarations_over, facts_over, with_entering}
use Rattle.idl_root_blocks.specs.declared.text.BlockPart.{BlockPart}
use Rattle.idl_store.specs.Spots.{results_from}
use Rattle.idl_store.specs.Stored.{last_draft, results_in}

-- ---- open blocks

-- An open block goes on with a text behind these facts: if it had noted what its units asked up to
-- there, it has so behind that text.
pub record GoesOn (facts : List UnitFacts) (text : List BlockPart) (old new : OpenBlock)
    : Type 0 where
  pub text_is : new.text ≡ old.text
  pub noted : (before : List UnitFacts) (passed : List BlockPart)
      → IsBlockFront (parts_of (passed ++ text)) → Stands before (passed ++ text)
      → IsOpen before passed facts old
      → IsOpen before (passed ++ text) (facts_over facts text) new

-- each of these does
pub record AllGoOn (facts : List UnitFacts) (text : List BlockPart) (old new : List OpenBlock)
    : Type 0 where
  pub by : OpenBlock → OpenBlock
  pub all : new ≡ map by old
  pub each : (block : OpenBlock) → GoesOn facts text block (by block)

-- how many keys were asked outside all blocks, when so many more were asked where these are open
abbrev pub keys_behind : List OpenBlock → ℕ → ℕ → ℕ
keys_behind [] keys more = compared_after keys more
keys_behind (block ∷ blocks) keys more = keys

-- ---- what is kept

-- with all that is kept of the units and the blocks among pieces behind facts
abbrev pub with_kept : Texts → List UnitFacts → Pieces → Texts
with_kept texts facts pieces =
    with_blocks
    (with_units texts (map declaration_result (declarations_over facts (text_in pieces))))
    (map block_result (blocks_over facts pieces))
    (begins_in (length (last_draft texts.declarations)) pieces)

-- there are drafts, in which what is made of a root is kept
pub record HasDrafts (texts : Texts) : Type 0 where
  pub declarations : HasDraft texts.declarations
  pub blocks : HasDraft texts.blocks
  pub begins : HasDraft texts.begins

-- The innermost of open blocks, which stands inside these others, may be kept, where it is left: behind
-- these facts it was entered, these pieces have come since, and what is kept of its units stands last,
-- from there on.
pub record MayBeLeft (texts : Texts) (begin : ℕ) (before : List UnitFacts) (inside : Pieces)
    (others all : List OpenBlock) : Type 0 where
  pub block : OpenBlock
  pub innermost : all ≡ others ++ block ∷ []
  pub placed : IsPlaced before inside
  pub last : IsLast texts begin before inside
  pub kept : kept_of block ≡ block_result (block_at before inside)

-- A block of a text stands behind these facts, and comes there to what pieces came to where they stood
-- as a block: so all that was kept of that is kept of it.
pub record IsSameBlock (facts : List UnitFacts) (text : List BlockPart) (there : List UnitFacts)
    (inside : Pieces) : Type 0 where
  pub stands : Stands facts text
  pub facts_are : facts_over (with_entering facts) text
      ≡ with_entering facts ++ added_by (marks_in text) (unit_results there inside)
  pub units : unit_results facts (cut text) ≡ unit_results there inside
  pub whole : (texts : Texts) → with_whole texts facts (cut text) ≡ with_whole texts there inside

-- the results of units that are known: so many from a spot on
abbrev pub known_results : Known → ℕ → List DeclarationResult
known_results known count = results_from known.declarations.now known.spot count

-- ---- all of it

-- no more of what is judged differs than what the units were, and what of before is gone through
abbrev pub WalksOnly : Keeping → Keeping → Type 0
WalksOnly old new = new ≡ record old {
  marks = new.marks;
  following = new.following;
  scratch = new.scratch;
}

-- nor more than what is gone through, where a unit is judged, and what was run and compared for it
abbrev pub JudgesOnly : Keeping → Keeping → Type 0
JudgesOnly old new = new ≡ record old {
  following = new.following;
  scratch = new.scratch;
  meter = new.meter;
}

-- Pieces of a root's units behind facts are passed, where this was kept and judged before them, and
-- that is behind them.
pub record ArePassed (facts : List UnitFacts) (pieces : Pieces) (kept : Texts) (keeping : Keeping)
    (kept_behind : Texts) (behind : Keeping) : Type 0 where
  pub kept_is : kept_behind ≡ with_kept kept facts pieces
  pub marks : behind.marks.items ≡ keeping.marks.items ++ marks_in (text_in pieces)
  pub keeping_is : IsKeeping kept.declarations.lists behind (facts_over facts (text_in pieces))
  pub earlier : behind.earlier ≡ keeping.earlier
  pub counts : IsDeclarationPass (declarations_over facts (text_in pieces))
      (results_in kept.declarations) (results_in kept_behind.declarations)
      keeping.meter.checked behind.meter.checked
  pub others : ChecksOnly keeping.meter behind.meter
  pub blocks : AllGoOn facts (text_in pieces) keeping.blocks.blocks behind.blocks.blocks
  pub keys : keeping.keys ≤ most_compared
      → behind.keys ≡ keys_behind keeping.blocks.blocks keeping.keys (outermost_keys facts pieces)

-- and at so many keys known tasks are compared where they are met among these pieces
abbrev pub Compares : List UnitFacts → Pieces → Texts → Meter → Meter → Type 0
Compares facts pieces kept before after =
    (known : KnownTasks) → AreOf known kept → before.compared ≤ most_compared
    → after.compared ≡ compared_after before.compared (compared (met_over known facts pieces))
