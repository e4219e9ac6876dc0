-- What is kept of units and blocks, and where the results of a block's units and of the blocks in it
-- stand.
use Rattle.std.specs.Option.{is_none}
use Rattle.std.specs.Prelude.{◌≡◌, ◌≤◌, ◌+◌, ◌-◌, ℕ, Bool, ◌&&◌, List, [], ◌∷◌, ◌++◌, Option, Some, drop, length, map, slice_get, take}
use Rattle.idl_root_blocks.specs.idl_check.declared.walk.verdict.Verdict.{Verdict}
use Rattle.idl_root_blocks.specs.verdicts.Standing.{AreStanding, block_end}
use Rattle.idl_env.specs.Facts.{UnitFacts, answers}
use Rattle.idl_env.specs.SameAnswer.{answer_eq}
use Rattle.idl_env.specs.declared.answering.answer.Answer.{Answer}
use Rattle.idl_env.specs.declared.keys.key.Key.{Key}
use Rattle.idl_memo.specs.Kept.{Kept}
use Rattle.idl_memo.specs.Runs.{first_other}
use Rattle.idl_root_blocks.specs.Blocks.{AreCut, Block, IsOfBlock, Loose, Nothing, Pieces, cut, parts_of, text_in}
use Rattle.idl_root_blocks.specs.Met.{block_text_eq}
use Rattle.idl_root_blocks.specs.Places.{BlockPlace, block_at, block_result, blocks_over, declaration_result, declarations_over, with_entering}
use Rattle.idl_root_blocks.specs.Finding.{blocks_in, one_text, texts_in}
use Rattle.idl_root_blocks.specs.declared.text.BlockPart.{BlockPart}
use Rattle.idl_store.specs.Spots.{lists_among, result_on, results_from}
use Rattle.idl_store.specs.Stored.{Stored, discarded, grown, last_draft, list_at}
use Rattle.idl_store.specs.declared.numbers.Spot.{Spot}
use Rattle.idl_root_blocks.specs.idl_unit.declared.unit.UnitText.{UnitText}

abbrev pub DeclarationResult : Type 0
DeclarationResult = Kept Key (Option Answer) UnitText Verdict

abbrev pub BlockResult : Type 0
BlockResult = Kept Key (Option Answer) (List BlockPart) (Unit {0})

-- whether what is kept of a block is alike at the place of one, whatever units are around boundaries
abbrev pub is_like : BlockPlace → BlockResult → Bool
is_like here kept =
    block_text_eq kept.text here.0 && is_none (first_other answer_eq here.1 kept.log)

-- The results of units and those of blocks, as the roots of a project have them, the blocks in the
-- order in which they are left; and beside each block where the results of its units begin.
pub record Texts : Type 0 where
  pub declarations : Stored DeclarationResult
  pub blocks : Stored BlockResult
  pub begins : Stored ℕ

-- ---- a block where it was kept

-- pieces that are a block where they stand behind facts
pub record IsPlaced (before : List UnitFacts) (inside : Pieces) : Type 0 where
  pub cut : AreCut inside
  pub block : IsOfBlock (text_in inside)
  pub standing : AreStanding before (block_end (answers before) (parts_of (text_in inside))).1

-- what is kept of its units, and of the blocks in it
abbrev pub unit_results : List UnitFacts → Pieces → List DeclarationResult
unit_results before inside =
    map declaration_result (declarations_over (with_entering before) (text_in inside))

abbrev pub inner_results : List UnitFacts → Pieces → List BlockResult
inner_results before inside = map block_result (blocks_over (with_entering before) inside)

-- where the results of the units of the blocks among pieces begin, where those of the first unit do
-- there
abbrev pub begins_in : ℕ → Pieces → List ℕ
begins_in first Nothing = []
begins_in first (Loose part pieces) = begins_in (first + one_text part) pieces
begins_in first (Block inside pieces) =
    begins_in first inside ++ first ∷ begins_in (first + texts_in (text_in inside)) pieces

-- ---- what is kept of a root

-- what is kept of the units and of the blocks of one root, or of a draft, and where the results of
-- each block's units begin
pub record RootTexts : Type 0 where
  pub units : List DeclarationResult
  pub blocks : List BlockResult
  pub begins : List ℕ

abbrev pub root_texts : Texts → Bool → ℕ → RootTexts
root_texts texts is_draft list = record {
  units = list_at (lists_among texts.declarations is_draft) list;
  blocks = list_at (lists_among texts.blocks is_draft) list;
  begins = list_at (lists_among texts.begins is_draft) list;
}

-- What is kept of a block stands at a place of the root's blocks: that of its units from its begin
-- on, and that of the blocks in it, with their begins, before it.
pub record IsWhole (root : RootTexts) (place : ℕ) (kept : BlockResult) : Type 0 where
  pub begin : ℕ
  pub begins_at : slice_get root.begins place ≡ Some begin
  pub before : List UnitFacts
  pub inside : Pieces
  pub placed : IsPlaced before inside
  pub result : kept ≡ block_result (block_at before inside)
  pub units : let results = unit_results before inside in
      take (length results) (drop begin root.units) ≡ results
  pub after : length (inner_results before inside) ≤ place
  pub inner : let results = inner_results before inside in
      take (length results) (drop (place - length results) root.blocks) ≡ results
  pub begins : let numbers = begins_in begin inside in
      take (length numbers) (drop (place - length numbers) root.begins) ≡ numbers

-- so it is with each of its blocks
pub record AreWhole (root : RootTexts) : Type 0 where
  pub long : length root.begins ≡ length root.blocks
  pub whole : (place : ℕ) (kept : BlockResult) → slice_get root.blocks place ≡ Some kept
      → IsWhole root place kept

-- as many lists and drafts of these as of those, each draft to be the same list
pub record AreBeside {X Y : Type 0} (these : Stored X) (those : Stored Y) : Type 0 where
  pub lists : length these.lists ≡ length those.lists
  pub drafts : map (λ d. d.0) these.drafts ≡ map (λ d. d.0) those.drafts

-- the lists of units, of blocks and of begins are of the same roots, and each block of a root, or of
-- a draft, stands with all that is in it
pub record AreKept (texts : Texts) : Type 0 where
  pub units : AreBeside texts.declarations texts.blocks
  pub numbers : AreBeside texts.begins texts.blocks
  pub roots : (is_draft : Bool) (list : ℕ) → AreWhole (root_texts texts is_draft list)

-- ---- the last draft

-- its last results are those of a block's units, from this place on, and of the blocks in it
pub record IsLast (texts : Texts) (begin : ℕ) (before : List UnitFacts) (inside : Pieces)
    : Type 0 where
  pub units : drop begin (last_draft texts.declarations) ≡ unit_results before inside
  pub within : begin ≤ length (last_draft texts.declarations)
  pub earlier : List BlockResult
  pub inner : last_draft texts.blocks ≡ earlier ++ inner_results before inside
  pub numbers : List ℕ
  pub begins : last_draft texts.begins ≡ numbers ++ begins_in begin inside

-- with more results of units in the last draft; and of blocks, beside which these numbers stand
abbrev pub with_units : Texts → List DeclarationResult → Texts
with_units texts more = record texts { declarations = grown texts.declarations more }

abbrev pub with_blocks : Texts → List BlockResult → List ℕ → Texts
with_blocks texts more begins = record texts {
  blocks = grown texts.blocks more;
  begins = grown texts.begins begins;
}

-- with all that is kept of a block where it stands
abbrev pub with_whole : Texts → List UnitFacts → Pieces → Texts
with_whole texts before inside =
    let begin = length (last_draft texts.declarations) in
    with_blocks (with_units texts (unit_results before inside))
    (inner_results before inside ++ block_result (block_at before inside) ∷ [])
    (begins_in begin inside ++ begin ∷ [])

-- without the drafts of all three
abbrev pub without_drafts : Texts → Texts
without_drafts texts = record {
  declarations = discarded texts.declarations;
  blocks = discarded texts.blocks;
  begins = discarded texts.begins;
}

-- the lists of all three are as they were, whatever has become of the drafts
pub record AreListsOf (old new : Texts) : Type 0 where
  pub declarations : new.declarations.lists ≡ old.declarations.lists
  pub blocks : new.blocks.lists ≡ old.blocks.lists
  pub begins : new.begins.lists ≡ old.begins.lists

-- ---- a block that is taken whole

-- where the results of units begin that began at a place, once those from there on stand from
-- another place on
abbrev pub moved : ℕ → ℕ → ℕ → ℕ
moved from to begin = begin - from + to

-- a block stands at a spot, with so many units and so many blocks in it, as its text tells
pub record IsBlockOn (texts : Texts) (spot : Spot) (own nested : ℕ) : Type 0 where
  pub kept : BlockResult
  pub there : result_on texts.blocks spot ≡ Some kept
  pub units : own ≡ texts_in kept.text
  pub inner : nested ≡ blocks_in (cut kept.text)

-- The last draft has now what is kept of a block, as it stood behind facts once, and of what is in
-- it. The results of its units stood from a spot on, and stand there still.
pub record IsTaken (old new : Texts) (kept : BlockResult) (from : Spot) : Type 0 where
  pub there : List UnitFacts
  pub inside : Pieces
  pub placed : IsPlaced there inside
  pub result : kept ≡ block_result (block_at there inside)
  pub whole : new ≡ with_whole old there inside
  pub known : let results = unit_results there inside in
      results_from old.declarations from (length results) ≡ results
  pub units : let results = unit_results there inside in
      results_from new.declarations from (length results) ≡ results
