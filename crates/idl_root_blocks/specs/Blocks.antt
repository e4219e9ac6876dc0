-- The blocks of a root: the files that it includes whose two boundaries stand inside no unit, and
-- each of whose closings closes a scope that was opened there.
-- What is held of a text tells of each boundary whether a unit is around it, so that it tells the
-- blocks inside. Two blocks have one text where that alone differs (`plain_text`).
use Rattle.std.specs.Prelude.{◌≡◌, ℕ, ◌^◌, zero, suc, Bool, false, List, [], ◌∷◌, ◌++◌, Option, None, Some, length, map, if◌then◌else◌}
use Rattle.std.specs.Hash as fed
use Rattle.std.specs.List.{list_any}
use Rattle.idl_block.specs.Blocks.{Part, Text as UnitPart, Boundary}
use Rattle.idl_root_blocks.specs.verdicts.Standing.{part_step}
use Rattle.idl_env.specs.declared.additions.addition.Step.{Step}
use Rattle.idl_env.specs.declared.additions.addition.Step.TheVariants.{Enters as EntersFile, Leaves as LeavesFile}
use Rattle.idl_block.specs.facts.Beneath.{Depth, deepened}
use Rattle.idl_root_blocks.specs.declared.text.BlockPart.{BlockPart}
use Rattle.idl_root_blocks.specs.declared.text.BlockPart.TheVariants.{Text, Enters, Leaves}
use Rattle.idl_unit.specs.contracts.unit.UnitTextHash.TheImpl.{ghosts as units}
use Rattle.idl_unit.specs.declared.unit.UnitText.{UnitText}

-- ---- the text, whatever units are around boundaries

-- a part so, and a text
abbrev pub plain_part : BlockPart → BlockPart
plain_part (Text unit) = Text unit
plain_part (Enters inside) = Enters false
plain_part (Leaves inside) = Leaves false

abbrev pub plain_text : List BlockPart → List BlockPart
plain_text text = map plain_part text

-- whether a part is a boundary around which a unit is, and whether one of a text is
abbrev pub is_enclosed : BlockPart → Bool
is_enclosed (Text unit) = false
is_enclosed (Enters inside) = inside
is_enclosed (Leaves inside) = inside

abbrev pub has_enclosed : List BlockPart → Bool
has_enclosed text = list_any is_enclosed text

-- what a part feeds to a hasher
abbrev pub part_writes : BlockPart → List (List ℕ)
part_writes (Text unit) = units.hash_input unit
part_writes (Enters inside) = fed.u8 0
part_writes (Leaves inside) = fed.u8 1

-- the hint by which blocks are found: those with such a boundary in them are told from the others
abbrev pub text_hint : List BlockPart → ℕ
text_hint text = if has_enclosed text then 2 ^ 32 else 0

-- ---- which units are a block: their text tells

-- what a part of a text does
abbrev pub part_of : BlockPart → Part UnitText Step
part_of (Text text) = UnitPart text
part_of (Enters inside) = Boundary EntersFile
part_of (Leaves inside) = Boundary LeavesFile

abbrev pub parts_of : List BlockPart → List (Part UnitText Step)
parts_of text = map part_of text

-- no scope was opened and no file entered yet
abbrev pub level : Depth
level = record { scopes = 0; files = 0 }

-- how many scopes and files are open behind a text, beside those of before: nothing is told where it
-- closes or leaves one of those
abbrev pub depth_behind : Depth → List BlockPart → Option Depth
depth_behind d [] = Some d
depth_behind d (part ∷ text) =
    elim (deepened d (part_step (part_of part)))
    [ None ↦ None | Some next ↦ depth_behind next text ]

-- This text may stand between the two boundaries of a block: each file that it enters it leaves, and no
-- other, and each of its closings closes a scope that it opened. It may leave scopes open.
pub record IsOfBlock (text : List BlockPart) : Type 0 where
  pub scopes : ℕ
  pub behind : depth_behind level text ≡ Some (record { scopes = scopes; files = 0 })

-- ---- how a text falls into blocks

-- a text cut into pieces: loose parts, and blocks, in which there are pieces again
pub data Pieces : Type 0 where
  Nothing : Pieces
  Loose : BlockPart → Pieces → Pieces
  Block : Pieces → Pieces → Pieces

-- the text of pieces: that of a block stands between its two boundaries
abbrev pub text_in : Pieces → List BlockPart
text_in Nothing = []
text_in (Loose part pieces) = part ∷ text_in pieces
text_in (Block inside pieces) = Enters false ∷ (text_in inside ++ Leaves false ∷ text_in pieces)

-- a block begins with a part, where this text stands behind it
pub record BeginsBlock (part : BlockPart) (text : List BlockPart) : Type 0 where
  pub inside : List BlockPart
  pub behind : List BlockPart
  pub entered : part ≡ Enters false
  pub whole : text ≡ inside ++ Leaves false ∷ behind
  pub block : IsOfBlock inside

-- what stands as a block is one, and no loose part begins one
abbrev pub AreCut : Pieces → Type 0
AreCut Nothing = Unit {0}
AreCut (Loose part pieces) = ¬ BeginsBlock part (text_in pieces) × AreCut pieces
AreCut (Block inside pieces) = IsOfBlock (text_in inside) × (AreCut inside × AreCut pieces)

-- ---- the pieces of a text

-- the text of a block, and what stands behind its leaving
pub record Split : Type 0 where
  pub inside : List BlockPart
  pub behind : List BlockPart

-- with a part more in front
abbrev pub with_first : BlockPart → Option Split → Option Split
with_first part None = None
with_first part (Some s) = Some (record s { inside = part ∷ s.inside })

-- and behind a depth, where there is one
abbrev pub behind_depth : (Depth → Option Split) → Option Depth → Option Split
behind_depth split None = None
behind_depth split (Some d) = split d

-- this text up to where the file is left in which it stands, if it is a block's, where so many scopes
-- and files are open since that was entered
abbrev pub split_from : Depth → List BlockPart → Option Split
split_from d [] = None
split_from d (Text unit ∷ text) =
    with_first (Text unit)
    (behind_depth (λ next. split_from next text) (deepened d (part_step (UnitPart unit))))
split_from d (Enters inside ∷ text) =
    with_first (Enters inside) (split_from (record d { files = suc d.files }) text)
split_from d (Leaves inside ∷ text) = elim d.files [
  | zero ↦ if inside then None else Some (record { inside = []; behind = text })
  | suc n ↦ with_first (Leaves inside) (split_from (record d { files = n }) text)
]

-- a file that is entered, and this text behind that: cut into pieces so
abbrev pub pieces_by : (List BlockPart → Pieces) → List BlockPart → Option Split → Pieces
pieces_by cut_so text None = Loose (Enters false) (cut_so text)
pieces_by cut_so text (Some s) = Block (cut_so s.inside) (cut_so s.behind)

-- the pieces of a text that has no more parts than so many
abbrev pub cut_within : ℕ → List BlockPart → Pieces
cut_within zero text = Nothing
cut_within (suc n) [] = Nothing
cut_within (suc n) (Enters false ∷ text) = pieces_by (cut_within n) text (split_from level text)
cut_within (suc n) (part ∷ text) = Loose part (cut_within n text)

unfoldable pub cut : List BlockPart → Pieces
cut text = cut_within (length text) text
