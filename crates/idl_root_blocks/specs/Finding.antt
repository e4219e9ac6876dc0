-- How a block is found among units.
use Rattle.std.specs.Prelude.{◌≡◌, ℕ, ◌+◌, zero, suc, Bool, false, List, [], ◌∷◌, ◌++◌, Option, None, Some, sum_by}
use Rattle.idl_block.specs.facts.Beneath.{Depth}
use Rattle.idl_root_blocks.specs.Blocks.{Block, Loose, Nothing, Pieces}
use Rattle.idl_root_blocks.specs.declared.finding.OpenCounts.{OpenCounts}
use Rattle.idl_root_blocks.specs.declared.text.BlockPart.{BlockPart}
use Rattle.idl_root_blocks.specs.declared.text.BlockPart.TheVariants.{Text, Enters, Leaves}
use Rattle.idl_root_blocks.specs.Units.{parts_of_unit}
use Rattle.idl_unit.specs.declared.unit.Unit.{Unit as RootUnit}

-- how many are open
abbrev pub depth_of : OpenCounts → Depth
depth_of d = record { scopes = d.scopes; files = d.files }

-- how many units with tokens a text has, and how many blocks there are among pieces
abbrev pub one_text : BlockPart → ℕ
one_text (Text unit) = 1
one_text (Enters inside) = 0
one_text (Leaves inside) = 0

abbrev pub texts_in : List BlockPart → ℕ
texts_in text = sum_by one_text text

abbrev pub blocks_in : Pieces → ℕ
blocks_in Nothing = 0
blocks_in (Loose part pieces) = blocks_in pieces
blocks_in (Block inside pieces) = blocks_in inside + suc (blocks_in pieces)

-- pieces behind loose parts
abbrev pub in_front : List BlockPart → Pieces → Pieces
in_front [] pieces = pieces
in_front (part ∷ parts) pieces = Loose part (in_front parts pieces)

-- where so many files are open in a block, whether the first part leaves its own file, and then
-- whether that stands inside a unit
abbrev pub left_by : ℕ → List BlockPart → Option Bool
left_by files (Leaves inside ∷ text) = elim files [ zero ↦ Some inside | suc n ↦ None ]
left_by files other = None

-- the first of these units stand in a file up to where it is left, which stands inside no unit, and
-- others behind that
pub record IsLeftBehind (units inside others : List RootUnit) : Type 0 where
  pub leaving : RootUnit
  pub left : parts_of_unit leaving ≡ Leaves false ∷ []
  pub whole : units ≡ inside ++ leaving ∷ others

-- so it is behind a unit that enters that file, and stands inside no unit either
pub record IsFirstBlock (unit : RootUnit) (units inside others : List RootUnit) : Type 0 where
  pub entered : parts_of_unit unit ≡ Enters false ∷ []
  pub behind : IsLeftBehind units inside others
