use Rattle.std.proofs.Common.{◌≡◌, ◌≤◌, ◌+◌, length}
use Rattle.idl_root_blocks.specs.Blocks.{cut}
use Rattle.idl_root_blocks.specs.Finding.{blocks_in}
use Rattle.idl_root_blocks.specs.Units.{text_of}
use Rattle.idl_root_blocks.proofs.finding.+blocks_in.Given as goal

-- those so far and those of the units that are left are all; there are no more than units
abbrev pub invariant-units : goal.invariant-units
invariant-units l =
    (l.count + blocks_in (cut (text_of l.left)) ≡ blocks_in (cut (text_of l.units))) × (l.count + length l.left ≤ length l.units)

abbrev pub decreases-units : goal.decreases-units
decreases-units l = length l.left

abbrev pub decreases-blocks_in : goal.decreases-blocks_in
decreases-blocks_in l = length l.units.now
