use Rattle.std.proofs.Common.{◌≡◌, ◌≤◌, drop, take}
use Rattle.idl_root_blocks.specs.Blocks.{level, split_from}
use Rattle.idl_root_blocks.specs.Finding.{depth_of}
use Rattle.idl_root_blocks.specs.Units.{text_of}
use Rattle.idl_root_blocks.proofs.Scans.{split_behind}
use Rattle.idl_root_blocks.proofs.finding.inside_of.Given as goal

-- no more scopes and files are open than there were units, and what is left tells how the text is split
abbrev pub invariant-loop-place : goal.invariant-loop-place
invariant-loop-place l =
    (l.depth.scopes ≤ l.place) × ((l.depth.files ≤ l.place)
    × (split_from level (text_of l.units) ≡ split_behind (text_of (take l.place l.units)) (split_from (depth_of l.depth) (text_of (drop l.place l.units)))))
