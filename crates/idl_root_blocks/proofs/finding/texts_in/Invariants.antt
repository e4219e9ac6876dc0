use Rattle.std.proofs.Common.{◌≡◌, ◌≤◌, take}
use Rattle.idl_root_blocks.specs.Finding.{texts_in}
use Rattle.idl_root_blocks.specs.Units.{text_of}
use Rattle.idl_root_blocks.proofs.finding.texts_in.Given as goal

-- those among the units so far
abbrev pub invariant-loop-unit : goal.invariant-loop-unit
invariant-loop-unit l = (l.count ≡ texts_in (text_of (take l.unit-index l.units))) × (l.count ≤ l.unit-index)
