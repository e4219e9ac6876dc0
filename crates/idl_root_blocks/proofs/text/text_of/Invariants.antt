use Rattle.std.proofs.Common.{◌≡◌, take}
use Rattle.idl_root_blocks.specs.Units.{text_of}
use Rattle.idl_root_blocks.proofs.text.text_of.Given as goal

-- the text of the units so far
abbrev pub invariant-loop-unit : goal.invariant-loop-unit
invariant-loop-unit l = l.parts.items ≡ text_of (take l.unit-index l.units)
