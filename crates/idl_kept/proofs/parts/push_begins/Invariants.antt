use Rattle.std.proofs.Common.{◌≡◌, map, take}
use Rattle.idl_kept.specs.Parts.{inner_from}
use Rattle.idl_kept.specs.Texts.{moved}
use Rattle.idl_store.specs.Stored.{grown}
use Rattle.idl_kept.proofs.parts.push_begins.Given as goal

-- those of the first blocks are there
abbrev pub invariant-loop-nth : goal.invariant-loop-nth
invariant-loop-nth l = l.begins ≡ grown l.fn.begins (map (moved l.from l.to) (take l.nth (inner_from l.fn.begins l.part)))
