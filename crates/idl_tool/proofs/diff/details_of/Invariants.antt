use Rattle.std.proofs.Common.{◌≡◌, map, take}
use Rattle.idl_inputs.specs.Bank.{bank_of}
use Rattle.idl_driver.specs.idl_sources.Details.{details_over}
use Rattle.idl_tool.proofs.diff.details_of.Given as goal

-- those so far
abbrev pub invariant-roots : goal.invariant-roots
invariant-roots l =
    l.all.items ≡ map (details_over (bank_of l.sources)) (take l.root-index l.roots)
