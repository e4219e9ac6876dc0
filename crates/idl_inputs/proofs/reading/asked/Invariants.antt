use Rattle.std.proofs.Common.{◌≡◌, flat_map, take}
use Rattle.idl_inputs.specs.Asked.{asked_file}
use Rattle.idl_inputs.proofs.reading.asked.Given as goal

abbrev pub invariant-entries : goal.invariant-entries
invariant-entries l = l.names.items ≡ flat_map asked_file (take l.index l.log)
