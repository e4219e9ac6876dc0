use Rattle.std.proofs.Common.{◌≡◌, flat_map, take}
use Rattle.idl_prep.specs.Root.{absent_file}
use Rattle.idl_prep.proofs.walk.root_task.absent.Given as goal

abbrev pub invariant-entries : goal.invariant-entries
invariant-entries g l = l.names.items ≡ flat_map absent_file (take l.index l.log)
