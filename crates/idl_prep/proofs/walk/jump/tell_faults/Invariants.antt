use Rattle.std.proofs.Common.{◌≡◌, Option, drop}
use Rattle.idl_event.specs.declared.asked.key.RootAnswer.{RootAnswer}
use Rattle.idl_event.specs.declared.asked.key.RootKey.{RootKey}
use Rattle.idl_prep.specs.State.{onward}
use Rattle.idl_prep.specs.Told.{told}
use Rattle.idl_prep.proofs.walk.jump.tell_faults.Given as goal

abbrev pub invariant-faults : goal.invariant-faults
invariant-faults g l = (bank : RootKey → Option RootAnswer) → onward bank (told l.file (drop l.fault-index l.faults)) l.root ≡ onward bank (told l.file l.faults) l.fn.root
