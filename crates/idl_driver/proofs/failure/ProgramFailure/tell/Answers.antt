use Rattle.std.proofs.Common.{◌≡◌, ℕ, List, codes, subst, sym}
use Rattle.std.specs.Result.{OnOk}
use Rattle.idl_source.specs.devices.Device.{append}
use Rattle.idl_driver.specs.Messages.{message_of, named_line}
use Rattle.idl_driver.specs.declared.failure.ProgramFailure.{ProgramFailure}
use Rattle.idl_driver.proofs.failure.ProgramFailure.tell.Goals as goal

pub returns-in-CannotRead-clause-told : goal.returns-in-CannotRead-clause-told
returns-in-CannotRead-clause-told g c =
    let before = g.K.Sink.written c.args.errors.now in
    let after = g.K.Sink.written c.tell_of.new.errors in
    let program = c.args.program.now in
    subst (λ (f : ProgramFailure). OnOk c.tell_of.result (after ≡ append before (message_of program f))) (sym c.in-CannotRead.is)
    (subst (λ (name : List ℕ). OnOk c.tell_of.result (after ≡ append before (named_line program name (codes "cannot read")))) c.as_bytes-in-CannotRead.ensures.bytes c.tell_of.ensures.told)
