use Rattle.std.proofs.Common.{◌≡◌, ℕ, List, codes, refl, subst, sym}
use Rattle.std.proofs.lemmas.Result.{on_ok_weaker}
use Rattle.std.specs.Result.{OnOk}
use Rattle.idl_source.specs.devices.Device.{append}
use Rattle.idl_driver.specs.Messages.{message_of, name_of}
use Rattle.idl_driver.specs.declared.failure.ProgramFailure.{ProgramFailure}
use Rattle.idl_tool.specs.Messages.{IsProgramTold, IsRefusalTold, limit_message}
use Rattle.idl_tool.proofs.FailureLemmas.{plain}
use Rattle.idl_tool.proofs.failure.tell_program.Goals as goal

pub returns-in-Refused-clause-told : goal.returns-in-Refused-clause-told
returns-in-Refused-clause-told g c =
    let before = g.K.Sink.written c.args.errors.now in
    let after = g.K.Sink.written c.tell_refusal.new.errors in
    subst (λ (f : ProgramFailure). OnOk c.tell_refusal.result (IsProgramTold f before after)) (sym c.in-Refused.is)
    (subst (λ (name : List ℕ). OnOk c.tell_refusal.result (IsRefusalTold name c.in-Refused.refusal before after)) c.as_bytes.ensures c.tell_refusal.ensures.told)

pub returns-in_default-clause-told : goal.returns-in_default-clause-told
returns-in_default-clause-told g c =
    let failure = c.args.failure.now in
    on_ok_weaker c.tell.result (λ out. (message_of (codes "idltool") failure, plain failure c.in_default.not-Refused c.in_default.not-OverLimit, out)) c.tell.ensures.told

pub returns-in-OverLimit-clause-told : goal.returns-in-OverLimit-clause-told
returns-in-OverLimit-clause-told g c =
    let before = g.K.Sink.written c.args.errors.now in
    let after = g.K.Sink.written c.tell_limit.new.errors in
    let limit = c.in-OverLimit.limit in
    subst (λ (f : ProgramFailure). OnOk c.tell_limit.result (IsProgramTold f before after)) (sym c.in-OverLimit.is)
    (on_ok_weaker c.tell_limit.result
    (λ out. (limit_message (name_of c.in-OverLimit.subject) limit, refl, subst (λ (name : List ℕ). after ≡ append before (limit_message name limit)) c.as_bytes-in-OverLimit.ensures out)) c.tell_limit.ensures.told)
