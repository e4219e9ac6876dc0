use Rattle.std.proofs.Common.{◌≡◌, false, subst, rules}
use Rattle.idl_editor.specs.frames.Heads.{HasNoHead, IsHeadAt, NeverHasHead}
use Rattle.idl_editor.specs.frames.Reading.{BeginsNoMessage, BeginsOverLimit}
use Rattle.idl_editor.proofs.ReadingLemmas.{begins-none, begins-over}
use Rattle.idl_editor.proofs.frames.reader.Reader.receive.Goals as goal

pub returns-in-OverLimit-clause-received : goal.returns-in-OverLimit-clause-received
returns-in-OverLimit-clause-received g c =
    let rest = g.S.Source.remaining c.heads.source in
    let over = c.in-OverLimit.ensures in
    let held : c.deref.result.now ≡ c.heads.self = cc in
    let at : IsHeadAt c.heads.self over.0 over.1 = subst (λ h. IsHeadAt h over.0 over.1) held over.2 in
    (subst BeginsOverLimit c.heads.invariant.same (begins-over rest c.heads.self over.0 over.1 at over.3), c.heads.invariant.same)

pub returns-in-Missing-clause-received : goal.returns-in-Missing-clause-received
returns-in-Missing-clause-received g c =
    let rest = g.S.Source.remaining c.heads.source in
    let held : c.deref.result.now ≡ c.heads.self = cc in
    (subst BeginsNoMessage c.heads.invariant.same (begins-none rest c.heads.self (subst NeverHasHead held c.in-Missing.ensures)), c.heads.invariant.same)

pub ended-requires : goal.ended-requires
ended-requires g c =
    let none : c.in_ok-fill-in-Begun.field-0 ≡ false = search rules in
    let over = c.in_ok-fill-in-Begun.ensures.ended none in
    let held : c.deref.result.now ≡ c.fill.new.self = cc in
    subst HasNoHead held c.in-Begun.ensures
