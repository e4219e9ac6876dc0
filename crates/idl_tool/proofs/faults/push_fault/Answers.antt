use Rattle.std.proofs.Common.{◌≡◌, ◌++◌, ℕ, List, codes, refl, subst, sym}
use Rattle.std.proofs.lemmas.Result.{on_ok_weaker}
use Rattle.std.specs.Result.{OnOk}
use Rattle.idl_driver.specs.declared.failure.CompileFault.{CompileFault}
use Rattle.idl_tool.specs.Messages.{IsBehind, IsFaultMessage, IsRefusedMessage, limit_message, line_about}
use Rattle.idl_tool.proofs.faults.push_fault.Goals as goal

pub returns-in-Refused : goal.returns-in-Refused
returns-in-Refused c =
    let before = c.args.out.now.items in
    let after = c.push_refused.new.out.items in
    subst (λ (f : CompileFault). OnOk c.push_refused.result (IsBehind (IsFaultMessage f) before after)) (sym c.in-Refused.is)
    (subst (λ (n : List ℕ). OnOk c.push_refused.result (IsBehind (IsRefusedMessage n c.in-Refused.refusal) before after)) c.as_bytes.ensures.bytes c.push_refused.ensures)

pub returns-in-OverLimit : goal.returns-in-OverLimit
returns-in-OverLimit c =
    let before = c.args.out.now.items in
    let after = c.push_limit.new.out.items in
    let limit = c.in-OverLimit.limit in
    subst (λ (f : CompileFault). OnOk c.push_limit.result (IsBehind (IsFaultMessage f) before after)) (sym c.in-OverLimit.is)
    (on_ok_weaker c.push_limit.result
    (λ more. (
      limit_message c.in-OverLimit.name limit,
      refl,
      subst (λ (n : List ℕ). after ≡ before ++ limit_message n limit) c.as_bytes-in-OverLimit.ensures.bytes more,
    )) c.push_limit.ensures)

pub returns-in-CannotRead : goal.returns-in-CannotRead
returns-in-CannotRead c =
    let before = c.args.out.now.items in
    let after = c.push_unreadable.new.out.items in
    let told = codes "cannot read" in
    subst (λ (f : CompileFault). OnOk c.push_unreadable.result (IsBehind (IsFaultMessage f) before after)) (sym c.in-CannotRead.is)
    (on_ok_weaker c.push_unreadable.result
    (λ more. (
      line_about c.in-CannotRead.name told,
      refl,
      subst (λ (n : List ℕ). after ≡ before ++ line_about n told) c.as_bytes-in-CannotRead.ensures.bytes more,
    )) c.push_unreadable.ensures)
