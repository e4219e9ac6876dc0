use Rattle.std.proofs.Common.{Option, None, Some, ap, sym, ◌∙◌}
use Rattle.std.proofs.lemmas.Result.{IfOk-weaker}
use Rattle.idl_event.specs.Expanding.{arrived}
use Rattle.idl_prep.specs.Include.{Operand}
use Rattle.idl_prep.specs.State.{ended}
use Rattle.idl_prep.proofs.DirectiveLemmas.{onward-including}
use Rattle.idl_prep.proofs.directives.include.include.Goals as goal

pub returns-in_default : goal.returns-in_default
returns-in_default g c = λ enter.
    let site = c.args.site.now in
    let first = c.operand_of.new.self in
    let read = ap (λ (o : Option Operand). arrived o first.progress) (sym c.in_default.is) ∙ c.in_ok-operand.ensures.arrival in
    ap ended c.in_ok-fault_at.ensures
    ∙ onward-including (g.B.Bank.at site.bank.now) enter site.file.now c.args.directive.now None c.args.root.now first c.in_ok-operand.ensures.state read

pub returns : goal.returns
returns g c = IfOk-weaker c.included.result _ _ (λ _ came enter.
    let site = c.args.site.now in
    let first = c.operand_of.new.self in
    let read = ap (λ (o : Option Operand). arrived o first.progress) (sym c.in-Some.is) ∙ c.in_ok-operand.ensures.arrival in
    came enter
    ∙ onward-including (g.B.Bank.at site.bank.now) enter site.file.now c.args.directive.now (Some c.in-Some.operand) c.args.root.now first c.in_ok-operand.ensures.state read) c.included.ensures
