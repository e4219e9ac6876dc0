use Rattle.std.proofs.Common.{None, Some, sym, ap, ◌∙◌}
use Rattle.idl_memo.specs.Query.{Done}
use Rattle.idl_event.specs.Expanding.{arrived}
use Rattle.idl_macro.specs.Directives.{ifndef, is_macro_there, is_missing}
use Rattle.idl_macro.proofs.ArrivalLemmas.{arrival-and_then}
use Rattle.idl_macro.proofs.directive.ifndef.Goals as goal

pub returns-in-Some : goal.returns-in-Some
unfolding ifndef
returns-in-Some g c =
    let it = c.args.directive.now in
    arrival-and_then (g.B.Bank.at c.args.macros.now.bank.now) (is_macro_there it.place it.word.now c.args.macros.now.definitions.now it.operands) (λ there. Done (is_missing there))
    (Some c.in-Some.is_there) c.args.progress.now c.is_macro_there.new.progress (ap (λ there. arrived there c.is_macro_there.new.progress) (sym c.in-Some.is) ∙ c.in_ok-is_there.ensures)

pub returns-in-None : goal.returns-in-None
unfolding ifndef
returns-in-None g c =
    let it = c.args.directive.now in
    arrival-and_then (g.B.Bank.at c.args.macros.now.bank.now) (is_macro_there it.place it.word.now c.args.macros.now.definitions.now it.operands) (λ there. Done (is_missing there))
    None c.args.progress.now c.is_macro_there.new.progress (ap (λ there. arrived there c.is_macro_there.new.progress) (sym c.in-None.is) ∙ c.in_ok-is_there.ensures)
