use Rattle.std.proofs.Common.{None, Some, ap, ◌∙◌}
use Rattle.std.proofs.lemmas.Result.{on_ok_weaker}
use Rattle.idl_event.specs.Expanding.{arrival, arrived}
use Rattle.idl_macro.proofs.DirectiveLemmas.{undef-by}
use Rattle.idl_macro.proofs.directive.undef.Goals as goal

pub returns-in_ok-remove-in-Some : goal.returns-in_ok-remove-in-Some
returns-in_ok-remove-in-Some g c = λ bank.
    let it = c.args.directive.now in
    ap (λ definitions. arrived definitions c.args.progress.now) c.in_ok-remove-in-Some.ensures.ok
    ∙ ap (λ query. arrival bank query c.args.progress.now)
    (undef-by it.place it.word.now c.args.definitions.now it.operands (Some c.in-Some.word.now) c.in-Some.ensures)

pub returns-in-None : goal.returns-in-None
returns-in-None g c =
    let it = c.args.directive.now in
    on_ok_weaker c.malformed.result
    (λ told bank. ap (arrived c.args.definitions.now) told
    ∙ ap (λ query. arrival bank query c.args.progress.now)
    (undef-by it.place it.word.now c.args.definitions.now it.operands None c.in-None.ensures))
    c.malformed.ensures
