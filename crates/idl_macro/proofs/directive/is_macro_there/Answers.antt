use Rattle.std.proofs.Common.{None, Some, is_some, ap, ◌∙◌}
use Rattle.std.specs.Option.{option_copied}
use Rattle.idl_memo.specs.Query.{Done}
use Rattle.idl_event.specs.Expanding.{arrival, arrived}
use Rattle.idl_macro.specs.Macros.{macro_of}
use Rattle.idl_macro.proofs.ArrivalLemmas.{arrival-and_then}
use Rattle.idl_macro.proofs.DirectiveLemmas.{is_macro_there-by, is_some-tokens}
use Rattle.idl_macro.proofs.directive.is_macro_there.Goals as goal

pub returns-in_ok-body-in-Some : goal.returns-in_ok-body-in-Some
returns-in_ok-body-in-Some g c =
    let bank = g.B.Bank.at c.args.macros.now.bank.now in
    let definitions = c.args.macros.now.definitions.now in
    let it = c.args.directive.now in
    let word = c.in-Some.word.now in
    let found = c.in_ok-body-in-Some in
    ap (λ there. arrived (Some there) c.macro_of.new.progress) (c.is_some.ensures ∙ is_some-tokens found.body)
    ∙ arrival-and_then bank (macro_of definitions word) (λ body. Done (Some (is_some body))) (option_copied found.body) c.args.progress.now c.macro_of.new.progress found.ensures
    ∙ ap (λ query. arrival bank query c.args.progress.now)
    (is_macro_there-by it.place it.word.now definitions it.operands (Some word) c.in-Some.ensures)

pub returns-in_ok-malformed-in-None : goal.returns-in_ok-malformed-in-None
returns-in_ok-malformed-in-None g c =
    let it = c.args.directive.now in
    ap (arrived None) c.in_ok-malformed-in-None.ensures
    ∙ ap (λ query. arrival (g.B.Bank.at c.args.macros.now.bank.now) query c.args.progress.now)
    (is_macro_there-by it.place it.word.now c.args.macros.now.definitions.now it.operands None c.in-None.ensures)
