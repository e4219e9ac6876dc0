use Rattle.std.proofs.Common.{None, Some, true, false, ap, ◌∙◌}
use Rattle.std.proofs.lemmas.Result.{on_ok_weaker}
use Rattle.std.specs.Option.{option_copied}
use Rattle.idl_event.specs.Expanding.{arrival, arrived}
use Rattle.idl_lex.specs.tokens.Tokens.{tokens_in}
use Rattle.idl_macro.specs.Directives.{differs, saying}
use Rattle.idl_macro.proofs.DirectiveLemmas.{arrival-define, define-by}
use Rattle.idl_macro.proofs.directive.define.Goals as goal

pub returns-in_default : goal.returns-in_default
returns-in_default g c =
    let it = c.args.directive.now in
    on_ok_weaker c.malformed.result
    (λ told. ap (arrived c.args.definitions.now) told
    ∙ ap (λ query. arrival (g.B.Bank.at c.args.bank.now) query c.args.progress.now) (define-by it.place it.word.now c.args.definitions.now it.operands None c.in_default.ensures))
    c.malformed.ensures

pub returns-then-differs : goal.returns-then-differs
returns-then-differs g c =
    let it = c.args.directive.now in
    let old = option_copied c.in_ok-old.old in
    on_ok_weaker c.other_definition.result
    (λ told. ap (arrived c.args.definitions.now) told
    ∙ arrival-define it.place it.word.now c.args.definitions.now it.operands (g.B.Bank.at c.args.bank.now) c.args.progress.now c.macro_of.new.progress
    c.in-Some.word.now (tokens_in c.in-Some.body) old c.in-Some.ensures c.in_ok-old.ensures true (c.if-differs.ensures ∙ ap (differs old) c.as_slice.ensures))
    c.other_definition.ensures

pub returns : goal.returns
returns g c =
    let it = c.args.directive.now in
    let old = option_copied c.in_ok-old.old in
    ap (λ definitions. arrived definitions c.macro_of.new.progress) (c.in_ok-define.ensures.ok ∙ ap (λ body. saying c.args.definitions.now c.in-Some.word.now (Some body)) c.in_ok-shared.ensures)
    ∙ arrival-define it.place it.word.now c.args.definitions.now it.operands (g.B.Bank.at c.args.bank.now) c.args.progress.now c.macro_of.new.progress
    c.in-Some.word.now (tokens_in c.in-Some.body) old c.in-Some.ensures c.in_ok-old.ensures false (c.if-differs.ensures ∙ ap (differs old) c.as_slice.ensures)
