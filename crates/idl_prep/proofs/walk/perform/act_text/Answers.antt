use Rattle.std.proofs.Common.{ap, sym, ◌∙◌}
use Rattle.std.proofs.lemmas.Result.{IfOk-weaker}
use Rattle.idl_memo.specs.Query.{Done}
use Rattle.idl_macro.specs.Replace.{text}
use Rattle.idl_prep.specs.Directive.{effect}
use Rattle.idl_prep.specs.State.{ended}
use Rattle.idl_prep.proofs.WalkLaws.WayLemmas.{arrival-and_then}
use Rattle.idl_prep.proofs.walk.perform.act_text.Goals as goal

pub returns : goal.returns
unfolding effect
returns g c = IfOk-weaker c.emit.result _ _ (λ _ emitted enter.
    let way = c.args.root.now in
    let bank = g.B.Bank.at c.args.site.now.bank.now in
    ap ended emitted
    ∙ sym (arrival-and_then bank (text c.args.site.now.file.now way.state.definitions c.args.tokens.now) (λ _. Done way.state) way.progress)) c.emit.ensures
