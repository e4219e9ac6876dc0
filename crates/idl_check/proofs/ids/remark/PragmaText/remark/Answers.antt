use Rattle.std.proofs.Common.{sym, ap, ◌∙◌}
use Rattle.std.proofs.lemmas.Result.{IfOk-weaker}
use Rattle.idl_check.specs.ids.Remarks.{remark}
use Rattle.idl_env.specs.Facts.{answers}
use Rattle.idl_parts.specs.declared.part.TextPurpose.{TextPurpose}
use Rattle.idl_scope.proofs.LookupLaws.RunLemmas.{runs}
use Rattle.idl_check.proofs.ids.remark.PragmaText.remark.Goals as goal

pub returns-in-Id : goal.returns-in-Id
returns-in-Id c =
    let own = c.args.view.own.now.additions in
    let bank = answers c.args.view.env.now in
    let e = c.args.entity.now in
    let text = c.args.self.characters.now in
    IfOk-weaker c.remark.result _ _
    (λ r told at. told at ∙ ap (λ (p : TextPurpose). runs own bank (remark p at text e) c.args.log.now) (sym c.in-Id.is))
    c.remark.ensures
