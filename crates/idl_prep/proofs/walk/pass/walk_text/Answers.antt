use Rattle.std.proofs.Common.{refl, sym, ◌∙◌}
use Rattle.std.proofs.lemmas.Result.{IfOk-weaker}
use Rattle.idl_text.specs.Line.{Text}
use Rattle.idl_prep.proofs.WalkLaws.WalkLemmas.{to_come-act, to_come-skipped}
use Rattle.idl_prep.proofs.walk.pass.walk_text.Goals as goal

pub returns-then-not-is_walked : goal.returns-then-not-is_walked
returns-then-not-is_walked g c = λ enter lines.
    to_come-skipped (g.B.Bank.at c.args.site.now.bank.now) enter c.args.site.now.file.now c.args.groups.now (Text c.args.tokens.now) lines refl c.args.root.now
    (sym c.is_walked.ensures ∙ c.if-not-is_walked.true)

pub returns : goal.returns
returns g c = IfOk-weaker c.act_text.result _ _ (λ _ acted enter lines.
    to_come-act (g.B.Bank.at c.args.site.now.bank.now) enter c.args.site.now.file.now c.args.groups.now (Text c.args.tokens.now) lines refl c.args.root.now c.act_text.new.root
    (sym c.is_walked.ensures ∙ c.if-not-is_walked.false) (acted enter)) c.act_text.ensures
