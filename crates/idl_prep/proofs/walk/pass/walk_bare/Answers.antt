use Rattle.std.proofs.Common.{refl, sym, ◌∙◌}
use Rattle.std.proofs.lemmas.Result.{IfOk-weaker}
use Rattle.idl_text.specs.Line.{NullDirective}
use Rattle.idl_prep.proofs.WalkLaws.WalkLemmas.{to_come-act, to_come-skipped}
use Rattle.idl_prep.proofs.walk.pass.walk_bare.Goals as goal

pub returns-then-not-is_walked : goal.returns-then-not-is_walked
returns-then-not-is_walked g c = λ bank enter lines.
    to_come-skipped bank enter c.args.file.now c.args.groups.now (NullDirective c.args.line) lines refl c.args.root.now (sym c.is_walked.ensures ∙ c.if-not-is_walked.true)

pub returns : goal.returns
returns g c = IfOk-weaker c.act_bare.result _ _ (λ _ acted bank enter lines.
    to_come-act bank enter c.args.file.now c.args.groups.now (NullDirective c.args.line) lines refl c.args.root.now c.act_bare.new.root
    (sym c.is_walked.ensures ∙ c.if-not-is_walked.false) (acted enter bank)) c.act_bare.ensures
