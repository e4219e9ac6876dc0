use Rattle.std.proofs.Common.{◌∙◌, List, ap, sym}
use Rattle.std.proofs.lemmas.Result.{IfOk-weaker}
use Rattle.idl_text.proofs.TextLemmas.{lines_of-joined}
use Rattle.idl_lex.specs.tokens.Tokens.{lines_of}
use Rattle.idl_lex.specs.declared.tokens.token.PlacedToken.{PlacedToken}
use Rattle.idl_prep.specs.Pass.{to_come}
use Rattle.idl_prep.proofs.WalkLaws.TextLemmas.{texted, to_come-texts, to_come-texts-skipped}
use Rattle.idl_prep.proofs.walk.pass.walk_texts.Goals as goal

pub returns-then-not-is_walked : goal.returns-then-not-is_walked
returns-then-not-is_walked g c = λ enter lines.
    to_come-texts-skipped (g.B.Bank.at c.args.site.now.bank.now) enter c.args.site.now.file.now c.args.groups.now lines (lines_of c.args.text.now) c.args.root.now
    (sym c.is_walked.ensures ∙ c.if-not-is_walked.true)

pub returns : goal.returns
returns g c = IfOk-weaker c.emit_text.result _ _ (λ _ emitted enter lines.
    let bank = g.B.Bank.at c.args.site.now.bank.now in
    let file = c.args.site.now.file.now in
    let way = c.args.root.now in
    ap (to_come bank enter file c.args.groups.now lines)
    (emitted ∙ ap (λ (ts : List PlacedToken). texted bank enter file ts way) (sym (lines_of-joined c.args.text.now)))
    ∙ to_come-texts bank enter file c.args.groups.now lines (lines_of c.args.text.now) way (sym c.is_walked.ensures ∙ c.if-not-is_walked.false)) c.emit_text.ensures
