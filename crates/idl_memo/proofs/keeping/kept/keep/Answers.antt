use Rattle.std.proofs.Common.{◌≡◌, ◌∙◌}
use Rattle.idl_memo.proofs.keeping.kept.keep.Goals as goal

-- the copy of the text is the text
pub returns : goal.returns
returns g c =
    let same : c.in_ok-text.text ≡ c.args.text.now = g.met.T.Datum.copy c.args.text.now c.in_ok-text.text c.in_ok-text.ensures.cases in
    c.in_ok-new.ensures.ok ∙ (λ i. record { text = same i; log = c.args.log; out = c.args.out })
