use Rattle.std.proofs.Common.{◌∙◌, ℕ, List, None, Some, ap, sym}
use Rattle.std.specs.Option.{option_copied}
use Rattle.idl_changes.specs.declared.keys.NumberedText.{NumberedText}
use Rattle.idl_changes.proofs.NumberLemmas.{label-by}
use Rattle.idl_changes.proofs.labels.label_among.Goals as goal

pub returns-in_default : goal.returns-in_default
returns-in_default c = λ names are.
    let text = c.args.text.now in
    let key : List ℕ → NumberedText = λ t. record { text = t; number = 0 } in
    ap key c.in_ok-copy.ensures.cases
    ∙ label-by names text None (sym (ap option_copied c.in_default.is) ∙ c.get.ensures ∙ are text)

pub returns : goal.returns
returns c = λ names are.
    let text = c.args.text.now in
    let number = c.in-Some.number.now in
    let key : List ℕ → NumberedText = λ t. record { text = t; number = number } in
    ap key c.in_ok-none.ensures
    ∙ label-by names text (Some number) (sym (ap option_copied c.in-Some.is) ∙ c.get.ensures ∙ are text)
