use Rattle.std.proofs.Common.{◌∙◌, ◌++◌, ap, option_to_list, sym}
use Rattle.std.proofs.lemmas.List.{append-nil}
use Rattle.idl_related.proofs.judged.JudgedUnits.push.Goals as goal

pub returns-in_ok-push-in-Some-clause-place : goal.returns-in_ok-push-in-Some-clause-place
returns-in_ok-push-in-Some-clause-place c =
    c.in_ok-push-in-Some.ensures.items ∙ ap (λ l. c.args.related.now.items ++ l) (ap option_to_list (sym c.in-Some.is) ∙ c.in_ok-place.ensures.place)

pub returns-in-None-clause-place : goal.returns-in-None-clause-place
returns-in-None-clause-place c =
    let related = c.args.related.now.items in
    sym (append-nil related) ∙ ap (λ l. related ++ l) (ap option_to_list (sym c.in-None.is) ∙ c.in_ok-place.ensures.place)
