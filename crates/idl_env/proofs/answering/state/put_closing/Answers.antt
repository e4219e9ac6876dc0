use Rattle.std.proofs.Common.{sym, ap, ◌∙◌, [], map, subst}
use Rattle.std.proofs.lemmas.Result.{on_ok_weaker}
use Rattle.std.specs.Prelude.{option_to_list}
use Rattle.idl_env.specs.Facts.{entity_key}
use Rattle.idl_env.specs.Held.{IsAmongOthers}
use Rattle.idl_env.specs.Stamps.{stamped_in, stamped_over, with_stamped}
use Rattle.idl_env.specs.declared.additions.addition.Addition.TheVariants.{Declares}
use Rattle.idl_env.specs.declared.answering.answer.Answer.TheVariants.{Known}
use Rattle.idl_env.proofs.StampLemmas.{stamped_over-cons}
use Rattle.idl_env.proofs.answering.state.put_closing.Goals as goal

pub insert-requires : goal.insert-requires
insert-requires c = subst IsAmongOthers (sym c.in_ok-key.ensures) tt

pub returns : goal.returns
returns c =
    let e = c.in-Some.entity in
    let old = stamped_in c.args.answers.now in
    let key =
    c.in_ok-key.ensures ∙ ap entity_key c.path.ensures ∙ ap (λ x. entity_key x.path) c.get.ensures
    in
    on_ok_weaker c.insert.result
    (λ put. put
    ∙ (λ i. with_stamped (key i) (Known (c.in_ok-entity.ensures.cases i)) old)
    ∙ sym (stamped_over-cons (Declares e) [] old)
    ∙ ap (λ o. stamped_over (map Declares (option_to_list o)) old) (sym c.in-Some.is))
    c.insert.ensures
