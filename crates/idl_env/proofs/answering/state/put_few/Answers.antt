use Rattle.std.proofs.Common.{◌≡◌, [], sym, ap, ◌∙◌, ◌++◌, arith, subst}
use Rattle.std.proofs.lemmas.List.{nil_from_length}
use Rattle.std.specs.Option.{option_to_list}
use Rattle.idl_env.specs.Held.{IsAmongOthers}
use Rattle.idl_env.specs.Stamps.{stamped_in, stamped_over, with_stamped}
use Rattle.idl_env.proofs.AnswerLaws.OthersLemmas.{key_of-others}
use Rattle.idl_env.proofs.StampLemmas.{stamped_over-last}
use Rattle.idl_env.proofs.answering.state.put_few.Goals as goal

pub insert-requires : goal.insert-requires
insert-requires c = subst IsAmongOthers (sym c.in_ok-key.ensures.key) (key_of-others c.in-Some.addition)

pub additions-preserved : goal.additions-preserved
additions-preserved c =
    let left = c.pop.new.self.items in
    let one = c.in-Some.addition in
    let old = stamped_in c.additions.answers in
    let taken = c.pop.ensures.items ∙ ap (λ o. left ++ option_to_list o) c.in-Some.is in
    ap (stamped_over left) (c.in_ok-insert.ensures ∙ (λ i. with_stamped (c.in_ok-key.ensures.key i) (c.in_ok-key.ensures.answer i) old))
    ∙ sym (stamped_over-last left one old)
    ∙ ap (λ l. stamped_over l old) (sym taken)
    ∙ c.additions.invariant

pub returns-clause-answers : goal.returns-clause-answers
returns-clause-answers c =
    let left = c.additions.additions in
    let none : left.items ≡ [] = nil_from_length left.items (omega (arith, c.in_default.ensures.cases.0, left.ok.0)) in
    ap (λ l. stamped_over l (stamped_in c.additions.answers)) (sym none) ∙ c.additions.invariant
