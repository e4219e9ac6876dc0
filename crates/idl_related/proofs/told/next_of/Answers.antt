use Rattle.std.proofs.Common.{◌∙◌, ◌∷◌, ap, arith, reverse, sym}
use Rattle.std.proofs.lemmas.List.{append-nil, nil_from_length}
use Rattle.idl_related.specs.FirstDeclared.{assigned}
use Rattle.idl_related.proofs.FirstDeclaredLemmas.{assigned-empty, assigned-last, assigned-none}
use Rattle.idl_related.proofs.told.next_of.Goals as goal

pub returns-then-not-has_second-clause-assigned : goal.returns-then-not-has_second-clause-assigned
returns-then-not-has_second-clause-assigned c = λ f fs same.
    let told = reverse c.args.told.now.items in
    assigned-none f fs c.args.code told same (sym c.has_second.ensures ∙ c.if-not-has_second.true)
    ∙ ap (λ places. places ∷ assigned fs told) (sym c.new.ensures)

pub returns-in-Some-clause-assigned : goal.returns-in-Some-clause-assigned
returns-in-Some-clause-assigned c = λ f fs same.
    let rest = c.pop.new.self.items in
    assigned-last f fs c.args.code c.args.told.now.items rest c.in-Some.last same (sym c.has_second.ensures ∙ c.if-not-has_second.false) c.in-Some.ensures.items
    ∙ ap (λ places. places ∷ assigned fs (reverse rest)) (sym c.into_related.ensures)

pub returns-in-None-clause-assigned : goal.returns-in-None-clause-assigned
returns-in-None-clause-assigned c = λ f fs same.
    let rest = c.pop.new.self in
    let none = nil_from_length rest.items (omega (arith, c.in-None.ensures.cases.1, rest.ok.0)) in
    assigned-empty f fs c.args.code c.args.told.now.items rest.items same (sym c.has_second.ensures ∙ c.if-not-has_second.false)
    (c.in-None.ensures.items ∙ append-nil rest.items) none
    ∙ ap (λ places. places ∷ assigned fs (reverse rest.items)) (sym c.new-in-None.ensures)
