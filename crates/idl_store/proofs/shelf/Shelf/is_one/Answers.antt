-- One number stands at both spots.
use Rattle.std.proofs.Common.{◌∙◌, Some, ap, sym}
use Rattle.std.proofs.lemmas.Bool.{eqb-true}
use Rattle.idl_store.specs.Numbers.{numbers_of}
use Rattle.idl_store.specs.Spots.{result_on}
use Rattle.idl_store.proofs.Spotted.{same-on}
use Rattle.idl_store.proofs.shelf.Shelf.is_one.Goals as goal

pub returns : goal.returns
returns g c = λ same.
    let found = c.in-Some.ensures ∙ (λ i. result_on (numbers_of (c.deref.ensures.value i) (c.deref-2.ensures.value i)) c.args.spot) in
    let there = c.in-Some-number_on.ensures ∙ (λ i. result_on (numbers_of (c.deref-3.ensures.value i) (c.deref-4.ensures.value i)) c.args.other) in
    let one = eqb-true c.in-Some.number c.in-Some-number_on.other same in
    sym (ap (λ s. result_on s.stored c.args.spot) c.self.view_is)
    ∙ same-on c.self.invariant.0 c.args.spot c.args.other c.in-Some.number (sym found) (sym there ∙ ap Some (sym one))
    ∙ ap (λ s. result_on s.stored c.args.other) c.self.view_is
