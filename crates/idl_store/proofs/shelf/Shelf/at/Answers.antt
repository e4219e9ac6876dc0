-- What stands there is what the number there stands for.
use Rattle.std.proofs.Common.{◌∙◌, None, Some, ap, sym}
use Rattle.idl_store.specs.Numbers.{numbers_of}
use Rattle.idl_store.specs.Spots.{result_on}
use Rattle.idl_store.proofs.Reading.{result-under}
use Rattle.idl_store.proofs.Spotted.{result-on_number, taken-on}
use Rattle.idl_store.proofs.shelf.Shelf.at.Goals as goal

pub index-requires : goal.index-requires
index-requires g c =
    let found = c.in-Some.ensures ∙ (λ i. result_on (numbers_of (c.deref.ensures.value i) (c.deref-2.ensures.value i)) c.args.spot) in
    taken-on c.self.invariant.0 c.args.spot c.in-Some.number (sym found)

pub returns-in-Some : goal.returns-in-Some
returns-in-Some g c =
    let found = c.in-Some.ensures ∙ (λ i. result_on (numbers_of (c.deref.ensures.value i) (c.deref-2.ensures.value i)) c.args.spot) in
    sym (result-under c.self.inside.used c.in-Some.number c.index.result.now c.index.ensures)
    ∙ sym (result-on_number c.self.invariant.0 c.args.spot (Some c.in-Some.number) found)
    ∙ ap (λ s. result_on s.stored c.args.spot) c.self.view_is

pub returns-in-None : goal.returns-in-None
returns-in-None g c =
    let found = c.in-None.ensures ∙ (λ i. result_on (numbers_of (c.deref.ensures.value i) (c.deref-2.ensures.value i)) c.args.spot) in
    sym (result-on_number c.self.invariant.0 c.args.spot None found) ∙ ap (λ s. result_on s.stored c.args.spot) c.self.view_is
