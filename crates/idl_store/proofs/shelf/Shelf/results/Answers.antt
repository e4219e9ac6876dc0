-- A list has as many results as numbers.
use Rattle.std.proofs.Common.{◌≡◌, ◌∙◌, Some, None, ap, length, refl, slice_get, sym}
use Rattle.std.proofs.lemmas.Bool.{ltb-false, ltb-true}
use Rattle.std.proofs.lemmas.Option.{slice_get_past, slice_get_read}
use Rattle.idl_store.specs.Stored.{list_at}
use Rattle.idl_store.proofs.Reading.{length-read, list_at-vector}
use Rattle.idl_store.proofs.shelf.Shelf.results.Goals as goal

pub returns-in-Some : goal.returns-in-Some
returns-in-Some g c =
    let lists = c.self.inside.lists.items in
    let slice = c.deref.result.now in
    let list = c.args.list in
    let numbers = c.in-Some.numbers.now in
    let there : slice_get slice list ≡ Some numbers = slice_get_read slice (length slice) list numbers refl (ltb-true list (length slice) (sym c.in-Some.ensures.lookup.0)) c.in-Some.ensures.lookup.1 in
    let read = ap length (list_at-vector lists list (Some numbers) (ap (λ ls. slice_get ls list) (sym c.deref.ensures.value) ∙ there)) in
    c.len.ensures ∙ numbers.ok.0 ∙ sym read ∙ sym (length-read c.self.invariant.0 list) ∙ ap (λ s. length (list_at s.stored.lists list)) c.self.view_is

pub returns-in-None : goal.returns-in-None
returns-in-None g c =
    let lists = c.self.inside.lists.items in
    let slice = c.deref.result.now in
    let list = c.args.list in
    let absent : slice_get slice list ≡ None = slice_get_past slice list (ltb-false list (length slice) (sym c.in-None.ensures.lookup.0)) in
    let read = ap length (list_at-vector lists list None (ap (λ ls. slice_get ls list) (sym c.deref.ensures.value) ∙ absent)) in
    sym read ∙ sym (length-read c.self.invariant.0 list) ∙ ap (λ s. length (list_at s.stored.lists list)) c.self.view_is
