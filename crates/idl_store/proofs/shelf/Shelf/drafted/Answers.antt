-- The last draft has as many results as numbers.
use Rattle.std.proofs.Common.{◌≡◌, ◌∙◌, ◌-◌, Some, ap, length, slice_get, sym}
use Rattle.idl_store.specs.Stored.{last_draft}
use Rattle.idl_store.proofs.Drafting.{length-drafts}
use Rattle.idl_store.proofs.Reading.{list_at-draft}
use Rattle.idl_store.proofs.Spotted.{last-read}
use Rattle.idl_store.proofs.shelf.Shelf.drafted.Goals as goal

pub returns-in-Some : goal.returns-in-Some
returns-in-Some g c =
    let drafts = c.self.inside.drafts.items in
    let draft = c.in-Some.draft.now in
    let there : slice_get drafts (length drafts - 1) ≡ Some draft = ap (λ ds. slice_get ds (length ds - 1)) (sym c.deref.ensures.value) ∙ sym c.in-Some.ensures.value in
    let read = ap length (list_at-draft drafts (length drafts - 1) (Some draft) there) in
    c.len.ensures ∙ draft.numbers.ok.0 ∙ sym read
    ∙ last-read c.self.invariant.0 (length drafts) (sym (length-drafts drafts))
    ∙ ap (λ s. length (last_draft s.stored)) c.self.view_is
