-- The uses of the drafts are given up, and what the lists have is what it was.
use Rattle.std.proofs.Common.{◌≡◌, ◌+◌, ℕ, [], ap, ◌∙◌, arith, length}
use Rattle.idl_store.specs.Numbers.{drafts_of, joined, lists_of, times}
use Rattle.idl_store.specs.Stored.{Stored, discarded, results_in, results_of_drafts}
use Rattle.idl_store.proofs.Changing.{parts-drafts, shown-fewer, stored-fewer}
use Rattle.idl_store.proofs.Times.{times-append}
use Rattle.idl_store.proofs.shelf.Shelf.discard.Goals as goal

pub release_drafts-requires-clause-uses : goal.release_drafts-requires-clause-uses
release_drafts-requires-clause-uses g c = λ n.
    let lists = lists_of c.self.inside.lists.items in
    let drafts = drafts_of c.self.inside.drafts.items in
    omega (arith, c.self.invariant.0.counted n, times-append n (joined lists) (results_of_drafts drafts))

pub invariant_of-self : goal.invariant_of-self
invariant_of-self g c =
    let lists = lists_of c.self.inside.lists.items in
    let drafts = drafts_of c.self.inside.drafts.items in
    let numbers : Stored ℕ = record { lists = lists; drafts = drafts } in
    let stored = c.self.invariant.0 in
    let after = c.release_drafts in
    let rest : Stored ℕ = record { lists = lists; drafts = [] } in
    let parts : (n : ℕ) → times n (results_in numbers) ≡ times n (results_in rest) + times n (results_of_drafts drafts) = λ n. parts-drafts n lists drafts in (
      rw after.ensures.drafts (stored-fewer stored after.new.used after.new.index rest (results_of_drafts drafts) parts after.ensures.fewer after.ensures.used after.ensures.indexed),
      omega (arith, c.self.invariant.1, after.new.drafts.ok.0, ap length after.ensures.drafts),
    )

pub returns : goal.returns
returns g c =
    let lists = lists_of c.self.inside.lists.items in
    let drafts = drafts_of c.self.inside.drafts.items in
    let stored = c.self.invariant.0 in
    let after = c.release_drafts in
    let rest : Stored ℕ = record { lists = lists; drafts = [] } in
    rw after.ensures.drafts (shown-fewer stored after.new.used after.new.index rest (results_of_drafts drafts) (λ n. parts-drafts n lists drafts) after.ensures.fewer ∙ ap (λ s. discarded s.stored) c.self.view_is)
