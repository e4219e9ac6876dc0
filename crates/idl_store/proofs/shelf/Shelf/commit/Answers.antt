-- The drafts take the places of their lists, and the uses of what stood there are given up.
use Rattle.std.proofs.Common.{◌≡◌, ◌+◌, ℕ, [], ap, ◌∙◌, arith, length}
use Rattle.idl_store.specs.Numbers.{drafts_of, joined, lists_of, result_of, shown, times}
use Rattle.idl_store.specs.Stored.{Stored, committed, results_in, results_of_drafts}
use Rattle.idl_store.proofs.Shown.{shown-committed}
use Rattle.idl_store.proofs.Changing.{parts-exchanged, shown-fewer, stored-fewer}
use Rattle.idl_store.proofs.Times.{times-append}
use Rattle.idl_store.proofs.shelf.Shelf.commit.Goals as goal

pub release_drafts-requires-clause-uses : goal.release_drafts-requires-clause-uses
release_drafts-requires-clause-uses g c = λ n.
    let lists = lists_of c.self.inside.lists.items in
    let drafts = drafts_of c.self.inside.drafts.items in
    omega (arith, c.self.invariant.0.counted n, times-append n (joined lists) (results_of_drafts drafts), c.exchange.ensures.times n)

pub invariant_of-self : goal.invariant_of-self
invariant_of-self g c =
    let lists = lists_of c.self.inside.lists.items in
    let drafts = drafts_of c.self.inside.drafts.items in
    let numbers : Stored ℕ = record { lists = lists; drafts = drafts } in
    let stored = c.self.invariant.0 in
    let lists' = lists_of c.exchange.new.lists.items in
    let drafts' = drafts_of c.exchange.new.drafts.items in
    let after = c.release_drafts in
    let rest : Stored ℕ = record { lists = lists'; drafts = [] } in
    let parts : (n : ℕ) → times n (results_in numbers) ≡ times n (results_in rest) + times n (results_of_drafts drafts') = λ n. parts-exchanged n lists lists' drafts drafts' (c.exchange.ensures.times n) in (
      rw after.ensures.drafts (stored-fewer stored after.new.used after.new.index rest (results_of_drafts drafts') parts after.ensures.fewer after.ensures.used after.ensures.indexed),
      omega (arith, c.exchange.new.lists.ok.1, after.new.drafts.ok.0, ap length after.ensures.drafts),
    )

pub returns : goal.returns
returns g c =
    let lists = lists_of c.self.inside.lists.items in
    let drafts = drafts_of c.self.inside.drafts.items in
    let numbers : Stored ℕ = record { lists = lists; drafts = drafts } in
    let stored = c.self.invariant.0 in
    let lists' = lists_of c.exchange.new.lists.items in
    let drafts' = drafts_of c.exchange.new.drafts.items in
    let after = c.release_drafts in
    let rest : Stored ℕ = record { lists = lists'; drafts = [] } in
    let parts : (n : ℕ) → times n (results_in numbers) ≡ times n (results_in rest) + times n (results_of_drafts drafts') = λ n. parts-exchanged n lists lists' drafts drafts' (c.exchange.ensures.times n) in
    let of = result_of c.self.inside.used in
    rw after.ensures.drafts
    (shown-fewer stored after.new.used after.new.index rest (results_of_drafts drafts') parts after.ensures.fewer
    ∙ ap (λ ls. shown of (record { lists = ls; drafts = [] })) c.exchange.ensures.lists
    ∙ shown-committed of numbers
    ∙ ap (λ s. committed s.stored) c.self.view_is)
