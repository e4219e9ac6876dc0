-- What is kept stands under its numbers, and is found, as before.
use Rattle.std.proofs.Common.{◌≡◌, ◌+◌, ◌∙◌, ℕ, [], ap, arith}
use Rattle.idl_store.specs.Numbers.{drafts_of, lists_of, times}
use Rattle.idl_store.specs.Stored.{Stored, results_in}
use Rattle.idl_store.proofs.Changing.{shown-fewer, stored-fewer}
use Rattle.idl_store.proofs.Shrinking.{fewer-none, indexed-shrunk, used-same}
use Rattle.idl_store.proofs.shelf.Shelf.give_back.Goals as goal

pub shrink_lists-requires : goal.shrink_lists-requires
shrink_lists-requires g c = c.self.invariant.1

pub invariant_of-self : goal.invariant_of-self
invariant_of-self g c =
    let stored = c.self.invariant.0 in
    let numbers : Stored ℕ = record { lists = lists_of c.self.inside.lists.items; drafts = drafts_of c.self.inside.drafts.items } in
    let used = c.self.inside.used in
    let new = c.shrink_slab.new.used in
    let same = c.shrink_slab.ensures in
    let after = c.shrink.new.self in
    let none : (n : ℕ) → times n (results_in numbers) ≡ times n (results_in numbers) + times n [] = λ n. omega arith in (
      rw c.shrink_lists.ensures.lists (rw c.shrink_lists.ensures.drafts
          (stored-fewer stored new after numbers [] none (fewer-none used new same) (used-same used new same stored.needed) (indexed-shrunk used new same c.self.inside.index after c.shrink.ensures stored.indexed))),
      c.shrink_lists.ensures.room,
    )

pub returns : goal.returns
returns g c =
    let numbers : Stored ℕ = record { lists = lists_of c.self.inside.lists.items; drafts = drafts_of c.self.inside.drafts.items } in
    let none : (n : ℕ) → times n (results_in numbers) ≡ times n (results_in numbers) + times n [] = λ n. omega arith in
    rw c.shrink_lists.ensures.lists (rw c.shrink_lists.ensures.drafts (shown-fewer c.self.invariant.0 c.shrink_slab.new.used c.shrink.new.self numbers [] none (fewer-none c.self.inside.used c.shrink_slab.new.used c.shrink_slab.ensures) ∙ ap (λ s. s.stored) c.self.view_is))
