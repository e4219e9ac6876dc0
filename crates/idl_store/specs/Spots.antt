-- Spots: places in the lists of a store, and in its drafts.
use Rattle.std.specs.Prelude.{ℕ, Bool, List, Option, drop, if◌then◌else◌, map, take}
use Rattle.idl_store.specs.Stored.{Stored, item_at, list_at}
use Rattle.idl_store.specs.declared.numbers.Spot.{Spot}

module _ {X : Type 0} where
  -- the results of each draft, or else those of each list
  abbrev pub lists_among : Stored X → Bool → List (List X)
  lists_among stored is_draft =
      if is_draft then map (λ d. d.1) stored.drafts else stored.lists

  -- what stands at a spot, or nothing where nothing does
  abbrev pub result_on : Stored X → Spot → Option X
  result_on stored spot = item_at (lists_among stored spot.is_draft) spot.list spot.place

  -- so many results from a spot on, or as many as there are
  abbrev pub results_from : Stored X → Spot → ℕ → List X
  results_from stored spot count =
      take count (drop spot.place (list_at (lists_among stored spot.is_draft) spot.list))
