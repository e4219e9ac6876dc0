-- Lists of results, one for each root, and the drafts of those that an edit makes.
use Rattle.std.specs.Prelude.{ℕ, List, [], ◌∷◌, ◌++◌, Option, if◌then◌else◌, length, fold, slice_get, slice_index_or, slice_set, nat_lt}
use Rattle.std.specs.List.{flat_map, remove}

-- the lists, and the drafts in the order in which they were begun, each with the place of the list
-- that it is to be
pub record Stored (X : Type 0) : Type 0 where
  pub lists : List (List X)
  pub drafts : List (ℕ × List X)

module _ {X : Type 0} where
  -- nothing is stored
  abbrev pub nothing_stored : Stored X
  nothing_stored = record { lists = []; drafts = [] }

  -- the results of these drafts
  abbrev pub results_of_drafts : List (ℕ × List X) → List X
  results_of_drafts drafts = flat_map (λ d. d.1) drafts

  -- all results: those of the lists, and those of the drafts
  abbrev pub results_in : Stored X → List X
  results_in stored = flat_map (λ list. list) stored.lists ++ results_of_drafts stored.drafts

  -- the items of a list; one that isn't there has none
  abbrev pub list_at : List (List X) → ℕ → List X
  list_at lists list = slice_index_or lists list []

  -- what stands at a place of a list, or nothing where nothing does
  abbrev pub item_at : List (List X) → ℕ → ℕ → Option X
  item_at lists list place = slice_get (list_at lists list) place

  -- the result at a place of a list, or nothing where there is none
  abbrev pub result_at : Stored X → ℕ → ℕ → Option X
  result_at stored list place = item_at stored.lists list place

  -- the results of the last draft; none where there is none
  abbrev pub last_of : List (ℕ × List X) → List X
  last_of [] = []
  last_of (d ∷ []) = d.1
  last_of (d ∷ e ∷ drafts) = last_of (e ∷ drafts)

  abbrev pub last_draft : Stored X → List X
  last_draft stored = last_of stored.drafts

  -- a draft more, of these results
  abbrev pub with_draft : Stored X → ℕ → List X → Stored X
  with_draft stored at results = record stored { drafts = stored.drafts ++ (at, results) ∷ [] }

  -- a draft more, without results
  abbrev pub begun : Stored X → ℕ → Stored X
  begun stored at = with_draft stored at []

  -- drafts with more results at the end of the last one
  abbrev pub with_results : List (ℕ × List X) → List X → List (ℕ × List X)
  with_results [] more = []
  with_results (d ∷ []) more = (d.0, d.1 ++ more) ∷ []
  with_results (d ∷ e ∷ ds) more = d ∷ with_results (e ∷ ds) more

  -- more results at the end of the last draft, if there is one
  abbrev pub grown : Stored X → List X → Stored X
  grown stored more = record stored { drafts = with_results stored.drafts more }

  -- lists with a draft in the place of its list, or as a new last one
  abbrev pub placed : List (List X) → ℕ × List X → List (List X)
  placed lists draft =
      if nat_lt draft.0 (length lists) then slice_set lists draft.0 draft.1
      else lists ++ draft.1 ∷ []

  -- each draft in the place of its list, one after another
  abbrev pub committed : Stored X → Stored X
  committed stored = record { lists = fold placed stored.lists stored.drafts; drafts = [] }

  -- no drafts
  abbrev pub discarded : Stored X → Stored X
  discarded stored = record stored { drafts = [] }

  -- without a list: those behind it move up
  abbrev pub removed : Stored X → ℕ → Stored X
  removed stored list = record stored { lists = remove stored.lists list }
