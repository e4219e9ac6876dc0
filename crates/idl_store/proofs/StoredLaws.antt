-- Drafts that are begun and grow.
use Rattle.std.proofs.Common.{◌≡◌, ℕ, List, [], ◌∷◌, ◌++◌, append_assoc, append-nil, refl, sym, ap, ◌∙◌}
use Rattle.std.proofs.lemmas.Grind.{flat_map-append}
use Rattle.std.proofs.lemmas.List.Sums.{fold_push}
use Rattle.std.specs.List.{flat_map, fold}
use Rattle.idl_store.proofs.Drafting.{with_results-last}
use Rattle.idl_store.specs.Stored.{Stored, begun, committed, grown, placed, results_in, results_of_drafts, with_results}

module _ {X : Type 0} where
  with_results-twice : (drafts : List (ℕ × List X)) (first then : List X) → with_results (with_results drafts first) then ≡ with_results drafts (first ++ then)
  with_results-twice [] first then = refl
  with_results-twice (d ∷ []) first then = ap (λ (rs : List X). (d.0, rs) ∷ []) (append_assoc d.1 first then)
  with_results-twice (d ∷ e ∷ []) first then = ap (λ (rest : List (ℕ × List X)). d ∷ rest) (with_results-twice (e ∷ []) first then)
  with_results-twice (d ∷ e ∷ f ∷ ds) first then = ap (λ (rest : List (ℕ × List X)). d ∷ rest) (with_results-twice (e ∷ f ∷ ds) first then)

  pub grown-twice : (stored : Stored X) (first then : List X) → grown (grown stored first) then ≡ grown stored (first ++ then)
  grown-twice stored first then = ap (λ (ds : List (ℕ × List X)). record stored { drafts = ds }) (with_results-twice stored.drafts first then)

  pub grown-none : (stored : Stored X) (at : ℕ) → grown (begun stored at) [] ≡ begun stored at
  grown-none stored at = ap (λ (ds : List (ℕ × List X)). record stored { drafts = ds }) (with_results-last stored.drafts (at, []) [])

  -- its results stand behind all others
  pub results_in-grown : (stored : Stored X) (at : ℕ) (results : List X) → results_in (grown (begun stored at) results) ≡ results_in stored ++ results
  results_in-grown stored at results =
      let lists = flat_map (λ (list : List X). list) stored.lists in
      let drafts : results_of_drafts (with_results (stored.drafts ++ (at, []) ∷ []) results) ≡ results_of_drafts stored.drafts ++ results =
      ap (λ (ds : List (ℕ × List X)). results_of_drafts ds) (with_results-last stored.drafts (at, []) results)
      ∙ flat_map-append (λ (d : ℕ × List X). d.1) stored.drafts ((at, results) ∷ []) ∙ ap (λ (rs : List X). results_of_drafts stored.drafts ++ rs) (append-nil results) in
      ap (λ (rs : List X). lists ++ rs) drafts ∙ sym (append_assoc lists (results_of_drafts stored.drafts) results)

  -- and in the place of their list at last
  pub committed-grown : (stored : Stored X) (at : ℕ) (results : List X) → committed (grown (begun stored at) results) ≡ record { lists = placed (committed stored).lists (at, results); drafts = [] }
  committed-grown stored at results =
      let last = ap (λ (ds : List (ℕ × List X)). fold placed stored.lists ds) (with_results-last stored.drafts (at, []) results) ∙ fold_push placed stored.lists stored.drafts (at, results) in
      λ i. record { lists = last i; drafts = [] }
