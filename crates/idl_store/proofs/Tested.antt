-- What stands in one bucket, among the results that are kept.
use Rattle.std.proofs.Common.{◌≡◌, ◌∙◌, ℕ, Bool, true, false, List, ap, refl, subst, sym}
use Rattle.std.proofs.lemmas.List.Elements.{All-contains, All-contains_itself, All-weaker}
use Rattle.std.proofs.lemmas.List.Folds.{Any-from_list_any, list_any-from_Any}
use Rattle.std.specs.List.{list_any}
use Rattle.std.specs.Prelude.{All, Any, Contains}
use Rattle.slab.specs.Slab.{Slab}
use Rattle.idl_store.specs.Index.{bucket_in}
use Rattle.idl_store.specs.Numbers.{IsStored, result_of, shown}
use Rattle.idl_store.specs.Stored.{Stored, results_in}
use Rattle.idl_store.specs.declared.index.Numbered.{Numbered}
use Rattle.idl_store.specs.declared.numbers.Used.{Used}
use Rattle.idl_store.proofs.Changing.{all-in, found-in, found-sound}

module _ {R : Type 0} {is_sound : R → Type 0} {bucket : R → ℕ} {used : Slab (Used R)} {index : List (ℕ × List (Numbered R))} {numbers : Stored ℕ} (stored : IsStored is_sound bucket used index numbers)
    (b : ℕ) (results : List (Numbered R)) (is : results ≡ bucket_in index b) (s : Stored R) (view : shown (result_of used) numbers ≡ s) where
  -- those of a bucket are among the results
  pub those-kept : All (λ one. Contains (results_in s) one.result) results
  those-kept =
      All-weaker (Contains results) (λ one. Contains (results_in s) one.result)
      (λ one c. subst (λ (s : Stored R). Contains (results_in s) one.result) view (found-in stored b one (subst (λ (items : List (Numbered R)). Contains items one) is c))) results (All-contains_itself results)

  -- and each result that belongs there is one of them
  pub kept-there : All (λ r. bucket r ≡ b → Any (λ one. one.result ≡ r) results) (results_in s)
  kept-there =
      subst (λ (s : Stored R). All (λ r. bucket r ≡ b → Any (λ one. one.result ≡ r) results) (results_in s)) view
      (all-in stored (λ r. bucket r ≡ b → Any (λ one. one.result ≡ r) results) by)
    where
      by : (d : ℕ) (one : Numbered R) → Contains (bucket_in index d) one → bucket one.result ≡ b → Any (λ other. other.result ≡ one.result) results
      by d one c here =
          let there : Contains results one = subst (λ (items : List (Numbered R)). Contains items one) (ap (bucket_in index) ((found-sound stored d one c).at ∙ here) ∙ sym is) c in
          (there.0, one, there.1, there.2, refl)

module _ {R : Type 0} (test : R → Bool) (results : List (Numbered R)) where
  -- where one of them passes a test, one that is kept does
  pub some-passes : (all : List R) → All (λ one. Contains all one.result) results → list_any (λ one. test one.result) results ≡ true → Any (λ r. test r ≡ true) all
  some-passes all among is =
      let a = Any-from_list_any (λ (one : Numbered R). test one.result) results is in
      let c = All-contains (λ one. Contains all one.result) results a.1 among (a.0, a.2, a.3) in
      (c.0, a.1.result, c.1, c.2, a.4)

  -- and where none does, none that is there
  pub none-passes : list_any (λ one. test one.result) results ≡ false → (r : R) → Any (λ one. one.result ≡ r) results → test r ≡ false
  none-passes none r a = by (test r) refl
    where
      by : (b : Bool) → test r ≡ b → b ≡ false
      by false is = refl
      by true is =
          let no : true ≡ false = sym (list_any-from_Any (λ (one : Numbered R). test one.result) results (a.0, a.1, a.2, a.3, ap test a.4 ∙ is)) ∙ none in
          cc
