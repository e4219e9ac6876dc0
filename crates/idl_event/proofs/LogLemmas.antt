-- A key that is logged.
use Rattle.std.proofs.Common.{◌≡◌, ℕ, zero, suc, Bool, true, false, ◌||◌, List, [], ◌∷◌, Some, slice_get, refl, ap, ◌∙◌}
use Rattle.std.proofs.lemmas.Option.{same_Some}
use Rattle.idl_memo.specs.Query.{is_logged}

module _ {K V : Type 0} (eq : K → K → Bool) where
  -- a key that stands at a place of the log
  pub is_logged-at : (log : List (K × V)) (k : K) (i : ℕ) (q : K) (v : V) → slice_get log i ≡ Some (q, v) → eq k q ≡ true → is_logged eq log k ≡ true
  is_logged-at [] k i q v at same = cc
  is_logged-at (e ∷ log) k zero q v at same = ap (λ b. b || is_logged eq log k) (ap (λ e. eq k e.0) (same_Some e (q, v) at) ∙ same)
  is_logged-at (e ∷ log) k (suc i) q v at same = by (eq k e.0) (is_logged-at log k i q v at same)
    where
      by : (b : Bool) → is_logged eq log k ≡ true → (b || is_logged eq log k) ≡ true
      by true later = refl
      by false later = later
