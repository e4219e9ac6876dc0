-- Places of keys, as a map has them.
use Rattle.std.proofs.Common.{◌≡◌, ℕ, Bool, true, List, Some, map, slice_get, sym, ap, ◌∙◌}
use Rattle.std.specs.Bool.{Decides}
use Rattle.std.specs.Cmp.{IsEquivalence}
use Rattle.std.specs.Option.{option_map}
use Rattle.std.proofs.lemmas.Option.{slice_get-map}
use Rattle.idl_base.proofs.Exactness.{Decides-eq}

-- the digest of a key stands at its place
pub digest-at : {K : Type 0} (digest_of : K → ℕ) (digests : List ℕ) (keys : List K) (i : ℕ) (key : K) → digests ≡ map digest_of keys → slice_get keys i ≡ Some key
    → slice_get digests i ≡ Some (digest_of key)
digest-at digest_of digests keys i key are at = ap (λ ds. slice_get ds i) are ∙ slice_get-map digest_of keys i ∙ ap (option_map digest_of) at

module _ {K : Type 0} (eq : K → K → Bool) (laws : IsEquivalence eq) (same : (x y : K) → eq x y ≡ true → x ≡ y) where
  -- a test of any key against one finds that one alone
  pub Decides-eq_of : (one key : K) → Decides (eq key one) (one ≡ key)
  Decides-eq_of one key = (λ h. sym (same key one h), λ h. (Decides-eq eq laws same key one).1 (sym h))
