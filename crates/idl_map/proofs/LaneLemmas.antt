-- Bits of lanes that are tested against one number.
use Rattle.std.proofs.Common.{◌≡◌, ◌<◌, ◌%◌, ◌^◌, ℕ, Bool, true, false, List, cond, length, get_or, replicate, sym, ap, subst, ◌∙◌, arith}
use Rattle.std.specs.Int.{bit_at}
use Rattle.std.specs.Simd.Lanes.{zip2, mask_l}
use Rattle.std.proofs.lemmas.Simd.{length-zip2, get_or-zip2, get_or-replicate, bit_mask_l, mask_l-lt, mask_l-mod}

abbrev pub tested : (ℕ → ℕ → Bool) → List ℕ → ℕ → List Bool
tested test tags tag = zip2 test tags (replicate 16 tag)

module _ (test : ℕ → ℕ → Bool) (tags : List ℕ) (tag : ℕ) (long : length tags ≡ 16) where
  pub tested_many : length (tested test tags tag) ≡ 16
  tested_many = length-zip2 test tags (replicate 16 tag) long ∙ long

  -- a bit is set where a lane passes the test
  pub bit_is : (slot : ℕ) → bit_at (mask_l (tested test tags tag) % 2 ^ 64) slot ≡ cond (get_or (tested test tags tag) slot false) 1 0
  bit_is slot = ap (λ m. bit_at m slot) (mask_l-mod (tested test tags tag) 64 (omega (arith, tested_many))) ∙ bit_mask_l (tested test tags tag) slot

  pub lane_is : (slot : ℕ) → slot < 16 → get_or (tested test tags tag) slot false ≡ test (get_or tags slot 0) tag
  lane_is slot within =
      get_or-zip2 test tags (replicate 16 tag) slot 0 0 false (omega (arith, long)) within ∙ ap (test (get_or tags slot 0)) (get_or-replicate 16 slot tag 0 within)

  pub set_in : (slot : ℕ) → slot < 16 → test (get_or tags slot 0) tag ≡ true → bit_at (mask_l (tested test tags tag) % 2 ^ 64) slot ≡ 1
  set_in slot within passes = bit_is slot ∙ ap (λ b. cond b 1 0) (lane_is slot within ∙ passes)

  -- no bit is set behind those of the lanes
  pub small_in : mask_l (tested test tags tag) % 2 ^ 64 < 2 ^ 16
  small_in =
      let below : mask_l (tested test tags tag) < 2 ^ 16 = subst (λ n. mask_l (tested test tags tag) < 2 ^ n) tested_many (mask_l-lt (tested test tags tag)) in
      subst (λ m. m < 2 ^ 16) (sym (mask_l-mod (tested test tags tag) 64 (omega (arith, tested_many)))) below
