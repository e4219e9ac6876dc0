use Rattle.std.proofs.Common.{◌≡◌, ◌<◌, ◌%◌, ◌^◌, ℕ, Bool, true, false, List, cond, eqb, inl, inr, length, get_or, replicate, refl, sym, ap, subst, ◌∙◌, arith, w8}
use Rattle.std.specs.Int.{bit_at}
use Rattle.std.specs.Simd.Lanes.{mask_l}
use Rattle.std.proofs.lemmas.Bool.{eqb-true}
use Rattle.std.proofs.lemmas.Bool.Decides.{leb_tells}
use Rattle.std.proofs.lemmas.List.{get_or_past}
use Rattle.std.proofs.lemmas.Simd.{tops_compared}
use Rattle.idl_map.proofs.BitLemmas.{eqb_same}
use Rattle.idl_map.proofs.LaneLemmas.{bit_is, lane_is, set_in, small_in, tested, tested_many}
use Rattle.idl_map.proofs.buckets.lanes_with.Goals as goal

module _ (tags : List ℕ) (tag : ℕ) (long : length tags ≡ 16) where
  is_true : (b : Bool) → cond {A = ℕ} b 1 0 ≡ 1 → b ≡ true
  is_true true h = refl
  is_true false h = absurd (omega arith)

  below_many : (slot : ℕ) → bit_at (mask_l (tested eqb tags tag) % 2 ^ 64) slot ≡ 1 → slot < 16
  below_many slot h = elim (leb_tells 16 slot) [
    | inl t ↦
        let none : get_or (tested eqb tags tag) slot false ≡ false = get_or_past (tested eqb tags tag) slot false (omega (arith, tested_many eqb tags tag long, t.1)) in
        let bit : 0 ≡ 1 = ap (λ b. cond b 1 0) (sym none) ∙ sym (bit_is eqb tags tag long slot) ∙ h in
        absurd (omega (arith, bit))
    | inr f ↦ f.1
  ]

  tagged_in : (slot : ℕ) → bit_at (mask_l (tested eqb tags tag) % 2 ^ 64) slot ≡ 1 → get_or tags slot 0 ≡ tag
  tagged_in slot h =
      eqb-true (get_or tags slot 0) tag
      (sym (lane_is eqb tags tag long slot (below_many slot h)) ∙ is_true (get_or (tested eqb tags tag) slot false) (sym (bit_is eqb tags tag long slot) ∙ h))

pub returns : goal.returns
returns c =
    let tags = c.args.tags in
    let tag = c.args.tag in
    let long : length tags ≡ 16 = c.fits-tags.0 in
    let seen = tops_compared w8 eqb tags (replicate 16 tag) in
    record {
      small = subst (λ bs. mask_l bs % 2 ^ 64 < 2 ^ 16) (sym seen) (small_in eqb tags tag long);
      set = λ slot within tagged. subst (λ bs. bit_at (mask_l bs % 2 ^ 64) slot ≡ 1) (sym seen) (set_in eqb tags tag long slot within (eqb_same (get_or tags slot 0) tag tagged));
      below = λ slot h. below_many tags tag long slot (subst (λ bs. bit_at (mask_l bs % 2 ^ 64) slot ≡ 1) seen h);
      tagged = λ slot h. tagged_in tags tag long slot (subst (λ bs. bit_at (mask_l bs % 2 ^ 64) slot ≡ 1) seen h);
    }
