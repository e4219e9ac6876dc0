-- The bit operators at the bits of negative numbers.
use Rattle.std.proofs.Common.{◌≡◌, ℕ, ◌+◌, ◌-◌, ◌/◌, ◌%◌, ◌^◌, ◌<◌, suc, zero, min, max, arith, bit_and, bit_or, bit_xor, ℤ, pos, negsuc, refl, sym, ap, ◌∙◌}
use Rattle.std.proofs.Common.{to_z, of_z}
use Rattle.std.proofs.lemmas.Int.{to_z-of_z}
use Rattle.std.proofs.lemmas.Nat.{and_le_l, and_comm, and-not}
use Rattle.std.proofs.lemmas.Nat.Bits.{bit_at_and, bit_at_or, bit_at_xor, bit_at-lt, bit_at-suc, bit_at_lowest}
use Rattle.std.specs.Int.{bit_at}
use lib.Bits.{or_add_and, xor_add_and, and_lt, or_lt, xor_lt, or_comm, xor_comm, and_step}
use mir.Syntax.{w128}
use mir.Val.{SFits}
use Rattle.idl_value.specs.integers.Bits.{bit_of, bit_without, whole_and, whole_or, whole_xor}

-- `2 ^ k - suc n` has the other bits of n
module _ (k a b : ℕ) (p : a < 2 ^ k) (q : b < 2 ^ k) where
  pub and_other : bit_and a (2 ^ k - suc b) + bit_and a b ≡ a
  and_other =
      let e : 2 ^ k - suc b ≡ 2 ^ k - 1 - b = omega arith in
      ap (λ x. bit_and a x + bit_and a b) e ∙ omega (arith, and-not k b a q p, and_comm a (2 ^ k - 1 - b), and_comm a b)

module _ (k a b : ℕ) (p : a < 2 ^ k) (q : b < 2 ^ k) where
  other_below : (n : ℕ) → n < 2 ^ k → 2 ^ k - suc n < 2 ^ k
  other_below n h = omega arith

  pub and_pos_neg : bit_and a (2 ^ k - suc b) ≡ bit_without a b
  and_pos_neg = omega (arith, and_other k a b p q)

  pub and_neg_neg : bit_and (2 ^ k - suc a) (2 ^ k - suc b) ≡ 2 ^ k - suc (bit_or a b)
  and_neg_neg =
      omega (arith, and_other k (2 ^ k - suc b) a (other_below b q) p, and_comm (2 ^ k - suc b) (2 ^ k - suc a), and_comm (2 ^ k - suc b) a, and_other k a b p q, or_add_and a b, or_lt k a b p q)

  pub or_pos_neg : bit_or a (2 ^ k - suc b) ≡ 2 ^ k - suc (bit_without b a)
  or_pos_neg = omega (arith, or_add_and a (2 ^ k - suc b), and_other k a b p q, and_comm a b, and_le_l b a)

  pub or_neg_neg : bit_or (2 ^ k - suc a) (2 ^ k - suc b) ≡ 2 ^ k - suc (bit_and a b)
  or_neg_neg = omega (arith, or_add_and (2 ^ k - suc a) (2 ^ k - suc b), and_neg_neg, or_add_and a b, or_lt k a b p q)

  pub xor_pos_neg : bit_xor a (2 ^ k - suc b) ≡ 2 ^ k - suc (bit_xor a b)
  xor_pos_neg = omega (arith, xor_add_and a (2 ^ k - suc b), and_other k a b p q, xor_add_and a b, xor_lt k a b p q)

  pub xor_neg_neg : bit_xor (2 ^ k - suc a) (2 ^ k - suc b) ≡ bit_xor a b
  xor_neg_neg = omega (arith, xor_add_and (2 ^ k - suc a) (2 ^ k - suc b), and_neg_neg, or_add_and a b, xor_add_and a b, or_lt k a b p q)

wider : (n : ℕ) → n < 2 ^ 127 → n < 2 ^ 128
wider n h = omega arith

same_value : (n : ℕ) (z : ℤ) → n ≡ of_z w128 z → SFits w128 z → to_z w128 n ≡ z
same_value n z e f = ap (to_z w128) e ∙ to_z-of_z w128 z f

without_below : (h a b : ℕ) → a < 2 ^ h → bit_without a b < 2 ^ h
without_below h a b p = omega arith

pub and_is : (a b : ℤ) → SFits w128 a → SFits w128 b → to_z w128 (bit_and (of_z w128 a) (of_z w128 b)) ≡ whole_and a b
and_is (pos a) (pos b) f g = same_value _ (pos (bit_and a b)) refl (record { sfits = and_lt 127 a b f.sfits g.sfits })
and_is (pos a) (negsuc b) f g = same_value _ (pos (bit_without a b)) (and_pos_neg 128 a b (wider a f.sfits) (wider b g.sfits)) (record { sfits = without_below 127 a b f.sfits })
and_is (negsuc a) (pos b) f g = same_value _ (pos (bit_without b a)) (and_comm (2 ^ 128 - suc a) b ∙ and_pos_neg 128 b a (wider b g.sfits) (wider a f.sfits)) (record { sfits = without_below 127 b a g.sfits })
and_is (negsuc a) (negsuc b) f g = same_value _ (negsuc (bit_or a b)) (and_neg_neg 128 a b (wider a f.sfits) (wider b g.sfits)) (record { sfits = or_lt 127 a b f.sfits g.sfits })

pub or_is : (a b : ℤ) → SFits w128 a → SFits w128 b → to_z w128 (bit_or (of_z w128 a) (of_z w128 b)) ≡ whole_or a b
or_is (pos a) (pos b) f g = same_value _ (pos (bit_or a b)) refl (record { sfits = or_lt 127 a b f.sfits g.sfits })
or_is (pos a) (negsuc b) f g = same_value _ (negsuc (bit_without b a)) (or_pos_neg 128 a b (wider a f.sfits) (wider b g.sfits)) (record { sfits = without_below 127 b a g.sfits })
or_is (negsuc a) (pos b) f g = same_value _ (negsuc (bit_without a b)) (or_comm (2 ^ 128 - suc a) b ∙ or_pos_neg 128 b a (wider b g.sfits) (wider a f.sfits)) (record { sfits = without_below 127 a b f.sfits })
or_is (negsuc a) (negsuc b) f g = same_value _ (negsuc (bit_and a b)) (or_neg_neg 128 a b (wider a f.sfits) (wider b g.sfits)) (record { sfits = and_lt 127 a b f.sfits g.sfits })

pub xor_is : (a b : ℤ) → SFits w128 a → SFits w128 b → to_z w128 (bit_xor (of_z w128 a) (of_z w128 b)) ≡ whole_xor a b
xor_is (pos a) (pos b) f g = same_value _ (pos (bit_xor a b)) refl (record { sfits = xor_lt 127 a b f.sfits g.sfits })
xor_is (pos a) (negsuc b) f g = same_value _ (negsuc (bit_xor a b)) (xor_pos_neg 128 a b (wider a f.sfits) (wider b g.sfits)) (record { sfits = xor_lt 127 a b f.sfits g.sfits })
xor_is (negsuc a) (pos b) f g = same_value _ (negsuc (bit_xor a b)) (xor_comm (2 ^ 128 - suc a) b ∙ xor_pos_neg 128 b a (wider b g.sfits) (wider a f.sfits) ∙ ap (λ x. 2 ^ 128 - suc x) (xor_comm b a)) (record { sfits = xor_lt 127 a b f.sfits g.sfits })
xor_is (negsuc a) (negsuc b) f g = same_value _ (pos (bit_xor a b)) (xor_neg_neg 128 a b (wider a f.sfits) (wider b g.sfits)) (record { sfits = xor_lt 127 a b f.sfits g.sfits })

-- ---- the bits of the results

pub bit_at_without : (a b i : ℕ) → bit_at (bit_without a b) i ≡ min (bit_at a i) (1 - bit_at b i)
bit_at_without a b zero = omega (arith, bit_at_lowest (bit_without a b), bit_at_lowest a, bit_at_lowest b, and_step a b, and_le_l a b, and_le_l (a / 2) (b / 2))
bit_at_without a b (suc i) =
    let half : bit_without a b / 2 ≡ bit_without (a / 2) (b / 2) = omega (arith, and_step a b, and_le_l a b, and_le_l (a / 2) (b / 2)) in
    bit_at-suc (bit_without a b) i ∙ ap (λ x. bit_at x i) half ∙ bit_at_without (a / 2) (b / 2) i ∙ sym (omega (arith, bit_at-suc a i, bit_at-suc b i))

pub bit_of_and : (a b : ℤ) (i : ℕ) → bit_of (whole_and a b) i ≡ min (bit_of a i) (bit_of b i)
bit_of_and (pos a) (pos b) i = bit_at_and a b i
bit_of_and (pos a) (negsuc b) i = bit_at_without a b i
bit_of_and (negsuc a) (pos b) i = omega (arith, bit_at_without b a i)
bit_of_and (negsuc a) (negsuc b) i = omega (arith, bit_at_or a b i)

pub bit_of_or : (a b : ℤ) (i : ℕ) → bit_of (whole_or a b) i ≡ max (bit_of a i) (bit_of b i)
bit_of_or (pos a) (pos b) i = bit_at_or a b i
bit_of_or (pos a) (negsuc b) i = omega (arith, bit_at_without b a i, bit_at-lt a i, bit_at-lt b i)
bit_of_or (negsuc a) (pos b) i = omega (arith, bit_at_without a b i, bit_at-lt a i, bit_at-lt b i)
bit_of_or (negsuc a) (negsuc b) i = omega (arith, bit_at_and a b i)

pub bit_of_xor : (a b : ℤ) (i : ℕ) → bit_of (whole_xor a b) i ≡ (bit_of a i + bit_of b i) % 2
bit_of_xor (pos a) (pos b) i = bit_at_xor a b i
bit_of_xor (pos a) (negsuc b) i = omega (arith, bit_at_xor a b i, bit_at-lt a i, bit_at-lt b i)
bit_of_xor (negsuc a) (pos b) i = omega (arith, bit_at_xor a b i, bit_at-lt a i, bit_at-lt b i)
bit_of_xor (negsuc a) (negsuc b) i = omega (arith, bit_at_xor a b i, bit_at-lt a i, bit_at-lt b i)
