-- What one mark more leaves of the others, and of look-ups.
use Rattle.std.proofs.Common.{◌≡◌, ◌<◌, ℕ, ◌^◌, Bool, true, false, cond, List, Option, Some, None, length, refl, sym, ap, ◌∙◌, arith, nat_eq, not, true≢false}
use Rattle.std.specs.Prelude.{bit_or, slice_index_or, slice_set}
use Rattle.std.proofs.lemmas.Bool.{eqb-false, eqb-true}
use Rattle.std.proofs.lemmas.List.{get_or-set_other, get_or-set_same, length-set}
use Rattle.std.proofs.lemmas.Nat.{and_or_apart, and_or_self, pow_apart, pow_pos}
use Rattle.idl_map.specs.Marks.{AreMarked, bit_of, has_bit, is_marked, word_of}

-- a bit that is put to a word is set
bit-own : (word n : ℕ) → has_bit (bit_or word (2 ^ n)) n ≡ true
bit-own word n = ap (λ b. not (nat_eq b 0)) (and_or_self (2 ^ n) word) ∙ by (nat_eq (2 ^ n) 0) refl
  where
    by : (b : Bool) → nat_eq (2 ^ n) 0 ≡ b → not b ≡ true
    by true t = absurd (let positive = pow_pos n in let zero_is = eqb-true (2 ^ n) 0 t in omega (arith, positive, zero_is))
    by false t = refl

-- and those that were set still are
bit-kept : (word n m : ℕ) → has_bit word m ≡ true → has_bit (bit_or word (2 ^ n)) m ≡ true
bit-kept word n m h = by (nat_eq n m) refl
  where
    by : (b : Bool) → nat_eq n m ≡ b → has_bit (bit_or word (2 ^ n)) m ≡ true
    by true t = ap (λ k. has_bit (bit_or word (2 ^ k)) m) (eqb-true n m t) ∙ bit-own word m
    by false t = ap (λ b. not (nat_eq b 0)) (and_or_apart (2 ^ m) word (2 ^ n) (pow_apart n m (eqb-false n m t))) ∙ h

-- a bit that is put to the word at a place leaves those of all words
word-kept : (words : List ℕ) (i j n m : ℕ) → i < length words → has_bit (slice_index_or words j 0) m ≡ true
    → has_bit (slice_index_or (slice_set words i (bit_or (slice_index_or words i 0) (2 ^ n))) j 0) m ≡ true
word-kept words i j n m within h = by (nat_eq j i) refl
  where
    word : ℕ
    word = bit_or (slice_index_or words i 0) (2 ^ n)

    by : (b : Bool) → nat_eq j i ≡ b → has_bit (slice_index_or (slice_set words i word) j 0) m ≡ true
    by true t =
        let same = eqb-true j i t in
        ap (λ k. has_bit (slice_index_or (slice_set words i word) k 0) m) same
        ∙ ap (λ w. has_bit w m) (get_or-set_same words i word 0 within)
        ∙ bit-kept (slice_index_or words i 0) n m (ap (λ k. has_bit (slice_index_or words k 0) m) (sym same) ∙ h)
    by false t = ap (λ w. has_bit w m) (get_or-set_other words i j word 0 (eqb-false j i t)) ∙ h

module _ (marks : List ℕ) (place mask digest : ℕ) (at : place ≡ word_of (length marks) digest) (is : mask ≡ 2 ^ bit_of digest) (within : place < length marks) where
  abbrev more : List ℕ
  more = slice_set marks place (bit_or (slice_index_or marks place 0) mask)

  -- a digest is marked by its bit in its word
  pub mark-own : is_marked (slice_set marks place (bit_or (slice_index_or marks place 0) mask)) digest ≡ true
  unfolding is_marked
  mark-own =
      ap (λ count. has_bit (slice_index_or more (word_of count digest) 0) (bit_of digest)) (length-set marks place _)
      ∙ ap (λ k. has_bit (slice_index_or more k 0) (bit_of digest)) (sym at)
      ∙ ap (λ w. has_bit w (bit_of digest)) (get_or-set_same marks place _ 0 within)
      ∙ ap (λ m. has_bit (bit_or (slice_index_or marks place 0) m) (bit_of digest)) is
      ∙ bit-own (slice_index_or marks place 0) (bit_of digest)

  -- and those that were marked still are
  pub mark-kept : (other : ℕ) → is_marked marks other ≡ true → is_marked (slice_set marks place (bit_or (slice_index_or marks place 0) mask)) other ≡ true
  unfolding is_marked
  mark-kept other h =
      ap (λ count. has_bit (slice_index_or more (word_of count other) 0) (bit_of other)) (length-set marks place _)
      ∙ ap (λ m. has_bit (slice_index_or (slice_set marks place (bit_or (slice_index_or marks place 0) m)) (word_of (length marks) other) 0) (bit_of other)) is
      ∙ word-kept marks place (word_of (length marks) other) (bit_of digest) (bit_of other) within h

module _ {K V : Type 0} (marks more : List ℕ) (digest : K → ℕ) (kept : (other : ℕ) → is_marked marks other ≡ true → is_marked more other ≡ true) (found : K → Option V) where
  -- by more marks no more is found
  pub AreMarked-more : AreMarked marks digest found → AreMarked more digest found
  AreMarked-more are key unmarked = by (is_marked marks (digest key)) refl
    where
      by : (b : Bool) → is_marked marks (digest key) ≡ b → found key ≡ None
      by true t = absurd (true≢false (sym (kept (digest key) t) ∙ unmarked))
      by false t = are key t

  -- and where one of them is of a key, that key can be found
  pub AreMarked-put : (eq : K → K → Bool) → ((x y : K) → eq x y ≡ true → x ≡ y) → (after : K → Option V) (own : K) (v : V) → is_marked more (digest own) ≡ true
      → ((key : K) → after key ≡ cond (eq key own) (Some v) (found key)) → AreMarked marks digest found → AreMarked more digest after
  AreMarked-put eq same after own v marked put are key unmarked = put key ∙ by (eq key own) refl
    where
      by : (b : Bool) → eq key own ≡ b → cond b (Some v) (found key) ≡ None
      by true t = absurd (true≢false (sym marked ∙ ap (λ k. is_marked more (digest k)) (sym (same key own t)) ∙ unmarked))
      by false t = AreMarked-more are key unmarked
