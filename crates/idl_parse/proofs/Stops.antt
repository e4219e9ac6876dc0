-- Where tokens that no tree spells stop being the beginning of one.
use Rattle.std.proofs.Common.{◌≡◌, ◌⊎◌, inl, inr, ℕ, ◌+◌, ◌-◌, ◌<◌, ◌≤◌, List, [], ◌∷◌, ◌++◌, length, refl, sym, ap, subst, ◌∙◌, append_assoc, append-nil, arith}
use Rattle.std.proofs.Math.Seq.{take-add}
use Rattle.std.proofs.lemmas.Bool.{cases_lt, cases_order}
use Rattle.std.proofs.lemmas.List.{length-append, length-map, take-append-drop, take_all, take_at}
use Rattle.std.specs.Prelude.{drop, max, take}
use Rattle.idl_parse.specs.Parse.{BeginsUpTo, StopsAt}
use Rattle.idl_tree.specs.reading.Fault.{Begins, IsFaultAt}
use Rattle.idl_tree.specs.Lexeme.{Lexeme, Lexemes, lexeme_of, lexemes}
use Rattle.idl_tree.specs.Unit.{spell}

-- ---- beginnings

-- what a beginning begins with is a beginning
begins-part : (front more : Lexemes) → Begins spell (front ++ more) → Begins spell front
begins-part front more b = (b.0, more ++ b.1, b.2 ∙ append_assoc front more b.1)

-- so are fewer tokens
begins-fewer : (tokens : Lexemes) (k n : ℕ) → k ≤ n → Begins spell (take n tokens) → Begins spell (take k tokens)
begins-fewer tokens k n h b =
    let sum : n ≡ k + (n - k) = omega (arith, h) in
    begins-part (take k tokens) (take (n - k) (drop k tokens)) (subst (Begins spell) (ap (λ m. take m tokens) sum ∙ take-add k (n - k) tokens) b)

begins-all : (tokens : Lexemes) (n : ℕ) → Begins spell tokens → Begins spell (take n tokens)
begins-all tokens n b = begins-part (take n tokens) (drop n tokens) (subst (Begins spell) (sym (take-append-drop n tokens)) b)

-- ---- the place is one

-- no beginning goes beyond one at which it ends
ends-before : (tokens : Lexemes) (a b : ℕ) → BeginsUpTo tokens a → BeginsUpTo tokens b → a < b → ⊥
ends-before tokens a b ha hb h = ha.1 (begins-fewer tokens (a + 1) b (omega (arith, h)) hb.0)

ends-once : (tokens : Lexemes) (a b : ℕ) → BeginsUpTo tokens a → BeginsUpTo tokens b → (a ≡ b) ⊎ ((a < b) ⊎ (b < a)) → a ≡ b
ends-once tokens a b ha hb (inl same) = same
ends-once tokens a b ha hb (inr (inl h)) = absurd (ends-before tokens a b ha hb h)
ends-once tokens a b ha hb (inr (inr h)) = absurd (ends-before tokens b a hb ha h)

-- where all tokens are a beginning, none ends among them
ends-nowhere : (tokens : Lexemes) (n : ℕ) → BeginsUpTo tokens n → Begins spell tokens → ⊥
ends-nowhere tokens n h b = h.1 (begins-all tokens (n + 1) b)

once-by : (tokens : List (List ℕ)) (a b : ℕ)
    → BeginsUpTo (lexemes tokens) a ⊎ (Begins spell (lexemes tokens) × (a ≡ length tokens - 1))
    → BeginsUpTo (lexemes tokens) b ⊎ (Begins spell (lexemes tokens) × (b ≡ length tokens - 1)) → a ≡ b
once-by tokens a b (inl ha) (inl hb) = ends-once (lexemes tokens) a b ha hb (cases_order a b)
once-by tokens a b (inl ha) (inr hb) = absurd (ends-nowhere (lexemes tokens) a ha hb.0)
once-by tokens a b (inr ha) (inl hb) = absurd (ends-nowhere (lexemes tokens) b hb ha.0)
once-by tokens a b (inr ha) (inr hb) = ha.1 ∙ sym hb.1

-- tokens that no tree spells stop at one token alone
pub stops-once : (tokens : List (List ℕ)) (a b : ℕ) → StopsAt tokens a → StopsAt tokens b → a ≡ b
stops-once tokens a b ha hb = once-by tokens a b ha.1 hb.1

-- and it is one of theirs
within-by : (tokens : List (List ℕ)) (n : ℕ) → 0 < length tokens
    → BeginsUpTo (lexemes tokens) n ⊎ (Begins spell (lexemes tokens) × (n ≡ length tokens - 1)) → (n < length tokens) ⊎ (length tokens ≤ n) → n < length tokens
within-by tokens n some stop (inl h) = h
within-by tokens n some (inl stop) (inr h) =
    let all : take n (lexemes tokens) ≡ lexemes tokens = take_all n (lexemes tokens) (omega (arith, h, length-map tokens lexeme_of)) in
    absurd (ends-nowhere (lexemes tokens) n stop (subst (Begins spell) all stop.0))
within-by tokens n some (inr stop) (inr h) = omega (arith, some, stop.1)

pub stops-within : (tokens : List (List ℕ)) (n : ℕ) → 0 < length tokens → StopsAt tokens n → n < length tokens
stops-within tokens n some h = within-by tokens n some h.1 (cases_lt n (length tokens))

-- ---- where reading stops

module _ (tokens : List (List ℕ)) (left : ℕ) (f : IsFaultAt spell (lexemes tokens) left) where
  -- how many tokens there are before those that are left
  before-count : (rest : Lexemes) → f.rest ≡ rest → length f.front ≡ length tokens - length rest
  before-count rest is =
      omega (arith, ap length f.parts, length-append f.front f.rest, length-map tokens lexeme_of, ap length is)

  ends-by : (next : Lexeme) (more : Lexemes) → f.rest ≡ next ∷ more → BeginsUpTo (lexemes tokens) (length tokens - length (next ∷ more))
  ends-by next more is =
      let n = length tokens - length (next ∷ more) in
      let count : length f.front ≡ n = before-count (next ∷ more) is in
      let whole : lexemes tokens ≡ f.front ++ next ∷ more = f.parts ∙ ap (λ r. f.front ++ r) is in
      let through : lexemes tokens ≡ (f.front ++ next ∷ []) ++ more = whole ∙ sym (append_assoc f.front (next ∷ []) more) in
      let one : length (f.front ++ next ∷ []) ≡ n + 1 = length-append f.front (next ∷ []) ∙ ap (λ m. m + 1) count in (
        subst (Begins spell) (sym (ap (take n) whole ∙ take_at f.front (next ∷ more) n count)) f.begins,
        λ b. f.stops next more is (subst (Begins spell) (ap (take (n + 1)) through ∙ take_at (f.front ++ next ∷ []) more (n + 1) one) b),
      )

  stops-by : (at : ℕ) → at ≡ max left 1 → (rest : Lexemes) → f.rest ≡ rest
      → BeginsUpTo (lexemes tokens) (length tokens - at) ⊎ (Begins spell (lexemes tokens) × (length tokens - at ≡ length tokens - 1))
  stops-by at h [] is =
      let none : left ≡ 0 = sym f.count ∙ ap length is in
      let whole : lexemes tokens ≡ f.front = f.parts ∙ ap (λ r. f.front ++ r) is ∙ append-nil f.front in
      let one : at ≡ 1 = omega (arith, h, none) in
      inr (subst (Begins spell) (sym whole) f.begins, ap (λ m. length tokens - m) one)
  stops-by at h (next ∷ more) is =
      let some : left ≡ length (next ∷ more) = sym f.count ∙ ap length is in
      let same : at ≡ length (next ∷ more) = omega (arith, h, some) in
      inl (subst (BeginsUpTo (lexemes tokens)) (ap (λ m. length tokens - m) (sym same)) (ends-by next more is))

  -- with so many tokens left, or one where none is
  pub stops-at : (at : ℕ) → at ≡ max left 1 → StopsAt tokens (length tokens - at)
  stops-at at h = (λ tree is. f.none tree (sym is), stops-by at h f.rest refl)

-- tokens are left
pub some-left : (left : ℕ) → 0 < left → left ≡ max left 1
some-left left h = omega (arith, h)
