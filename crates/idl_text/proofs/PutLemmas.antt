-- A token that is put on its line, of several.
use Rattle.std.proofs.Common.{◌≡◌, ◌≢◌, ◌∙◌, ◌<◌, ◌+◌, ◌++◌, ◌∷◌, ℕ, zero, suc, List, [], ap, append-nil, arith, get_or, length, map, refl, set, sym}
use Rattle.std.proofs.lemmas.Bool.{eq-eqb, ne_eqb}
use Rattle.idl_text.specs.Starts.{Start, on_line}
use Rattle.idl_text.proofs.StartLemmas.{on_line-here, on_line-other}

pub on-other : (line : ℕ) (s : Start) → s.0.line ≢ line → on_line line (s ∷ []) ≡ []
on-other line s other = on_line-other line s [] (ne_eqb s.0.line line other)

on-here : (line : ℕ) (s : Start) → s.0.line ≡ line → on_line line (s ∷ []) ≡ s ∷ []
on-here line s here = on_line-here line s [] (eq-eqb s.0.line line here)

-- of the lines from one on, it stands on its own, and on no other
pub put-at : {V : Type 0} (items : V → List Start) (xs : List V) (base k index : ℕ) (y d : V) (s : Start) → k < length xs → items y ≡ items (get_or xs k d) ++ s ∷ []
    → s.0.line ≡ base + k → index < length xs → get_or (map items (set xs k y)) index [] ≡ get_or (map items xs) index [] ++ on_line (base + index) (s ∷ [])
put-at items [] base k index y d s within is line less = absurd (omega (arith, less))
put-at items (x ∷ xs) base zero zero y d s within is line less = is ∙ ap (λ (ss : List Start). items x ++ ss) (sym (on-here (base + 0) s line))
put-at items (x ∷ xs) base zero (suc index) y d s within is line less =
    sym (append-nil (get_or (map items xs) index []))
    ∙ ap (λ (ss : List Start). get_or (map items xs) index [] ++ ss) (sym (on-other (base + suc index) s (λ same. omega (arith, line, same))))
put-at items (x ∷ xs) base (suc k) zero y d s within is line less =
    sym (append-nil (items x)) ∙ ap (λ (ss : List Start). items x ++ ss) (sym (on-other (base + 0) s (λ same. omega (arith, line, same))))
put-at items (x ∷ xs) base (suc k) (suc index) y d s within is line less =
    let e : suc base + index ≡ base + suc index = omega arith in
    put-at items xs (suc base) k index y d s (omega (arith, within)) is (omega (arith, line)) (omega (arith, less))
    ∙ ap (λ n. get_or (map items xs) index [] ++ on_line n (s ∷ [])) e

-- lines without tokens, and one more
pub none-more : (xs : List (List Start)) → ((index : ℕ) → get_or xs index [] ≡ []) → (index : ℕ) → get_or (xs ++ [] ∷ []) index [] ≡ []
none-more [] none zero = refl
none-more [] none (suc index) = refl
none-more (x ∷ xs) none zero = none zero
none-more (x ∷ xs) none (suc index) = none-more xs (λ j. none (suc j)) index
