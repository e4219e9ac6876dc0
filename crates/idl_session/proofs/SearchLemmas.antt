-- What comes before the first newline of bytes.
use Rattle.std.proofs.Common.{◌≡◌, ◌∷◌, ◌++◌, ◌∙◌, ◌+◌, ◌<◌, ◌≤◌, Bool, true, false, not, eqb, ℕ, List, [], length, take, get_or, sym, ap, arith, refl}
use Rattle.std.specs.List.{list_all}
use Rattle.std.proofs.lemmas.Bool.{eqb-true, eq-eqb}
use Rattle.std.proofs.lemmas.List.{get_or_default, get_or-take, length-take-le, take_more}
use Rattle.std.proofs.lemmas.List.Sums.{list_all-from_AllPass}
use Rattle.memchr.specs.Find.{Nowhere, Passes, is_byte}
use Rattle.idl_source.specs.texts.Line.{IsLine}

-- bytes without newline are a line
pub whole-line : (bytes : List ℕ) → Nowhere (Passes (is_byte 10) bytes) 0 (length bytes) → IsLine bytes
whole-line bytes none found = none found.0 (omega arith) found.1 (eq-eqb _ _ (get_or_default bytes found.0 0 10 found.1 ∙ found.2))

-- and so are the first bytes
pub line-before : (bytes : List ℕ) (n : ℕ) → n ≤ length bytes → Nowhere (Passes (is_byte 10) bytes) 0 n → IsLine (take n bytes)
line-before bytes n within none found =
    let k = found.0 in
    let fewer : k < n = omega (arith, found.1, length-take-le n bytes within) in
    let same = sym (get_or-take n bytes k 10 fewer) ∙ found.2 in
    none k (omega arith) fewer (eq-eqb _ _ (get_or_default bytes k 0 10 (omega (arith, fewer, within)) ∙ same))

-- the newline comes behind them
pub newline-behind : (bytes : List ℕ) (n : ℕ) → n < length bytes → Passes (is_byte 10) bytes n → take (n + 1) bytes ≡ take n bytes ++ 10 ∷ []
newline-behind bytes n within passes = take_more bytes n 0 within ∙ ap (λ b. take n bytes ++ b ∷ []) (eqb-true _ _ passes)

no_newline : (b : ℕ) (t : Bool) → eqb b 10 ≡ t → (t ≡ true → ⊥) → not t ≡ true
no_newline b true e other = absurd (other refl)
no_newline b false e other = refl

pub line-all : (bytes : List ℕ) → IsLine bytes → list_all (λ b. not (eqb b 10)) bytes ≡ true
line-all bytes one_line =
    list_all-from_AllPass (λ b. not (eqb b 10)) bytes
    (λ k d within. no_newline (get_or bytes k d) _ refl (λ ten. one_line (k, within, get_or_default bytes k 10 d within ∙ eqb-true _ _ ten)))
