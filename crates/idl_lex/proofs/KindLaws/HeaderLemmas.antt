-- Past the last `>` of a line no included file's name begins.
use Rattle.std.proofs.Common.{◌≡◌, ◌≢◌, ◌∙◌, ℕ, zero, suc, ◌+◌, ◌<◌, ◌≤◌, nat_eq, Bool, true, false, ◌&&◌, if◌then◌else◌, List, [], ◌∷◌, length, drop, get_or, Option, None, Some, refl, sym, ap, arith}
use Rattle.std.proofs.lemmas.List.{drop_more, drop_all}
use Rattle.std.specs.Option.{option_map}
use Rattle.idl_source.specs.texts.Line.{newline}
use Rattle.idl_lex.proofs.CountLemmas.{eq-true, eq-false}
use Rattle.idl_lex.specs.bytes.Scan.{start_of, taken, header_len, closing_after, closing_end, further}

-- where the last `>` ends, by where the last one of those seen ends, how many were seen, and where the last one of the others ends
abbrev pub ended_at : ℕ → ℕ → ℕ → ℕ
ended_at end i zero = end
ended_at end i (suc n) = i + suc n

ended_at-found : (end i n : ℕ) → ended_at end i (closing_after true n) ≡ ended_at (i + 1) (i + 1) n
ended_at-found end i zero = refl
ended_at-found end i (suc n) = omega arith

ended_at-passed : (end i n : ℕ) → ended_at end i (closing_after false n) ≡ ended_at end (i + 1) n
ended_at-passed end i zero = refl
ended_at-passed end i (suc n) = omega arith

closing_end-here : (bs : List ℕ) (i : ℕ) → i < length bs → closing_end (drop i bs) ≡ closing_after (nat_eq (get_or bs i 0) 62) (closing_end (drop (i + 1) bs))
unfolding closing_end
closing_end-here bs i lt = ap closing_end (drop_more bs i 0 lt)

pub ended_at-greater : (bs : List ℕ) (end i : ℕ) → i < length bs → get_or bs i 0 ≡ 62
    → ended_at (i + 1) (i + 1) (closing_end (drop (i + 1) bs)) ≡ ended_at end i (closing_end (drop i bs))
ended_at-greater bs end i lt e =
    let n = closing_end (drop (i + 1) bs) in
    sym (ap (λ m. ended_at end i m) (closing_end-here bs i lt ∙ ap (λ b. closing_after b n) (eq-true (get_or bs i 0) 62 e)) ∙ ended_at-found end i n)

pub ended_at-next : (bs : List ℕ) (end i : ℕ) → i < length bs → get_or bs i 0 ≢ 62
    → ended_at end (i + 1) (closing_end (drop (i + 1) bs)) ≡ ended_at end i (closing_end (drop i bs))
ended_at-next bs end i lt ne =
    let n = closing_end (drop (i + 1) bs) in
    sym (ap (λ m. ended_at end i m) (closing_end-here bs i lt ∙ ap (λ b. closing_after b n) (eq-false (get_or bs i 0) 62 ne)) ∙ ended_at-passed end i n)

pub ended_at-end : (bs : List ℕ) (end i : ℕ) → length bs ≤ i → ended_at end i (closing_end (drop i bs)) ≡ end
unfolding closing_end
ended_at-end bs end i le = ap (λ rest. ended_at end i (closing_end rest)) (drop_all i bs le)

-- without a `>` there is no name
closing_after-none : (is_closing : Bool) (n : ℕ) → closing_after is_closing n ≡ 0 → (is_closing ≡ false) × (n ≡ 0)
closing_after-none true zero e = absurd (omega (arith, e))
closing_after-none false zero e = (refl, refl)
closing_after-none is_closing (suc n) e = absurd (omega (arith, e))

header_len-none : (bs : List ℕ) → closing_end bs ≡ 0 → header_len bs ≡ None
unfolding closing_end header_len
header_len-none [] e = refl
header_len-none (b ∷ bs) e =
    let none = closing_after-none (nat_eq b 62) (closing_end bs) e in
    ap (λ c. if nat_eq b newline then None else (if c then Some 1 else option_map (λ n. suc n) (header_len bs))) none.0
    ∙ ap (λ o. if nat_eq b newline then None else option_map (λ n. suc n) o) (header_len-none bs none.1)
    ∙ neither (nat_eq b newline)
  where
    neither : (newline : Bool) → ◌≡◌ {A = Option ℕ} (if newline then None else None) None
    neither true = refl
    neither false = refl

closing_after-past : (is_closing : Bool) (n i : ℕ) → closing_after is_closing n ≤ suc i → n ≤ i
closing_after-past is_closing zero i le = omega arith
closing_after-past is_closing (suc n) i le = omega (arith, le)

-- past the last `>` there is none
closing_end-drop : (bs : List ℕ) (i : ℕ) → closing_end bs ≤ i → closing_end (drop i bs) ≡ 0
unfolding closing_end
closing_end-drop [] zero le = refl
closing_end-drop [] (suc i) le = refl
closing_end-drop (b ∷ bs) zero le = omega (arith, le)
closing_end-drop (b ∷ bs) (suc i) le = closing_end-drop bs i (closing_after-past (nat_eq b 62) (closing_end bs) i le)

further-unnamed : (includes angle : Bool) (o : Option ℕ) (m : ℕ) → o ≡ None
    → m ≡ (if includes && angle then (elim o [ None ↦ m | Some n ↦ n ]) else m)
further-unnamed includes angle o m e = kept (includes && angle) ∙ ap (λ p. if includes && angle then (elim p [ None ↦ m | Some n ↦ n ]) else m) (sym e)
  where
    kept : (c : Bool) → m ≡ (if c then m else m)
    kept true = refl
    kept false = refl

-- so the longest piece is the same on a line that includes a file and on another
pub further-past : (includes : Bool) (b : ℕ) (bs : List ℕ) (i : ℕ) → closing_end bs ≤ i → further false b (drop i bs) ≡ further includes b (drop i bs)
further-past includes b bs i le =
    further-unnamed includes (nat_eq b 60) (header_len (drop i bs)) (taken (start_of b) (drop i bs)) (header_len-none (drop i bs) (closing_end-drop bs i le))

-- a place that isn't known to be past it may have a name
pub further-before : (known includes : Bool) (b : ℕ) (bs : List ℕ) (i : ℕ) → includes ≡ true → (known ≡ false → closing_end bs ≤ i) → further known b (drop i bs) ≡ further includes b (drop i bs)
further-before true includes b bs i is past = ap (λ c. further c b (drop i bs)) (sym is)
further-before false includes b bs i is past = further-past includes b bs i (past refl)
