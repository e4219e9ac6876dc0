-- A loaded file's bytes: what they are cut into.
use Rattle.std.proofs.Common.{◌≡◌, ◌≢◌, ◌-◌, ◌<◌, ◌≤◌, ◌==◌, ◌&&◌, ltb, ℕ, zero, suc, Bool, true, false, cond, List, [], ◌∷◌, ◌++◌, map, length, take, drop, slice_index, slice_index_or, refl, sym, ap, subst, ◌∙◌, arith, ⊎_elim}
use Rattle.std.specs.Prelude.{if◌then◌else◌}
use Rattle.std.proofs.lemmas.Bool.{cases_Bool, cond-true, cond-false, eqb-false, eqb-true, ne_eqb, lt-ltb}
use Rattle.std.specs.List.{All}
use Rattle.std.proofs.lemmas.List.Elements.{All-nil, All-cons, All-head, All-same, All-tail}
use Rattle.bstr.specs.Text.{line_len, lines_of, no_cr, without_terminator}
use Rattle.bstr.proofs.lemmas.LineLemmas.{lines-nil, lines-step}
use Rattle.idl_base.proofs.Bools.{and-false}
use Rattle.idl_source.specs.texts.Cut.{begun_with, cut_lines, is_at_newline}
use Rattle.idl_source.specs.texts.Line.{IsLine}

-- whether the last byte is this one
ends_in : ℕ → List ℕ → Bool
ends_in byte bytes = ltb 0 (length bytes) && slice_index bytes (length bytes - 1) == byte

-- all bytes but the last
begin : List ℕ → List ℕ
begin bytes = take (length bytes - 1) bytes

begin-at : (b : ℕ) (q : List ℕ) → begin (b ∷ q) ≡ take (length q) (b ∷ q)
unfolding begin
begin-at b q = let place : length (b ∷ q) - 1 ≡ length q = omega arith in ap (λ j. take j (b ∷ q)) place

ends_in-at : (x b : ℕ) (q : List ℕ) → ends_in x (b ∷ q) ≡ (slice_index (b ∷ q) (length q) == x)
unfolding ends_in
ends_in-at x b q =
    let place : length (b ∷ q) - 1 ≡ length q = omega arith in
    let some : ltb 0 (length (b ∷ q)) ≡ true = lt-ltb _ _ (omega arith) in
    ap (λ t. t && slice_index (b ∷ q) (length (b ∷ q) - 1) == x) some ∙ ap (λ j. slice_index (b ∷ q) j == x) place

begin-more : (b c : ℕ) (q : List ℕ) → begin (b ∷ c ∷ q) ≡ b ∷ begin (c ∷ q)
begin-more b c q = begin-at b (c ∷ q) ∙ ap (λ l. b ∷ l) (sym (begin-at c q))

ends_in-more : (x b c : ℕ) (q : List ℕ) → ends_in x (b ∷ c ∷ q) ≡ ends_in x (c ∷ q)
ends_in-more x b c q = ends_in-at x b (c ∷ q) ∙ sym (ends_in-at x c q)

cond-begun : (t : Bool) (b : ℕ) (xs ys : List ℕ) → cond t (b ∷ xs) (b ∷ ys) ≡ b ∷ cond t xs ys
cond-begun true b xs ys = refl
cond-begun false b xs ys = refl

no_cr-one : (b : ℕ) → no_cr (b ∷ []) ≡ cond (b == 13) [] (b ∷ [])
unfolding begin ends_in
no_cr-one b =
    ap (λ t. cond t (begin (b ∷ [])) (b ∷ [])) (ends_in-at 13 b []) ∙ ap (λ l. cond (b == 13) l (b ∷ [])) (begin-at b [])

-- a carriage return at the end of two bytes or more is one at the end without the first
no_cr-more : (b c : ℕ) (q : List ℕ) → no_cr (b ∷ c ∷ q) ≡ b ∷ no_cr (c ∷ q)
unfolding begin ends_in
no_cr-more b c q =
    ap (λ t. cond t (begin (b ∷ c ∷ q)) (b ∷ c ∷ q)) (ends_in-more 13 b c q)
    ∙ ap (λ l. cond (ends_in 13 (c ∷ q)) l (b ∷ c ∷ q)) (begin-more b c q)
    ∙ cond-begun (ends_in 13 (c ∷ q)) b (begin (c ∷ q)) (c ∷ q)

-- a line of a byte that is no newline, of a newline, and of a byte and a newline
line-one : (b : ℕ) → b ≢ 10 → without_terminator (b ∷ []) ≡ b ∷ []
unfolding begin ends_in
line-one b other = ap (λ t. cond t (no_cr (begin (b ∷ []))) (b ∷ [])) (ends_in-at 10 b [] ∙ ne_eqb b 10 other)

line-empty : (c : ℕ) → (c == 10) ≡ true → without_terminator (c ∷ []) ≡ []
unfolding begin ends_in
line-empty c is =
    ap (λ t. cond t (no_cr (begin (c ∷ []))) (c ∷ [])) (ends_in-at 10 c [] ∙ is) ∙ ap no_cr (begin-at c [])

line-two : (b c : ℕ) → (c == 10) ≡ true → without_terminator (b ∷ c ∷ []) ≡ cond (b == 13) [] (b ∷ [])
unfolding begin ends_in
line-two b c is =
    ap (λ t. cond t (no_cr (begin (b ∷ c ∷ []))) (b ∷ c ∷ [])) (ends_in-at 10 b (c ∷ []) ∙ is)
    ∙ ap no_cr (begin-at b (c ∷ []))
    ∙ no_cr-one b

-- where the second byte is no newline, the first stands before the others' line
line-more : (b c : ℕ) (q : List ℕ) → c ≢ 10
    → without_terminator (b ∷ c ∷ q) ≡ b ∷ without_terminator (c ∷ q)
unfolding begin ends_in
line-more b c [] other =
    ap (λ t. cond t (no_cr (begin (b ∷ c ∷ []))) (b ∷ c ∷ [])) (ends_in-more 10 b c [] ∙ ends_in-at 10 c [] ∙ ne_eqb c 10 other)
    ∙ sym (ap (λ l. b ∷ l) (line-one c other))
line-more b c (d ∷ q) other =
    ap (λ t. cond t (no_cr (begin (b ∷ c ∷ d ∷ q))) (b ∷ c ∷ d ∷ q)) (ends_in-more 10 b c (d ∷ q))
    ∙ ap (λ l. cond (ends_in 10 (c ∷ d ∷ q)) (no_cr l) (b ∷ c ∷ d ∷ q)) (begin-more b c (d ∷ q) ∙ ap (λ l. b ∷ l) (begin-more c d q))
    ∙ ap (λ l. cond (ends_in 10 (c ∷ d ∷ q)) l (b ∷ c ∷ d ∷ q)) (no_cr-more b c (begin (d ∷ q)))
    ∙ cond-begun (ends_in 10 (c ∷ d ∷ q)) b (no_cr (c ∷ begin (d ∷ q))) (c ∷ d ∷ q)
    ∙ sym (ap (λ l. b ∷ cond (ends_in 10 (c ∷ d ∷ q)) (no_cr l) (c ∷ d ∷ q)) (begin-more c d q))

-- what the bytes are cut into where the first is no newline
cut-begun : (b : ℕ) (r : List ℕ) → b ≢ 10
    → cut_lines (b ∷ r) ≡ if b == 13 && is_at_newline r then cut_lines r else begun_with b (cut_lines r)
cut-begun b r other =
    ap (λ t. if t then [] ∷ cut_lines r else if b == 13 && is_at_newline r then cut_lines r else begun_with b (cut_lines r)) (ne_eqb b 10 other)

abbrev lines : List ℕ → List (List ℕ)
lines bytes = map without_terminator (lines_of bytes)

-- the line before others, which ends in a newline alone
first-empty : (b c : ℕ) (t : Bool) (l : List (List ℕ)) → (c == 10) ≡ true → (b == 13) ≡ t
    → (without_terminator (b ∷ c ∷ []) ∷ l) ≡ if t && c == 10 then (without_terminator (c ∷ []) ∷ l) else begun_with b (without_terminator (c ∷ []) ∷ l)
first-empty b c true l is cr =
    ap (λ x. x ∷ l) (line-two b c is ∙ cond-true _ _ _ cr ∙ sym (line-empty c is))
    ∙ sym (ap (λ t. if t then (without_terminator (c ∷ []) ∷ l) else begun_with b (without_terminator (c ∷ []) ∷ l)) is)
first-empty b c false l is cr =
    ap (λ x. x ∷ l) (line-two b c is ∙ cond-false _ _ _ cr ∙ sym (ap (λ x. b ∷ x) (line-empty c is)))

-- a byte that is no newline, before these
lines-begun : (b : ℕ) (r : List ℕ) → b ≢ 10 → lines r ≡ cut_lines r → lines (b ∷ r) ≡ cut_lines (b ∷ r)
unfolding line_len
lines-begun b [] other same =
    let no = ne_eqb b 10 other in
    ap (map without_terminator) (lines-step (b ∷ []) (omega arith)
    ∙ ap (λ k. take k (b ∷ []) ∷ lines_of (drop k (b ∷ []))) (cond-false (b == 10) 1 1 no)
    ∙ ap (λ l. (b ∷ []) ∷ l) lines-nil)
    ∙ ap (λ l. l ∷ []) (line-one b other)
    ∙ sym (cut-begun b [] other ∙ ap (λ t. if t then [] else begun_with b []) (and-false (b == 13)))
lines-begun b (c ∷ r) other same =
    let no = ne_eqb b 10 other in
    let n = line_len (c ∷ r) in
    let p = take n (c ∷ r) in
    let others = lines_of (drop n (c ∷ r)) in
    let tail = map without_terminator others in
    let first : lines_of (b ∷ c ∷ r) ≡ (b ∷ p) ∷ others =
    lines-step (b ∷ c ∷ r) (omega arith) ∙ ap (λ k. take k (b ∷ c ∷ r) ∷ lines_of (drop k (b ∷ c ∷ r))) (cond-false (b == 10) 1 (suc n) no) in
    let rest : cut_lines (c ∷ r) ≡ without_terminator p ∷ tail =
    sym same ∙ ap (map without_terminator) (lines-step (c ∷ r) (omega arith)) in
    let whole : cut_lines (b ∷ c ∷ r) ≡ if b == 13 && c == 10 then (without_terminator p ∷ tail) else begun_with b (without_terminator p ∷ tail) =
    cut-begun b (c ∷ r) other ∙ ap (λ l. if b == 13 && c == 10 then l else begun_with b l) rest in
    let left : lines (b ∷ c ∷ r) ≡ without_terminator (b ∷ p) ∷ tail = ap (map without_terminator) first in
    left ∙ ⊎_elim
    (λ is.
    let alone : p ≡ c ∷ [] = ap (λ k. take k (c ∷ r)) (cond-true (c == 10) 1 (suc (line_len r)) is) in
    subst (λ x. (without_terminator (b ∷ x) ∷ tail) ≡ if b == 13 && c == 10 then (without_terminator x ∷ tail) else begun_with b (without_terminator x ∷ tail)) (sym alone)
    (first-empty b c (b == 13) tail is refl))
    (λ isnt.
    let more : p ≡ c ∷ take (line_len r) r = ap (λ k. take k (c ∷ r)) (cond-false (c == 10) 1 (suc (line_len r)) isnt) in
    let differs : c ≢ 10 = eqb-false c 10 isnt in
    subst (λ x. (without_terminator (b ∷ x) ∷ tail) ≡ if b == 13 && c == 10 then (without_terminator x ∷ tail) else begun_with b (without_terminator x ∷ tail)) (sym more)
    (ap (λ x. x ∷ tail) (line-more b c (take (line_len r) r) differs)
    ∙ sym (ap (λ t. if t then (without_terminator (c ∷ take (line_len r) r) ∷ tail) else begun_with b (without_terminator (c ∷ take (line_len r) r) ∷ tail)) (ap (λ t. b == 13 && t) isnt ∙ and-false (b == 13)))))
    (cases_Bool (c == 10))
    ∙ sym whole

-- a newline, before these
lines-ended : (b : ℕ) (r : List ℕ) → (b == 10) ≡ true → lines r ≡ cut_lines r → lines (b ∷ r) ≡ cut_lines (b ∷ r)
unfolding line_len
lines-ended b r is same =
    ap (map without_terminator) (lines-step (b ∷ r) (omega arith) ∙ ap (λ k. take k (b ∷ r) ∷ lines_of (drop k (b ∷ r))) (cond-true (b == 10) 1 (suc (line_len r)) is))
    ∙ ap (λ l. l ∷ lines r) (line-empty b is)
    ∙ ap (λ l. [] ∷ l) same
    ∙ sym (ap (λ t. if t then [] ∷ cut_lines r else if b == 13 && is_at_newline r then cut_lines r else begun_with b (cut_lines r)) is)

-- the library's lines are those of the definition
pub cut-lines : (bytes : List ℕ) → lines bytes ≡ cut_lines bytes
cut-lines [] = ap (map without_terminator) lines-nil
cut-lines (b ∷ r) = ⊎_elim
    (λ is. lines-ended b r is (cut-lines r))
    (λ isnt. lines-begun b r (eqb-false b 10 isnt) (cut-lines r))
    (cases_Bool (b == 10))

-- a byte that is no newline stands in no line's way
not-at : (b : ℕ) (l : List ℕ) → b ≢ 10 → IsLine l → (k : ℕ) → k < length (b ∷ l) → slice_index_or (b ∷ l) k 10 ≢ 10
not-at b l other line zero within is = other is
not-at b l other line (suc k) within is = line (k, omega arith, is)

begun-lines : (b : ℕ) (ls : List (List ℕ)) → b ≢ 10 → All IsLine ls → All IsLine (begun_with b ls)
begun-lines b [] other all = All-cons IsLine (b ∷ []) [] (λ h. not-at b [] other (λ n. absurd (omega (arith, n.1))) h.0 h.1 h.2) (All-nil IsLine)
begun-lines b (l ∷ ls) other all =
    All-cons IsLine (b ∷ l) ls (λ h. not-at b l other (All-head IsLine l ls all) h.0 h.1 h.2) (All-tail IsLine l ls all)

begun-either : (t : Bool) (b : ℕ) (ls : List (List ℕ)) → b ≢ 10 → All IsLine ls → All IsLine (if t then ls else begun_with b ls)
begun-either true b ls other all = all
begun-either false b ls other all = begun-lines b ls other all

-- a newline stands in none of them
pub cut-line : (bytes : List ℕ) → All IsLine (cut_lines bytes)
cut-line [] = All-nil IsLine
cut-line (b ∷ r) = ⊎_elim
    (λ is.
    All-same IsLine (cut_lines (b ∷ r)) ([] ∷ cut_lines r)
    (ap (λ t. if t then [] ∷ cut_lines r else if b == 13 && is_at_newline r then cut_lines r else begun_with b (cut_lines r)) is)
    (All-cons IsLine [] (cut_lines r) (λ n. absurd (omega (arith, n.1))) (cut-line r)))
    (λ isnt.
    let other = eqb-false b 10 isnt in
    All-same IsLine (cut_lines (b ∷ r)) (if b == 13 && is_at_newline r then cut_lines r else begun_with b (cut_lines r))
    (cut-begun b r other) (begun-either (b == 13 && is_at_newline r) b (cut_lines r) other (cut-line r)))
    (cases_Bool (b == 10))
