-- Bytes that are cut into lines, piece by piece.
use Rattle.std.proofs.Common.{◌≡◌, ◌∙◌, ◌==◌, ◌&&◌, ℕ, suc, Bool, true, false, List, [], ◌∷◌, ◌++◌, length, refl, sym, ap, inl, inr}
use Rattle.std.specs.Prelude.{if◌then◌else◌}
use Rattle.idl_source.specs.texts.Cut.{begun_with, cut_lines, is_at_newline}
use Rattle.idl_editor.specs.Splices.{EndsLine}

-- a first line, and others
abbrev HasLine : List (List ℕ) → Type 0
HasLine lines = (first : List ℕ) × (rest : List (List ℕ)) × (lines ≡ first ∷ rest)

-- what a byte before some lines makes of them
abbrev with_byte : Bool → Bool → ℕ → List (List ℕ) → List (List ℕ)
with_byte ends goes byte lines = if ends then [] ∷ lines else if goes then lines else begun_with byte lines

-- a newline at the end ends a line
with-line : (ends goes : Bool) (byte : ℕ) (lines : List (List ℕ)) → HasLine lines → HasLine (with_byte ends goes byte lines)
with-line true goes byte lines some = ([], lines, refl)
with-line false true byte lines some = some
with-line false false byte lines some = (byte ∷ some.0, some.1, ap (begun_with byte) some.2)

some-line : (front : List ℕ) → HasLine (cut_lines (front ++ 10 ∷ []))
some-line [] = ([], [], refl)
some-line (b ∷ front) =
    with-line (b == 10) (b == 13 && is_at_newline (front ++ 10 ∷ [])) b (cut_lines (front ++ 10 ∷ [])) (some-line front)

-- what stands before the first of some lines leaves those behind them
with-more : (ends goes : Bool) (byte : ℕ) (lines more : List (List ℕ)) → HasLine lines → with_byte ends goes byte (lines ++ more) ≡ with_byte ends goes byte lines ++ more
with-more true goes byte lines more some = refl
with-more false true byte lines more some = refl
with-more false false byte lines more some =
    ap (λ l. begun_with byte (l ++ more)) some.2 ∙ sym (ap (λ l. begun_with byte l ++ more) some.2)

at-same : (front more : List ℕ) → is_at_newline ((front ++ 10 ∷ []) ++ more) ≡ is_at_newline (front ++ 10 ∷ [])
at-same [] more = refl
at-same (b ∷ front) more = refl

-- behind a newline the rest is cut by itself
pub cut-joined : (front more : List ℕ) → cut_lines ((front ++ 10 ∷ []) ++ more) ≡ cut_lines (front ++ 10 ∷ []) ++ cut_lines more
cut-joined [] more = refl
cut-joined (b ∷ front) more =
    let line = front ++ 10 ∷ [] in
    ap (λ goes. with_byte (b == 10) (b == 13 && goes) b (cut_lines (line ++ more))) (at-same front more)
    ∙ ap (with_byte (b == 10) (b == 13 && is_at_newline line) b) (cut-joined front more)
    ∙ with-more (b == 10) (b == 13 && is_at_newline line) b (cut_lines line) (cut_lines more) (some-line front)

pub cut-ended : (text more : List ℕ) → EndsLine text → cut_lines (text ++ more) ≡ cut_lines text ++ cut_lines more
cut-ended text more (inl none) = ap (λ t. cut_lines (t ++ more)) none ∙ sym (ap (λ t. cut_lines t ++ cut_lines more) none)
cut-ended text more (inr ends) = ap (λ t. cut_lines (t ++ more)) ends.1 ∙ cut-joined ends.0 more ∙ sym (ap (λ t. cut_lines t ++ cut_lines more) ends.1)

-- ---- how many lines there are

-- the lines that are still to be counted, where one has begun or not
abbrev pub count_left : Bool → List ℕ → ℕ
count_left begun [] = if begun then 1 else 0
count_left begun (b ∷ bytes) = if b == 10 then suc (count_left false bytes) else count_left true bytes

-- how many lines there are with a byte before them that is no newline
abbrev begun_count : List (List ℕ) → ℕ
begun_count [] = 1
begun_count (line ∷ lines) = suc (length lines)

begun-length : (byte : ℕ) (lines : List (List ℕ)) → length (begun_with byte lines) ≡ begun_count lines
begun-length byte [] = refl
begun-length byte (line ∷ lines) = refl

begun-begun : (byte : ℕ) (lines : List (List ℕ)) → begun_count (begun_with byte lines) ≡ begun_count lines
begun-begun byte [] = refl
begun-begun byte (line ∷ lines) = refl

-- at a newline there is a line, which a byte before it goes into
at-newline-count : (bytes : List ℕ) → is_at_newline bytes ≡ true → begun_count (cut_lines bytes) ≡ length (cut_lines bytes)
at-newline-count [] at = absurd (cc)
at-newline-count (b ∷ bytes) at = ap (λ t. begun_count (with_byte t (b == 13 && is_at_newline bytes) b (cut_lines bytes))) at
    ∙ sym (ap (λ t. length (with_byte t (b == 13 && is_at_newline bytes) b (cut_lines bytes))) at)

-- what both counts come to behind one byte more
step-length : (ends goes : Bool) (b : ℕ) (bytes : List ℕ) → (goes ≡ true → is_at_newline bytes ≡ true) → count_left false bytes ≡ length (cut_lines bytes) → count_left true bytes ≡ begun_count (cut_lines bytes)
    → (if ends then suc (count_left false bytes) else count_left true bytes) ≡ length (with_byte ends goes b (cut_lines bytes))
step-length true goes b bytes at none some = ap suc none
step-length false true b bytes at none some = some ∙ at-newline-count bytes (at refl)
step-length false false b bytes at none some = some ∙ sym (begun-length b (cut_lines bytes))

step-begun : (ends goes : Bool) (b : ℕ) (bytes : List ℕ) → (goes ≡ true → is_at_newline bytes ≡ true) → count_left false bytes ≡ length (cut_lines bytes) → count_left true bytes ≡ begun_count (cut_lines bytes)
    → (if ends then suc (count_left false bytes) else count_left true bytes) ≡ begun_count (with_byte ends goes b (cut_lines bytes))
step-begun true goes b bytes at none some = ap suc none
step-begun false true b bytes at none some = some
step-begun false false b bytes at none some = some ∙ sym (begun-begun b (cut_lines bytes))

second_so : (a b : Bool) → (a && b) ≡ true → b ≡ true
second_so true b e = e
second_so false b e = absurd (cc)

counts : (bytes : List ℕ) → (count_left false bytes ≡ length (cut_lines bytes)) × (count_left true bytes ≡ begun_count (cut_lines bytes))
counts [] = (refl, refl)
counts (b ∷ bytes) =
    let rest = counts bytes in
    let at = second_so (b == 13) (is_at_newline bytes) in (
      step-length (b == 10) (b == 13 && is_at_newline bytes) b bytes at rest.0 rest.1,
      step-begun (b == 10) (b == 13 && is_at_newline bytes) b bytes at rest.0 rest.1,
    )

-- all lines are counted
pub count-all : (bytes : List ℕ) → count_left false bytes ≡ length (cut_lines bytes)
count-all bytes = (counts bytes).0
