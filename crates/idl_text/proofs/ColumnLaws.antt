-- What is told of columns.
use Rattle.std.proofs.Common.{◌≡◌, ◌∙◌, ◌∷◌, ℕ, zero, suc, nat_eq, Bool, true, false, cond, if◌then◌else◌, List, [], drop, get_or, Option, None, Some, refl, sym, ap}
use Rattle.std.proofs.lemmas.Bool.{false≢true}
use Rattle.std.specs.List.{filter, slice_get, starts_with}
use Rattle.std.specs.Option.{is_some, unwrap_or}
use Rattle.std.specs.Str.{bytes_eq}
use Rattle.idl_text.specs.Starts.{Start, column_among, column_if, column_in, column_of_only, column_with, line_of, on_line, or_else, starts_of}

-- on a line that is there
on-line : (lines : List (List ℕ)) (line : ℕ) (number : Option ℕ) (text bytes : List ℕ) → line_of lines line ≡ Some bytes
    → column_in lines line number text ≡ column_with text bytes (column_among number text (on_line line (starts_of lines)))
on-line lines line number text bytes there =
    ap (λ (found : Option (List ℕ)). elim found [ None ↦ None | Some b ↦ column_with text b (column_among number text (on_line line (starts_of lines))) ]) there

told-cases : (goes_on : Bool) (k column : ℕ) → ◌≡◌ {A = Option ℕ} (if goes_on then Some k else None) (Some column) → (goes_on ≡ true) × (k ≡ column)
told-cases true k column is = (refl, ap (λ (o : Option ℕ). unwrap_or o 0) is)
told-cases false k column is = absurd (false≢true (ap (λ (o : Option ℕ). is_some o) is))

told-there : (text bytes : List ℕ) (found : Option ℕ) (column : ℕ) → column_with text bytes found ≡ Some column → starts_with nat_eq (drop column bytes) text ≡ true
told-there text bytes None column is = absurd (false≢true (ap (λ (o : Option ℕ). is_some o) is))
told-there text bytes (Some k) column is =
    let told = told-cases (starts_with nat_eq (drop k bytes) text) k column is in
    ap (λ n. starts_with nat_eq (drop n bytes) text) (sym told.1) ∙ told.0

pub column-there : (lines : List (List ℕ)) (line : ℕ) (number : Option ℕ) (text bytes : List ℕ) (column : ℕ) → line_of lines line ≡ Some bytes → column_in lines line number text ≡ Some column
    → starts_with nat_eq (drop column bytes) text ≡ true
column-there lines line number text bytes column there is =
    told-there text bytes (column_among number text (on_line line (starts_of lines))) column (sym (on-line lines line number text bytes there) ∙ is)

if-spelled : (text : List ℕ) (s : Start) → bytes_eq s.0.token text ≡ true → column_if text (Some s) ≡ Some s.1
if-spelled text s spelled = ap (λ b. if b then Some s.1 else None) spelled

pub column-numbered : (lines : List (List ℕ)) (line number : ℕ) (text bytes : List ℕ) (s : Start) → line_of lines line ≡ Some bytes → slice_get (on_line line (starts_of lines)) number ≡ Some s
    → bytes_eq s.0.token text ≡ true → column_in lines line (Some number) text ≡ column_with text bytes (Some s.1)
column-numbered lines line number text bytes s there is spelled =
    let starts = on_line line (starts_of lines) in
    let other = column_of_only (filter (λ (u : Start). bytes_eq u.0.token text) starts) in
    on-line lines line (Some number) text bytes there
    ∙ ap (λ (o : Option ℕ). column_with text bytes (or_else o other)) (ap (column_if text) is ∙ if-spelled text s spelled)

-- ---- the only one

abbrev is_nil : List Start → Bool
is_nil [] = true
is_nil (u ∷ starts) = false

none-there : {P : Type 0} (s : Start) → ◌≡◌ {A = Option Start} None (Some s) → P
none-there s is = absurd (false≢true (ap (λ (o : Option Start). is_some o) is))

same-start : (t s : Start) → Some t ≡ Some s → t ≡ s
same-start t s is = ap (λ (o : Option Start). unwrap_or o t) is

-- one that passes is kept
kept-some : (passes : Start → Bool) (starts : List Start) (n : ℕ) (s : Start) → slice_get starts n ≡ Some s → passes s ≡ true → is_nil (filter passes starts) ≡ false
kept-some passes [] n s is pass = none-there s is
kept-some passes (t ∷ starts) zero s is pass = ap (λ b. is_nil (cond b (t ∷ filter passes starts) (filter passes starts))) (ap passes (same-start t s is) ∙ pass)
kept-some passes (t ∷ starts) (suc n) s is pass = by (passes t) (kept-some passes starts n s is pass)
  where
    by : (b : Bool) → is_nil (filter passes starts) ≡ false → is_nil (cond b (t ∷ filter passes starts) (filter passes starts)) ≡ false
    by true kept = refl
    by false kept = kept

-- and is the one that is kept, where that is one
the-only : (passes : Start → Bool) (starts : List Start) (n : ℕ) (u s : Start) → slice_get starts n ≡ Some u → passes u ≡ true → filter passes starts ≡ s ∷ [] → u ≡ s
the-only passes [] n u s is pass only = none-there u is
the-only passes (t ∷ starts) zero u s is pass only =
    let same = same-start t u is in
    let kept : t ∷ filter passes starts ≡ s ∷ [] = ap (λ b. cond b (t ∷ filter passes starts) (filter passes starts)) (sym (ap passes same ∙ pass)) ∙ only in
    sym same ∙ ap (λ (ss : List Start). get_or ss 0 s) kept
the-only passes (t ∷ starts) (suc n) u s is pass only = by (passes t) only (λ kept. the-only passes starts n u s is pass kept)
  where
    by : (b : Bool) → cond b (t ∷ filter passes starts) (filter passes starts) ≡ s ∷ [] → (filter passes starts ≡ s ∷ [] → u ≡ s) → u ≡ s
    by true kept later = absurd (false≢true (sym (kept-some passes starts n u is pass) ∙ ap (λ (ss : List Start). is_nil (drop 1 ss)) kept))
    by false kept later = later kept

module _ (text : List ℕ) (starts : List Start) (s : Start) (only : filter (λ (u : Start). bytes_eq u.0.token text) starts ≡ s ∷ []) where
  by-number : (found : Option Start) → ((u : Start) → found ≡ Some u → bytes_eq u.0.token text ≡ true → u ≡ s)
      → or_else (column_if text found) (column_of_only (filter (λ (u : Start). bytes_eq u.0.token text) starts)) ≡ Some s.1
  by-number None same = ap (λ (ss : List Start). column_of_only ss) only
  by-number (Some u) same = by (bytes_eq u.0.token text) refl
    where
      by : (b : Bool) → bytes_eq u.0.token text ≡ b → or_else (if b then Some u.1 else None) (column_of_only (filter (λ (u : Start). bytes_eq u.0.token text) starts)) ≡ Some s.1
      by true spelled = ap (λ (t : Start). Some t.1) (same u refl spelled)
      by false spelled = ap (λ (ss : List Start). column_of_only ss) only

  among-only : (number : Option ℕ) → column_among number text starts ≡ Some s.1
  among-only None = ap (λ (ss : List Start). column_of_only ss) only
  among-only (Some number) = by-number (slice_get starts number) (λ u is spelled. the-only (λ (u : Start). bytes_eq u.0.token text) starts number u s is spelled only)

pub column-only : (lines : List (List ℕ)) (line : ℕ) (number : Option ℕ) (text bytes : List ℕ) (s : Start) → line_of lines line ≡ Some bytes
    → filter (λ (u : Start). bytes_eq u.0.token text) (on_line line (starts_of lines)) ≡ s ∷ [] → column_in lines line number text ≡ column_with text bytes (Some s.1)
column-only lines line number text bytes s there only =
    on-line lines line number text bytes there ∙ ap (λ (o : Option ℕ). column_with text bytes o) (among-only text (on_line line (starts_of lines)) s only number)
