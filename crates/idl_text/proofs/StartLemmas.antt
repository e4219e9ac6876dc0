-- Where tokens begin, one after another.
use Rattle.std.proofs.Common.{◌≡◌, ◌∙◌, ◌<◌, ◌-◌, ◌++◌, ◌∷◌, ◌+◌, ℕ, suc, nat_eq, true, false, cond, List, [], drop, length, Option, None, Some, refl, ap, arith}
use Rattle.std.proofs.Math.Seq.{drop-nil}
use Rattle.std.specs.List.{filter, slice_get}
use Rattle.std.specs.Str.{bytes_eq}
use Rattle.idl_lex.specs.bytes.Columns.{behind_gaps, gaps_after}
use Rattle.idl_lex.specs.declared.bytes.text_left.TextByte.{TextByte}
use Rattle.idl_lex.specs.declared.tokens.token.PlacedToken.{PlacedToken}
use Rattle.idl_text.specs.Starts.{Start, column_of_only, on_line, start_at, starts_in}

pub starts_in-nil : (text : List TextByte) → starts_in [] text ≡ []
unfolding starts_in
starts_in-nil text = refl

-- only what comes after the first gaps counts
pub starts_in-behind : (tokens : List PlacedToken) (a b : List TextByte) → behind_gaps a ≡ behind_gaps b → starts_in tokens a ≡ starts_in tokens b
unfolding starts_in
starts_in-behind [] a b same = refl
starts_in-behind (t ∷ tokens) a b same = ap (λ x. start_at t x ++ starts_in tokens (drop (length t.token) x)) same

no_gaps : behind_gaps [] ≡ []
unfolding gaps_after
no_gaps = refl

-- in a text of which nothing is left none begins
pub starts_in-past : (tokens : List PlacedToken) (text : List TextByte) → behind_gaps text ≡ [] → starts_in tokens text ≡ []
unfolding starts_in
starts_in-past [] text none = refl
starts_in-past (t ∷ tokens) text none =
    ap (λ x. start_at t x ++ starts_in tokens (drop (length t.token) x)) none
    ∙ ap (starts_in tokens) (drop-nil (length t.token))
    ∙ starts_in-past tokens [] no_gaps

pub starts_in-next : (t : PlacedToken) (tokens : List PlacedToken) (text : List TextByte) (b : TextByte) (rest : List TextByte) → behind_gaps text ≡ b ∷ rest
    → starts_in (t ∷ tokens) text ≡ (t, b.column) ∷ starts_in tokens (drop (length t.token) (behind_gaps text))
unfolding starts_in
starts_in-next t tokens text b rest is = ap (λ x. start_at t x ++ starts_in tokens (drop (length t.token) (behind_gaps text))) is

-- ---- those on a line

pub on_line-here : (line : ℕ) (s : Start) (starts : List Start) → nat_eq s.0.line line ≡ true → on_line line (s ∷ starts) ≡ s ∷ on_line line starts
on_line-here line s starts here = ap (λ b. cond b (s ∷ on_line line starts) (on_line line starts)) here

pub on_line-other : (line : ℕ) (s : Start) (starts : List Start) → nat_eq s.0.line line ≡ false → on_line line (s ∷ starts) ≡ on_line line starts
on_line-other line s starts other = ap (λ b. cond b (s ∷ on_line line starts) (on_line line starts)) other

-- the one with a number is further down by one that is passed
pub number-on : (s : Start) (starts : List Start) (number count : ℕ) → count < number → slice_get (s ∷ starts) (number - count) ≡ slice_get starts (number - (count + 1))
number-on s starts number count more =
    let e : number - count ≡ suc (number - (count + 1)) = omega (arith, more) in
    ap (slice_get (s ∷ starts)) e

pub number-here : (s : Start) (starts : List Start) (number count : ℕ) → count ≡ number → slice_get (s ∷ starts) (number - count) ≡ Some s
number-here s starts number count is =
    let e : number - count ≡ 0 = omega (arith, is) in
    ap (slice_get (s ∷ starts)) e

-- ---- the only one that is spelled so

abbrev pub spelled_on : ℕ → List ℕ → List Start → List Start
spelled_on line text starts = filter (λ s. bytes_eq s.0.token text) (on_line line starts)

pub spelled_on-here : (line : ℕ) (text : List ℕ) (s : Start) (starts : List Start) → nat_eq s.0.line line ≡ true → bytes_eq s.0.token text ≡ true
    → spelled_on line text (s ∷ starts) ≡ s ∷ spelled_on line text starts
spelled_on-here line text s starts here same =
    ap (λ (ss : List Start). filter (λ (s : Start). bytes_eq s.0.token text) ss) (on_line-here line s starts here)
    ∙ ap (λ b. cond b (s ∷ spelled_on line text starts) (spelled_on line text starts)) same

pub spelled_on-unlike : (line : ℕ) (text : List ℕ) (s : Start) (starts : List Start) → nat_eq s.0.line line ≡ true → bytes_eq s.0.token text ≡ false
    → spelled_on line text (s ∷ starts) ≡ spelled_on line text starts
spelled_on-unlike line text s starts here unlike =
    ap (λ (ss : List Start). filter (λ (s : Start). bytes_eq s.0.token text) ss) (on_line-here line s starts here)
    ∙ ap (λ b. cond b (s ∷ spelled_on line text starts) (spelled_on line text starts)) unlike

pub spelled_on-other : (line : ℕ) (text : List ℕ) (s : Start) (starts : List Start) → nat_eq s.0.line line ≡ false → spelled_on line text (s ∷ starts) ≡ spelled_on line text starts
spelled_on-other line text s starts other = ap (λ (ss : List Start). filter (λ (s : Start). bytes_eq s.0.token text) ss) (on_line-other line s starts other)

-- the only one of those that are left, and of one that was found before them
abbrev pub only_beside : Option ℕ → List Start → Option ℕ
only_beside None starts = column_of_only starts
only_beside (Some column) [] = Some column
only_beside (Some column) (s ∷ starts) = None

pub only_beside-first : (s : Start) (starts : List Start) → only_beside None (s ∷ starts) ≡ only_beside (Some s.1) starts
only_beside-first s [] = refl
only_beside-first s (t ∷ starts) = refl

pub only_beside-end : (only : Option ℕ) → only_beside only [] ≡ only
only_beside-end None = refl
only_beside-end (Some column) = refl
