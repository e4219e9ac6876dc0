-- Command lines cut at their blanks.
use Rattle.std.proofs.Common.{◌≡◌, ◌∷◌, ◌++◌, ◌∙◌, Bool, true, false, cond, ℕ, List, [], Contains, eqb, length, refl, sym, ap, arith, subst}
use Rattle.std.proofs.lemmas.List.Elements.{Contains-append_right}
use Rattle.std.proofs.lemmas.List.Splits.{join_with_byte-slice_split, length-slice_split}
use Rattle.std.specs.List.{slice_split, onto_first, join_with_byte}
use Rattle.idl_source.specs.texts.Line.{IsLine}
use Rattle.idl_inputs.specs.Edits.{Define}
use Rattle.idl_session.specs.Requests.{Malformed, Make, counted_request, define_request, is_command_word, words}

-- five words after the first are too many
abbrev sixth_bad : List ℕ → List ℕ → List ℕ → List ℕ → List ℕ → List (List ℕ) → Type 0
sixth_bad w a b c d ws = counted_request w (a ∷ b ∷ c ∷ d ∷ ws) ≡ Malformed

onto_bad : (w a b c d : List ℕ) (x : ℕ) (ws : List (List ℕ)) → sixth_bad w a b c d (onto_first x ws)
onto_bad w a b c d x [] = refl
onto_bad w a b c d x (v ∷ ws) = refl

pub many_words : (w a b c d : List ℕ) (p : ℕ → Bool) (more : List ℕ) → counted_request w (a ∷ b ∷ c ∷ d ∷ slice_split p more) ≡ Malformed
many_words w a b c d p [] = refl
many_words w a b c d p (x ∷ more) =
    elim (p x) as (λ t. sixth_bad w a b c d (cond t ([] ∷ slice_split p more) (onto_first x (slice_split p more)))) [
      | true ↦ refl
      | false ↦ onto_bad w a b c d x (slice_split p more)
    ]

joined_more : (w : List ℕ) (ws : List (List ℕ)) → (ws ≡ [] → ⊥) → join_with_byte 32 (w ∷ ws) ≡ w ++ 32 ∷ join_with_byte 32 ws
joined_more w [] some = absurd (some refl)
joined_more w (v ∷ ws) some = refl

split_some : (rest : List ℕ) → slice_split (λ b. eqb b 32) rest ≡ [] → ⊥
split_some rest e = omega (arith, ap length e, length-slice_split (λ b. eqb b 32) rest)

-- the bytes after the first blank of a line
line_cut : (line w rest : List ℕ) → slice_split (λ b. eqb b 32) line ≡ w ∷ slice_split (λ b. eqb b 32) rest → line ≡ w ++ 32 ∷ rest
line_cut line w rest e =
    sym (join_with_byte-slice_split 32 line) ∙ ap (join_with_byte 32) e ∙ joined_more w (slice_split (λ b. eqb b 32) rest) (split_some rest)
    ∙ ap (λ bytes. w ++ 32 ∷ bytes) (join_with_byte-slice_split 32 rest)

-- are one line, too
pub IsLine-rest : (line w rest : List ℕ) → slice_split (λ b. eqb b 32) line ≡ w ∷ slice_split (λ b. eqb b 32) rest → IsLine line → IsLine rest
IsLine-rest line w rest e one_line has =
    one_line (subst (λ (bytes : List ℕ). Contains bytes 10) (sym (line_cut line w rest e)) (Contains-append_right w (32 ∷ rest) 10 (Contains-append_right (32 ∷ []) rest 10 has)))

-- the words after the second blank make the body
pub define_request-body : (rest word body : List ℕ) → slice_split (λ b. eqb b 32) rest ≡ word ∷ slice_split (λ b. eqb b 32) body → is_command_word word ≡ true
    → Make (Define word body) ≡ define_request (words rest)
define_request-body rest word body e allowed =
    sym (ap define_request e ∙ ap (λ b. cond b (Make (Define word (join_with_byte 32 (words body)))) Malformed) allowed
    ∙ ap (λ (bytes : List ℕ). Make (Define word bytes)) (join_with_byte-slice_split 32 body))
