-- Options that are carried out word by word.
use Rattle.std.proofs.Common.{◌≡◌, ◌∷◌, ◌++◌, ◌+◌, ◌<◌, ◌≤◌, ◌∙◌, ◌||◌, ℕ, Bool, true, false, List, [], All, Option, None, Some, codes, drop, filter, fold, get_or, length, map, refl, sym, ap, subst, arith, take}
use Rattle.std.proofs.lemmas.List.{drop_more, get_or-map, length-map, map-append, take_more}
use Rattle.std.proofs.lemmas.List.Sums.{fold-append}
use Rattle.std.proofs.lemmas.List.Elements.{All-cons, All-nil, All-weaker, filter-append}
use Rattle.std.specs.Cmp.Lexicographic.{bytes_decides}
use Rattle.std.specs.List.{list_any}
use Rattle.std.specs.Option.{option_and_then}
use Rattle.std.specs.Str.{bytes_eq}
use Rattle.idl_source.specs.names.Path.{directory_path, joined_path}
use Rattle.idl_inputs.specs.Project.{Macros}
use Rattle.idl_driver.specs.Options.{defined_by, is_nameless, named_by, searched_by, undefined_by, with_name, with_word}

-- what is left of a list, at its next element
pub drop-map-next : {A B : Type 0} (f : A → B) (xs : List A) (i : ℕ) (d : A) (y : B) → i < length xs → y ≡ f (get_or xs i d) → drop i (map f xs) ≡ y ∷ drop (i + 1) (map f xs)
drop-map-next f xs i d y within is =
    drop_more (map f xs) i y (omega (arith, within, length-map xs f))
    ∙ ap (λ z. z ∷ drop (i + 1) (map f xs)) (get_or-map f xs i d y within ∙ sym is)

-- one word more
pub searched-more : (old new : List (List ℕ)) (word : List ℕ) (rest : List (List ℕ)) → searched_by old (word ∷ []) ≡ Some new
    → searched_by new rest ≡ searched_by old (word ∷ rest)
searched-more old new word rest e = by (directory_path word) e
  where
    by : (to : Option (List ℕ)) → option_and_then (λ d. searched_by (old ++ d ∷ []) []) to ≡ Some new
        → searched_by new rest ≡ option_and_then (λ d. searched_by (old ++ d ∷ []) rest) to
    by None h = absurd (cc)
    by (Some d) h =
        let same : new ≡ old ++ d ∷ [] = cc in
        ap (λ ds. searched_by ds rest) same

pub named-more : (old new : List (List ℕ)) (word : List ℕ) (rest : List (List ℕ)) → named_by old (word ∷ []) ≡ Some new
    → named_by new rest ≡ named_by old (word ∷ rest)
named-more old new word rest e = by (joined_path (codes ".") word) e
  where
    by : (to : Option (List ℕ)) → option_and_then (λ n. named_by (with_name old n) []) to ≡ Some new
        → named_by new rest ≡ option_and_then (λ n. named_by (with_name old n) rest) to
    by None h = absurd (cc)
    by (Some n) h =
        let same : new ≡ with_name old n = cc in
        ap (λ ns. named_by ns rest) same

pub defined-next : {A : Type 0} (text : A → List ℕ) (words : List A) (i : ℕ) (d : A) (old new : Macros) → i < length words → new ≡ defined_by old (text (get_or words i d) ∷ [])
    → defined_by new (drop (i + 1) (map text words)) ≡ defined_by old (drop i (map text words))
defined-next text words i d old new within made =
    ap (λ ms. defined_by ms (drop (i + 1) (map text words))) made
    ∙ ap (defined_by old) (sym (drop-map-next text words i d (text (get_or words i d)) within refl))

pub undefined-next : {A : Type 0} (text : A → List ℕ) (words : List A) (i : ℕ) (d : A) (old new : Macros) → i < length words → new ≡ undefined_by old (text (get_or words i d) ∷ [])
    → undefined_by new (drop (i + 1) (map text words)) ≡ undefined_by old (drop i (map text words))
undefined-next text words i d old new within made =
    ap (λ ms. undefined_by ms (drop (i + 1) (map text words))) made
    ∙ ap (undefined_by old) (sym (drop-map-next text words i d (text (get_or words i d)) within refl))

-- words before one more
taken-next : {A : Type 0} (text : A → List ℕ) (words : List A) (i : ℕ) (d : A) → i < length words → map text (take (i + 1) words) ≡ map text (take i words) ++ text (get_or words i d) ∷ []
taken-next text words i d within = ap (map text) (take_more words i d within) ∙ map-append text (take i words) (get_or words i d ∷ [])

pub named-next : {A : Type 0} (text : A → List ℕ) (words : List A) (i : ℕ) (d : A) (old new : List (List ℕ)) → i < length words → old ≡ fold with_word [] (map text (take i words))
    → new ≡ with_word old (text (get_or words i d)) → new ≡ fold with_word [] (map text (take (i + 1) words))
named-next text words i d old new within are more =
    let word = text (get_or words i d) in
    more ∙ ap (λ ns. with_word ns word) are ∙ sym (ap (fold with_word []) (taken-next text words i d within) ∙ fold-append with_word [] (map text (take i words)) (word ∷ []))

pub nameless-next : {A : Type 0} (text : A → List ℕ) (words : List A) (i : ℕ) (d : A) (old new : List (List ℕ)) → i < length words → old ≡ filter is_nameless (map text (take i words))
    → new ≡ old ++ filter is_nameless (text (get_or words i d) ∷ []) → new ≡ filter is_nameless (map text (take (i + 1) words))
nameless-next text words i d old new within are more =
    let word = text (get_or words i d) in
    more ∙ ap (λ ns. ns ++ filter is_nameless (word ∷ [])) are
    ∙ sym (ap (filter is_nameless) (taken-next text words i d within) ∙ filter-append is_nameless (map text (take i words)) (word ∷ []))
