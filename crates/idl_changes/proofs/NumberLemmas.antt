-- Labels, by the numbers of enumerators.
use Rattle.std.proofs.Common.{◌≡◌, ◌∙◌, ◌+◌, ◌<◌, ◌++◌, ◌∷◌, [], ℕ, Bool, List, None, Option, Some, ap, arith, false, get_or, if◌then◌else◌, length, position, refl, sym, take, true}
use Rattle.std.specs.Cmp.Lexicographic.{bytes_decides}
use Rattle.std.specs.Map.{lookup}
use Rattle.std.specs.Option.{is_some, option_map, option_or}
use Rattle.std.specs.Str.{bytes_eq}
use Rattle.std.proofs.lemmas.List.{length-take-le, take_more}
use Rattle.idl_changes.specs.Plain.{label_of}
use Rattle.idl_changes.specs.declared.keys.NumberedText.{NumberedText}
use Rattle.idl_changes.proofs.OfferLemmas.{or-none}
use Rattle.idl_changes.proofs.TableLemmas.{position-more}

-- the label of a text that has this number, or none
abbrev pub numbered_label : List ℕ → Option ℕ → NumberedText
numbered_label text found =
    elim found [ None ↦ record { text = text; number = 0 } | Some n ↦ record { text = []; number = n } ]

pub label-by : (names : List (List ℕ)) (text : List ℕ) (found : Option ℕ) → found ≡ option_map (λ (n : ℕ). n + 1) (position (bytes_eq text) names)
    → numbered_label text found ≡ label_of names text
unfolding label_of
label-by names text found is = by (position (bytes_eq text) names) is
  where
    by : (place : Option ℕ) → found ≡ option_map (λ (n : ℕ). n + 1) place
        → numbered_label text found ≡ elim place [ None ↦ record { text = text; number = 0 } | Some n ↦ record { text = []; number = n + 1 } ]
    by None h = ap (numbered_label text) h
    by (Some n) h = ap (numbered_label text) h

-- a number that is put in where there is none
module _ (k name : List ℕ) (old : List (List ℕ × ℕ)) (number : ℕ) where
  pub held-or : is_some (lookup (bytes_eq name) old) ≡ true → lookup (bytes_eq k) old ≡ option_or (lookup (bytes_eq k) old) (if bytes_eq k name then Some number else None)
  held-or held = by (bytes_eq k name) (bytes_decides k name).0
    where
      some : (found : Option ℕ) → is_some found ≡ true → found ≡ option_or found (Some number)
      some None h = cc
      some (Some n) h = refl

      by : (b : Bool) → (b ≡ true → k ≡ name) → lookup (bytes_eq k) old ≡ option_or (lookup (bytes_eq k) old) (if b then Some number else None)
      by true same = some (lookup (bytes_eq k) old) (ap (λ (n : List ℕ). is_some (lookup (bytes_eq n) old)) (same refl) ∙ held)
      by false same = sym (or-none (lookup (bytes_eq k) old))

  pub lone-or : (new : Option ℕ) → is_some (lookup (bytes_eq name) old) ≡ false → new ≡ (if bytes_eq k name then Some number else lookup (bytes_eq k) old)
      → new ≡ option_or (lookup (bytes_eq k) old) (if bytes_eq k name then Some number else None)
  lone-or new lone put = put ∙ by (bytes_eq k name) (bytes_decides k name).0
    where
      none : (found : Option ℕ) → is_some found ≡ false → Some number ≡ option_or found (Some number)
      none None h = refl
      none (Some n) h = cc

      by : (b : Bool) → (b ≡ true → k ≡ name) → (if b then Some number else lookup (bytes_eq k) old) ≡ option_or (lookup (bytes_eq k) old) (if b then Some number else None)
      by true same = none (lookup (bytes_eq k) old) (ap (λ (n : List ℕ). is_some (lookup (bytes_eq n) old)) (same refl) ∙ lone)
      by false same = sym (or-none (lookup (bytes_eq k) old))

-- one name more
number-by : (place : Option ℕ) (b : Bool) (n : ℕ)
    → option_or (option_map (λ (k : ℕ). k + 1) place) (if b then Some (n + 1) else None) ≡ option_map (λ (k : ℕ). k + 1) (option_or place (if b then Some n else None))
number-by (Some k) b n = refl
number-by None true n = refl
number-by None false n = refl

pub numbers-next : (names : List (List ℕ)) (i : ℕ) (name k : List ℕ) (old new : Option ℕ) → i < length names → name ≡ get_or names i name
    → old ≡ option_map (λ (n : ℕ). n + 1) (position (bytes_eq k) (take i names)) → new ≡ option_or old (if bytes_eq k name then Some (i + 1) else None)
    → new ≡ option_map (λ (n : ℕ). n + 1) (position (bytes_eq k) (take (i + 1) names))
numbers-next names i name k old new within is so_far put =
    let few = length-take-le i names in
    let count : length (take i names) ≡ i = omega (arith, within, few) in
    let next = take_more names i name within ∙ ap (λ (n : List ℕ). take i names ++ n ∷ []) (sym is) in
    put ∙ ap (λ (o : Option ℕ). option_or o (if bytes_eq k name then Some (i + 1) else None)) so_far
    ∙ number-by (position (bytes_eq k) (take i names)) (bytes_eq k name) i
    ∙ ap (option_map (λ (n : ℕ). n + 1))
    (sym (ap (position (bytes_eq k)) next ∙ position-more (bytes_eq k) (take i names) name
    ∙ ap (λ (n : ℕ). option_or (position (bytes_eq k) (take i names)) (if bytes_eq k name then Some n else None)) count))
