-- Words of `-D`.
use Rattle.std.proofs.Common.{◌≡◌, ◌+◌, ℕ, Bool, true, false, cond, List, [], ◌∷◌, Option, None, Some, length, nat_eq, refl, sym, ap, ◌∙◌, arith, codes}
use Rattle.std.proofs.lemmas.List.Splits.{join_with_byte-slice_split, length-slice_split}
use Rattle.std.specs.List.{slice_split, join_with_byte, onto_first}
use Rattle.idl_driver.specs.Options.{after_equals, before_equals, macro_body}

abbrev is_equals : ℕ → Bool
is_equals b = nat_eq b 61

abbrev parts : Option (List ℕ) → List (List ℕ)
parts None = []
parts (Some rest) = slice_split is_equals rest

split-is : (word : List ℕ) → slice_split is_equals word ≡ before_equals word ∷ parts (after_equals word)
split-is [] = refl
split-is (b ∷ bytes) = by (nat_eq b 61) (split-is bytes)
  where
    by : (at : Bool) → slice_split is_equals bytes ≡ before_equals bytes ∷ parts (after_equals bytes)
        → cond at ([] ∷ slice_split is_equals bytes) (onto_first b (slice_split is_equals bytes))
        ≡ cond at [] (b ∷ before_equals bytes) ∷ parts (cond at (Some bytes) (after_equals bytes))
    by true rest = refl
    by false rest = ap (onto_first b) rest

-- a word that is one part has no value
pub part-one : (word first : List ℕ) → slice_split is_equals word ≡ first ∷ [] → (first ≡ before_equals word) × (codes "1" ≡ macro_body word)
part-one word first e = by (after_equals word) refl (sym (split-is word) ∙ e)
  where
    by : (rest : Option (List ℕ)) → after_equals word ≡ rest → before_equals word ∷ parts rest ≡ first ∷ [] → (first ≡ before_equals word) × (codes "1" ≡ macro_body word)
    by None is h = (cc, rw is refl)
    by (Some rest) is h =
        let none : slice_split is_equals rest ≡ [] = cc in
        absurd (omega (arith, length-slice_split is_equals rest, ap length none))

-- a word of more parts has the value behind its first part
pub part-more : (word first rest : List ℕ) → slice_split is_equals word ≡ first ∷ slice_split is_equals rest → (first ≡ before_equals word) × (rest ≡ macro_body word)
part-more word first rest e = by (after_equals word) refl (sym (split-is word) ∙ e)
  where
    by : (value : Option (List ℕ)) → after_equals word ≡ value → before_equals word ∷ parts value ≡ first ∷ slice_split is_equals rest → (first ≡ before_equals word) × (rest ≡ macro_body word)
    by None is h =
        let none : slice_split is_equals rest ≡ [] = cc in
        absurd (omega (arith, length-slice_split is_equals rest, ap length none))
    by (Some value) is h =
        let same : slice_split is_equals rest ≡ slice_split is_equals value = cc in
        (cc, rw is (sym (join_with_byte-slice_split 61 rest) ∙ ap (join_with_byte 61) same ∙ join_with_byte-slice_split 61 value))
