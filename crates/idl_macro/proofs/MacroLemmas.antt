-- The macro of a word, and the body that a token is replaced by.
use Rattle.std.proofs.Common.{◌≡◌, ℕ, Bool, true, false, not, ◌&&◌, if◌then◌else◌, List, [], ◌∷◌, ◌++◌, Option, None, Some, is_some, reverse, refl, ap, sym, ◌∙◌}
use Rattle.std.specs.List.{list_any}
use Rattle.std.specs.Map.{keys_of, lookup}
use Rattle.std.specs.Str.{bytes_eq}
use Rattle.std.proofs.lemmas.List.Sorted.{IsPermutation-map, IsPermutation-reverse, list_any-IsPermutation}
use Rattle.std.proofs.lemmas.Map.Made.{is_some-lookup}
use Rattle.idl_memo.specs.Query.{Done, Ask, outcome}
use Rattle.idl_event.specs.Expanding.{Expanding}
use Rattle.idl_event.specs.declared.asked.key.RootAnswer.{RootAnswer}
use Rattle.idl_event.specs.declared.asked.key.RootKey.{RootKey}
use Rattle.idl_event.specs.declared.asked.key.RootKey.TheVariants as key
use Rattle.idl_lex.specs.tokens.Tokens.{Token}
use Rattle.idl_lex.specs.kinds.Word.{is_word}
use Rattle.idl_macro.specs.Macros.{Definitions, body_in, macro_of}
use Rattle.idl_macro.specs.Replace.{replacement}

module _ (definitions : Definitions) (word : List ℕ) where
  abbrev by_what_is_said : Option (Option (List Token)) → Expanding (Option (List Token))
  by_what_is_said said = elim said [ None ↦ Ask (key.Macro word) (λ found. Done (body_in found)) | Some body ↦ Done body ]

  -- what the root said of the word is the macro, and nothing is asked
  pub macro_of-said : (body : Option (List Token)) → lookup (bytes_eq word) definitions ≡ Some body → macro_of definitions word ≡ Done body
  unfolding macro_of
  macro_of-said body said = ap by_what_is_said said

  -- else the bank's answer is
  pub macro_of-asked : lookup (bytes_eq word) definitions ≡ None → macro_of definitions word ≡ Ask (key.Macro word) (λ found. Done (body_in found))
  unfolding macro_of
  macro_of-asked unsaid = ap by_what_is_said unsaid

-- a word is hidden if it has an entry, in whichever order
pub hidden-entries : {V : Type 0} (t word : List ℕ) (entries : List (List ℕ × V)) → word ≡ t → list_any (bytes_eq t) (keys_of (reverse entries)) ≡ is_some (lookup (bytes_eq word) entries)
hidden-entries t word entries same =
    sym (list_any-IsPermutation (bytes_eq t) (keys_of entries) (keys_of (reverse entries)) (IsPermutation-map (λ e. e.0) entries (reverse entries) (IsPermutation-reverse entries)))
    ∙ sym (is_some-lookup (bytes_eq t) entries)
    ∙ ap (λ w. is_some (lookup (bytes_eq w) entries)) (sym same)

module _ (definitions : Definitions) (hidden : List (List ℕ)) (t : Token) where
  -- what is looked for, by whether the token is a word, and whether it is hidden
  abbrev by_tests : Bool → Bool → Expanding (Option (List Token))
  by_tests word among = if word && not among then macro_of definitions t else Done None

  -- a token that is no word isn't replaced
  pub replacement-no_word : is_word t ≡ false → replacement definitions hidden t ≡ Done None
  unfolding replacement
  replacement-no_word h = ap (λ b. by_tests b (list_any (bytes_eq t) hidden)) h

  -- nor is a hidden one
  pub replacement-hidden : is_word t ≡ true → list_any (bytes_eq t) hidden ≡ true → replacement definitions hidden t ≡ Done None
  unfolding replacement
  replacement-hidden h among = λ i. by_tests (h i) (among i)

  -- for another one its macro is looked for
  pub replacement-word : is_word t ≡ true → list_any (bytes_eq t) hidden ≡ false → replacement definitions hidden t ≡ macro_of definitions t
  unfolding replacement
  replacement-word h among = λ i. by_tests (h i) (among i)

  module _ (bank : RootKey → Option RootAnswer) where
    none_hidden : (word among : Bool) (body : List Token) → outcome (by_tests word among) bank ≡ Some body → among ≡ false
    none_hidden word false body found = refl
    none_hidden true true body found = cc
    none_hidden false true body found = cc

    -- a token that is replaced is no hidden word
    pub not_hidden : (body : List Token) → outcome (replacement definitions hidden t) bank ≡ Some body → list_any (bytes_eq t) hidden ≡ false
    unfolding replacement
    not_hidden body found = none_hidden (is_word t) (list_any (bytes_eq t) hidden) body found

-- the word of a token that is replaced goes behind those that are there
pub entries-opened : {V : Type 0} (bank : RootKey → Option RootAnswer) (definitions : Definitions) (stack : List (List ℕ × V)) (t : Token) (body : List Token) (word : List ℕ) (v : V) (new : List (List ℕ × V))
    → outcome (replacement definitions (keys_of (reverse stack)) t) bank ≡ Some body → word ≡ t → (is_some (lookup (bytes_eq word) stack) ≡ false → new ≡ stack ++ (word, v) ∷ []) → new ≡ stack ++ (t, v) ∷ []
entries-opened bank definitions stack t body word v new found same inserted =
    inserted (sym (hidden-entries t word stack same) ∙ not_hidden definitions (keys_of (reverse stack)) t bank body found)
    ∙ ap (λ (k : List ℕ). stack ++ (k, v) ∷ []) same
