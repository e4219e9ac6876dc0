-- What the reading of `defined X` and a whole condition ask and tell, and what comes of them.
use Rattle.std.proofs.Common.{◌≡◌, ℕ, zero, suc, List, [], ◌∷◌, ◌++◌, Option, None, Some, is_some, drop, refl, ap, sym, ◌∙◌, append_assoc}
use Rattle.std.specs.Option.{option_map}
use Rattle.idl_memo.specs.Query.{Done, Ask, Tell, and_then}
use Rattle.idl_macro.specs.conditions.Arithmetic.{Value}
use Rattle.idl_event.specs.Expanding.{Expanding, Reached, arrival, arrived}
use Rattle.idl_event.specs.declared.asked.key.RootAnswer.{RootAnswer}
use Rattle.idl_event.specs.declared.asked.key.RootKey.{RootKey}
use Rattle.idl_fault.specs.declared.place.Place.{Place}
use Rattle.idl_lex.specs.tokens.Tokens.{Token, tokens_in}
use Rattle.idl_lex.specs.declared.tokens.token.PlacedToken.{PlacedToken}
use Rattle.idl_macro.specs.Condition.{condition, defined_at, defined_read, judged, judging, read_after, read_one, taken_by, truth, value}
use Rattle.idl_macro.specs.Macros.{Definitions, macro_of}
use Rattle.idl_macro.specs.Replace.{followed_by, operand}
use Rattle.idl_macro.proofs.ArrivalLemmas.{arrival-and_then}
use Rattle.idl_macro.proofs.ReplaceLemmas.{outcome-followed_by, reached-followed_by}

-- a name and what follows it, where it takes so many of these tokens
abbrev pub name_and_rest : List Token → Option (List ℕ × ℕ) → Option (List ℕ × List Token)
name_and_rest tokens name = option_map {U = List ℕ × List Token} (λ d. (d.0, drop d.1 tokens)) name

some_same : {A : Type 0} {x y : A} → Some x ≡ Some y → x ≡ y
some_same {x = x} h = ap (λ o. elim o [ None ↦ x | Some z ↦ z ]) h

no_name : (tokens : List Token) (name : Option (List ℕ × ℕ)) → None ≡ name_and_rest tokens name → name ≡ None
no_name tokens None h = refl
no_name tokens (Some d) h = cc

module _ (definitions : Definitions) where
  -- tokens that a name takes are passed over
  read_after-drop : (n : ℕ) (tokens : List Token) → read_after definitions n tokens ≡ defined_read definitions (drop n tokens)
  unfolding read_after
  read_after-drop zero [] = refl
  read_after-drop (suc n) [] = refl
  read_after-drop zero (t ∷ tokens) = refl
  read_after-drop (suc n) (t ∷ tokens) = read_after-drop n tokens

  -- no token
  pub defined_read-nil : defined_read definitions [] ≡ Done []
  unfolding read_after
  defined_read-nil = refl

  module _ (t : Token) (tokens : List Token) where
    -- what is read first, and then
    abbrev read_first : Option (List ℕ × ℕ) → Expanding (List Token)
    read_first name = followed_by (read_one definitions t name) (read_after definitions (taken_by name) tokens)

    -- a token that is no `defined X` is read as it is
    pub defined_read-token : None ≡ name_and_rest tokens (defined_at t tokens)
        → defined_read definitions (t ∷ tokens) ≡ followed_by (Done (t ∷ [])) (defined_read definitions tokens)
    unfolding read_after
    defined_read-token h = ap read_first (no_name tokens (defined_at t tokens) h)

    -- a `defined X` is read as one token, for which the macro is looked for, and then what follows it
    abbrev pub answering : List ℕ → Expanding (List Token)
    answering word = and_then (macro_of definitions word) (λ body. Done (truth (is_some body) ∷ []))

    name_by : (word : List ℕ) (rest : List Token) (name : Option (List ℕ × ℕ)) → Some (word, rest) ≡ name_and_rest tokens name
        → read_first name ≡ followed_by (answering word) (defined_read definitions rest)
    name_by word rest None h = cc
    name_by word rest (Some d) h =
        ap (followed_by (answering d.0)) (read_after-drop d.1 tokens)
        ∙ ap (λ (e : List ℕ × List Token). followed_by (answering e.0) (defined_read definitions e.1)) (sym (some_same h))

    pub defined_read-name : (word : List ℕ) (rest : List Token) → Some (word, rest) ≡ name_and_rest tokens (defined_at t tokens)
        → defined_read definitions (t ∷ tokens) ≡ followed_by (answering word) (defined_read definitions rest)
    unfolding read_after
    defined_read-name word rest h = name_by word rest (defined_at t tokens) h

-- one query after two is the third after the second after the first
and_then-and_then : {A B C : Type 0} (query : Expanding A) (f : A → Expanding B) (g : B → Expanding C) → and_then (and_then query f) g ≡ and_then query (λ a. and_then (f a) g)
and_then-and_then (Done a) f g = refl
and_then-and_then (Ask k next) f g = λ i. Ask k (λ v. and_then-and_then (next v) f g i)
and_then-and_then (Tell x query) f g = ap (Tell x) (and_then-and_then query f g)

module _ (bank : RootKey → Option RootAnswer) where
  -- nothing is read before
  pub arrival-begun : (query : Expanding (List Token)) (p : Reached) → arrival bank (followed_by (Done []) query) p ≡ arrival bank query p
  arrival-begun query p = λ i. arrived (outcome-followed_by bank (Done []) query i) (reached-followed_by bank (Done []) query p i)

  -- a part more is read
  pub arrival-read : (read part : List Token) (first more : Expanding (List Token)) (p q : Reached) → arrived part q ≡ arrival bank first p
      → arrival bank (followed_by (Done read) (followed_by first more)) p ≡ arrival bank (followed_by (Done (read ++ part)) more) q
  arrival-read read part first more p q h =
      ap (λ query. arrival bank query p) (and_then-and_then first (λ ts. and_then more (λ rest. Done (ts ++ rest))) (λ ts. Done (read ++ ts)))
      ∙ (λ i. arrival bank (and_then first (λ ts. and_then-and_then more (λ rest. Done (ts ++ rest)) (λ us. Done (read ++ us)) i)) p)
      ∙ sym (arrival-and_then bank first (λ ts. and_then more (λ rest. Done (read ++ (ts ++ rest)))) part p q h)
      ∙ (λ i. arrival bank (and_then more (λ rest. Done (sym (append_assoc read part rest) i))) q)

  -- the whole, by what was read, given and found on the way
  pub arrival-condition : (place : Place) (word : List ℕ) (definitions : Definitions) (operands : List PlacedToken) (p q r : Reached) (read given : List Token) (found : Value)
      → arrived read q ≡ arrival bank (defined_read definitions (tokens_in operands)) p → arrived given r ≡ arrival bank (operand place definitions read) q → found ≡ value given
      → arrival bank (judged place word found) r ≡ arrival bank (condition place word definitions operands) p
  unfolding condition
  arrival-condition place word definitions operands p q r read given found is_read is_given is_found =
      ap (λ v. arrival bank (judged place word v) r) is_found
      ∙ arrival-and_then bank (operand place definitions read) (λ ts. judged place word (value ts)) given q r is_given
      ∙ arrival-and_then bank (defined_read definitions (tokens_in operands)) (judging place word definitions) read p q is_read
