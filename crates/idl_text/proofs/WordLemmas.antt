-- The words of a text, token by token.
use Rattle.std.proofs.Common.{◌≡◌, ◌∙◌, inl, inr, ◌+◌, ◌<◌, ◌≤◌, ◌++◌, ◌∷◌, ℕ, Bool, true, false, leb, leb-true, leb-false, List, [], append_assoc, arith, get_or, length, length-append, take, refl, sym, ap, subst}
use Rattle.std.proofs.lemmas.List.{get_or_append_left, get_or_at, take-append-le, take_at}
use Rattle.std.proofs.lemmas.List.Elements.{All-nil, All-push, All-weaker, Contains-append_left, Contains-push}
use Rattle.std.specs.List.{All}
use Rattle.idl_lex.specs.tokens.Tokens.{Token}
use Rattle.idl_lex.specs.declared.tokens.token.PlacedToken.{PlacedToken}
use Rattle.idl_text.specs.Texts.{AreWordsOf, Brings, IsMet}

-- of no tokens
pub words-none : AreWordsOf [] []
words-none = record { each = λ index less. absurd (omega (arith, less)); all = All-nil (IsMet []) }

-- what a text brings it brings with more behind it
brings-more : (text more : List PlacedToken) (met : List Token) (word : Token) → Brings text met word → Brings (text ++ more) met word
brings-more text more met word b = record {
  front = b.front;
  first = b.first;
  behind = b.behind ++ more;
  all = ap (λ ts. ts ++ more) b.all ∙ append_assoc b.front (b.first ∷ b.behind) more;
  is = b.is;
  known = b.known;
}

-- what is met among words is met among more
met-more : (words more : List Token) (t : PlacedToken) → IsMet words t → IsMet (words ++ more) t
met-more words more t (inl none) = inl none
met-more words more t (inr met) = inr (Contains-append_left words more t.token met)

module _ (text : List PlacedToken) (words : List Token) (t : PlacedToken) (are : AreWordsOf text words) where
  -- a token more that is met already
  pub words-met : IsMet words t → AreWordsOf (text ++ t ∷ []) words
  words-met met = record {
    each = λ index less. brings-more text (t ∷ []) (take index words) (get_or words index []) (are.each index less);
    all = All-push (IsMet words) text t are.all met;
  }

  -- each of the words with one more behind them
  each-new : (index : ℕ) → index < length (words ++ t.token ∷ []) → (b : Bool) → leb (index + 1) (length words) ≡ b
      → Brings (text ++ t ∷ []) (take index (words ++ t.token ∷ [])) (get_or (words ++ t.token ∷ []) index [])
  each-new index less true is =
      let old : index + 1 ≤ length words = leb-true (index + 1) (length words) is in
      let here : index < length words = omega (arith, old) in
      subst (λ met. Brings (text ++ t ∷ []) met (get_or (words ++ t.token ∷ []) index [])) (sym (take-append-le index words (t.token ∷ []) (omega (arith, old))))
      (subst (λ word. Brings (text ++ t ∷ []) (take index words) word) (sym (get_or_append_left words (t.token ∷ []) [] index here))
      (brings-more text (t ∷ []) (take index words) (get_or words index []) (are.each index here)))
  each-new index less false is =
      let size : length words ≡ index = omega (arith, leb-false (index + 1) (length words) is, less, length-append words (t.token ∷ [])) in
      record {
        front = text;
        first = t;
        behind = [];
        all = refl;
        is = sym (get_or_at words t.token [] [] index size);
        known = subst (λ met. All (IsMet met) text) (sym (take_at words (t.token ∷ []) index size)) are.all;
      }

  -- a token more, which is one of the words from now on
  pub words-new : AreWordsOf (text ++ t ∷ []) (words ++ t.token ∷ [])
  words-new = record {
    each = λ index less. each-new index less (leb (index + 1) (length words)) refl;
    all = All-push (IsMet (words ++ t.token ∷ [])) text t
        (All-weaker (IsMet words) (IsMet (words ++ t.token ∷ [])) (met-more words (t.token ∷ [])) text are.all)
        (inr (Contains-push words t.token));
  }
