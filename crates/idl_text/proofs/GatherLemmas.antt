-- The texts of a file, part by part.
use Rattle.std.proofs.Common.{◌≡◌, ◌↔◌, ◌∙◌, ◌⊎◌, inl, inr, ◌+◌, ◌-◌, ◌<◌, ◌≤◌, ◌++◌, ◌∷◌, ℕ, Bool, IsTrue, false, true≢false, List, [], append_assoc, arith, drop, length, map, take, refl, sym, ap, subst}
use Rattle.std.proofs.Math.Seq.{take-add}
use Rattle.std.proofs.lemmas.List.{drop-drop, drop_at, length-drop, length-take-le, take_at}
use Rattle.std.proofs.lemmas.List.Elements.{All-append, All-contains}
use Rattle.std.specs.List.{All, Contains}
use Rattle.idl_lex.specs.tokens.Tokens.{BeginsLine, Token, lines_of}
use Rattle.idl_lex.specs.declared.tokens.token.PlacedToken.{PlacedToken}
use Rattle.idl_text.specs.Line.{Text, lines_from}
use Rattle.idl_text.specs.Texts.{AreTextsOf, AreWordsOf, BeginsText, IsTextOf}
use Rattle.idl_text.specs.declared.texts.table.TextSpan.{TextSpan}
use Rattle.idl_text.specs.declared.texts.table.TextTable.{TextTable}
use Rattle.idl_text.proofs.GroupTextLemmas.{lines_from-text}
use Rattle.idl_text.proofs.LeftLemmas.{behind-first, within-first}
use Rattle.idl_text.proofs.TextLemmas.{IsText, IsText-none, lines_of-more}
use Rattle.idl_text.proofs.WordLemmas.{words-none}

-- Lines of text that come first among tokens: so many tokens, which have these words, before those that are left.
pub record IsGathered (tokens left : List PlacedToken) (count : ℕ) (found : List Token) : Type 0 where
  pub within : count ≤ length tokens
  pub rest : left ≡ drop count tokens
  pub begins : (count ≡ 0) ⊎ BeginsLine left
  pub lines : lines_of tokens ≡ lines_of (take count tokens) ++ lines_of left
  pub text : All IsText (lines_of (take count tokens))
  pub words : AreWordsOf (take count tokens) found

-- none of them
pub gathered-none : (tokens : List PlacedToken) (found : List Token) → found ≡ [] → IsGathered tokens tokens 0 found
unfolding lines_of
gathered-none tokens found none = record {
  within = omega arith;
  rest = refl;
  begins = inl refl;
  lines = refl;
  text = IsText-none;
  words = subst (AreWordsOf []) (sym none) words-none;
}

begins-front : (text rest : List PlacedToken) → 0 < length text → BeginsLine (text ++ rest) → BeginsLine text
begins-front [] rest some begins = absurd (omega (arith, some))
begins-front (t ∷ text) rest some begins = begins

-- more of them
pub gathered-more : (tokens left text rest : List PlacedToken) (count n : ℕ) (found more : List Token) → IsGathered tokens left count found
    → left ≡ text ++ rest → lines_of left ≡ lines_of text ++ lines_of rest → (length text ≡ 0) ⊎ BeginsLine rest → All IsText (lines_of text)
    → n ≡ length text → 0 < length text → AreWordsOf (take count tokens ++ text) more → IsGathered tokens rest (count + n) more
gathered-more tokens left text rest count n found more g all lines begins texts size some words =
    let front = take count tokens in
    let whole : take (count + n) tokens ≡ front ++ text =
    take-add count n tokens
    ∙ ap (λ ts. front ++ take n ts) (sym g.rest ∙ all)
    ∙ ap (λ ts. front ++ ts) (take_at text rest n (sym size)) in
    let starts : (count ≡ 0) ⊎ BeginsLine text = elim g.begins [ inl none ↦ inl none | inr b ↦ inr (begins-front text rest some (subst BeginsLine all b)) ] in
    let both : lines_of (take (count + n) tokens) ≡ lines_of front ++ lines_of text =
    ap lines_of whole ∙ lines_of-more front text count starts (length-take-le count tokens g.within) in
    record {
      within = within-first tokens left text rest count n g.rest all size g.within;
      rest = behind-first tokens left text rest count n g.rest all size;
      begins = elim begins [ inl none ↦ absurd (omega (arith, none, some)) | inr b ↦ inr b ];
      lines = g.lines
          ∙ ap (λ ls. lines_of front ++ ls) lines
          ∙ sym (append_assoc (lines_of front) (lines_of text) (lines_of rest))
          ∙ ap (λ ls. ls ++ lines_of rest) (sym both);
      text = subst (All IsText) (sym both) (All-append IsText (lines_of front) (lines_of text) g.text texts);
      words = subst (λ ts. AreWordsOf ts more) (sym whole) words;
    }

-- all of them: a text begins
pub gathered-begins : (tokens left : List PlacedToken) (count : ℕ) (found : List Token) → IsGathered tokens left count found → BeginsText tokens count found
gathered-begins tokens left count found g = record {
  within = g.within;
  lines = lines_from-text tokens (take count tokens) left g.lines g.text ∙ ap (λ ts. map Text (lines_of (take count tokens)) ++ lines_from ts) g.rest;
  words = g.words;
}

-- a text of a file begins where it stands
pub text-placed : (tokens left : List PlacedToken) (at : ℕ) (text : TextSpan) → left ≡ drop at tokens → text.from ≡ at → 0 < text.count
    → BeginsText left text.count text.words.items → IsTextOf tokens text
text-placed tokens left at text is from some begins = record {
  some = some;
  is = subst (λ ts. BeginsText ts text.count text.words.items) (is ∙ ap (λ n. drop n tokens) (sym from)) begins;
}

-- A text that begins with these tokens of a file, and what is behind it.
pub record IsTextHere (tokens left : List PlacedToken) (at : ℕ) (text : TextSpan) : Type 0 where
  pub some : 0 < text.count
  pub begins : BeginsText left text.count text.words.items
  pub end : at + text.count ≤ length tokens
  pub behind : drop text.count left ≡ drop (at + text.count) tokens

-- what is behind a text, and how far that is
pub text-behind : (tokens left : List PlacedToken) (at count : ℕ) (found : List Token) → left ≡ drop at tokens → at ≤ length tokens → BeginsText left count found
    → (at + count ≤ length tokens) × (drop count left ≡ drop (at + count) tokens)
text-behind tokens left at count found is within begins = (
  omega (arith, within, begins.within, ap length is, length-drop at tokens),
  ap (drop count) is ∙ drop-drop count at tokens,
)

-- one of the texts of a file begins where it is looked for
pub text-found : (tokens left : List PlacedToken) (at : ℕ) (table : TextTable) (text : TextSpan) → left ≡ drop at tokens → at ≤ length tokens → AreTextsOf tokens table
    → Contains table.texts.items text → text.from ≡ at → IsTextHere tokens left at text
text-found tokens left at table text is within are there from =
    let one : IsTextOf tokens text = All-contains (IsTextOf tokens) table.texts.items text are there in
    let begins : BeginsText left text.count text.words.items =
    subst (λ ts. BeginsText ts text.count text.words.items) (ap (λ n. drop n tokens) from ∙ sym is) one.is in
    let behind = text-behind tokens left at text.count text.words.items is within begins in
    record { some = one.some; begins = begins; end = behind.0; behind = behind.1 }

-- so many of some tokens and of those behind them
pub take-past : (count : ℕ) (part rest : List PlacedToken) → length part ≤ count → take count (part ++ rest) ≡ part ++ take (count - length part) rest
take-past count part rest few =
    let sum : count ≡ length part + (count - length part) = omega (arith, few) in
    ap (λ n. take n (part ++ rest)) sum
    ∙ take-add (length part) (count - length part) (part ++ rest)
    ∙ (λ i. take_at part rest (length part) refl i ++ take (count - length part) (drop_at part rest (length part) refl i))

-- what isn't found to be none is some
pub not_none-some : (tokens : List PlacedToken) (none : Bool) → (IsTrue none ↔ (tokens ≡ [])) → none ≡ false → 0 < length tokens
not_none-some [] none same differs = absurd (true≢false (sym (same.1 refl) ∙ differs))
not_none-some (t ∷ tokens) none same differs = omega arith
