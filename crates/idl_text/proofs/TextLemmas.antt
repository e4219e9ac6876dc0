-- The lines of text that come first among tokens.
use Rattle.std.proofs.Common.{◌≡◌, ◌∙◌, ◌⊎◌, inl, inr, ◌+◌, ◌-◌, ◌<◌, ◌≤◌, ◌++◌, ◌∷◌, ℕ, zero, suc, true, false, not, List, [], codes, drop, get_or, length, length-drop, take, refl, sym, ap, subst, arith}
use Rattle.std.proofs.Math.Seq.{take-add}
use Rattle.std.proofs.lemmas.List.{drop-append-le, drop-drop, drop_more, get_or-map, length-map, length-take-le, take-append-drop, take-append-le, take-take}
use Rattle.std.proofs.lemmas.List.Elements.{All-append, All-cons, All-nil}
use Rattle.std.proofs.lemmas.List.Sums.{prefix_len-le-length}
use Rattle.std.specs.List.{All, flat_map}
use Rattle.std.specs.Str.{bytes_eq}
use Rattle.idl_text.specs.Chunk.{tokens_in_chunks}
use Rattle.idl_text.specs.Moved.{moved_token, moved_tokens}
use Rattle.idl_lex.specs.tokens.Tokens.{BeginsLine, Token, followers_on_line, is_text, lines_after, lines_of, tokens_in}
use Rattle.idl_text.specs.declared.tokens.chunk.PlacedChunk.{PlacedChunk}
use Rattle.idl_lex.specs.declared.tokens.token.PlacedToken.{PlacedToken}
use Rattle.idl_text.proofs.WalkLemmas.{IsHere, begins-append, begins-behind, followers-front, followers-own}

-- a line of text
abbrev pub IsText : List PlacedToken → Type 0
IsText line = is_text line ≡ true

followers-within : (tokens : List PlacedToken) → followers_on_line tokens ≤ length tokens
followers-within tokens = prefix_len-le-length (λ (t : PlacedToken). not t.starts_line) tokens

lines_after-append : (n : ℕ) (front behind : List PlacedToken) → n ≤ length front → BeginsLine behind → lines_after n (front ++ behind) ≡ lines_after n front ++ lines_after 0 behind
lines_after-append zero [] behind le begins = refl
lines_after-append (suc n) [] behind le begins = absurd (omega (arith, le))
lines_after-append (suc n) (t ∷ front) behind le begins = lines_after-append n front behind (omega (arith, le)) begins
lines_after-append zero (t ∷ front) behind le begins =
    let k = followers_on_line front in
    let e : followers_on_line (front ++ behind) ≡ k = followers-front front behind begins in
    let within : k ≤ length front = followers-within front in
    ap (λ m. (t ∷ take m (front ++ behind)) ∷ lines_after m (front ++ behind)) e
    ∙ (λ i. (t ∷ take-append-le k front behind within i) ∷ lines_after-append k front behind within begins i)

-- the lines of tokens, and of those behind them that begin a line
pub lines_of-append : (front behind : List PlacedToken) → BeginsLine behind → lines_of (front ++ behind) ≡ lines_of front ++ lines_of behind
unfolding lines_of
lines_of-append front behind begins = lines_after-append 0 front behind (omega arith) begins

lines_after-past : (n : ℕ) (tokens : List PlacedToken) → length tokens ≤ n → lines_after n tokens ≡ []
lines_after-past n [] le = refl
lines_after-past zero (t ∷ tokens) le = absurd (omega (arith, le))
lines_after-past (suc n) (t ∷ tokens) le = lines_after-past n tokens (omega (arith, le))

-- the tokens of one line
lines_of-one : (tokens : List PlacedToken) (n : ℕ) → 0 < length tokens → n ≡ 1 + followers_on_line (drop 1 tokens) → lines_of (take n tokens) ≡ take n tokens ∷ []
unfolding lines_of
lines_of-one [] n some is = absurd (omega (arith, some))
lines_of-one (t ∷ tokens) n some is =
    let k = followers_on_line tokens in
    let e : n ≡ suc k = omega (arith, is) in
    let front = take k tokens in
    let same : followers_on_line front ≡ k = followers-own tokens in
    let size : length front ≡ k = length-take-le k tokens (followers-within tokens) in
    ap (λ m. lines_after 0 (take m (t ∷ tokens))) e
    ∙ ap (λ m. (t ∷ take m front) ∷ lines_after m front) same
    ∙ (λ i. (t ∷ take-take k k tokens (omega arith) i) ∷ lines_after-past k front (omega (arith, size)) i)
    ∙ ap (λ m. take m (t ∷ tokens) ∷ []) (sym e)

-- what is behind a line begins one
begins-after : (tokens : List PlacedToken) (n : ℕ) → 0 < length tokens → n ≡ 1 + followers_on_line (drop 1 tokens) → BeginsLine (drop n tokens)
begins-after [] n some is = absurd (omega (arith, some))
begins-after (t ∷ tokens) n some is =
    let e : suc (followers_on_line tokens) ≡ n = omega (arith, is) in
    subst (λ m. BeginsLine (drop m (t ∷ tokens))) e (begins-behind tokens)

begins-take : (n : ℕ) (tokens : List PlacedToken) → BeginsLine tokens → BeginsLine (take n tokens)
begins-take zero tokens begins = tt
begins-take (suc n) [] begins = tt
begins-take (suc n) (t ∷ tokens) begins = begins

is_text-take : (n : ℕ) (tokens : List PlacedToken) → is_text (take (suc n) tokens) ≡ is_text tokens
is_text-take n [] = refl
is_text-take n (t ∷ tokens) = refl

pub IsText-none : All IsText (lines_of [])
unfolding lines_of
IsText-none = All-nil IsText

-- a line is one of text where its first token is read as another than `#`
pub is_text-read : (tokens : List PlacedToken) (count : ℕ) (token : Token) → count < length tokens → token ≡ get_or (tokens_in tokens) count token
    → bytes_eq token (codes "#") ≡ false → is_text (drop count tokens) ≡ true
is_text-read tokens count token lt is differs =
    let d : PlacedToken = record { token = token; line = 0; starts_line = false; follows_word = false } in
    ap is_text (drop_more tokens count d lt)
    ∙ ap (λ b. not (bytes_eq b (codes "#"))) (sym (is ∙ get_or-map (λ (t : PlacedToken). t.token) tokens count d token lt))
    ∙ ap not differs

-- Lines of text, and one more behind them.
pub record IsMoreText (tokens : List PlacedToken) (count n : ℕ) : Type 0 where
  pub within : count + n ≤ length tokens
  pub begins : BeginsLine (drop (count + n) tokens)
  pub text : All IsText (lines_of (take (count + n) tokens))

-- nothing is put behind no tokens, else they are lines of which the others begin one
pub lines_of-more : (front line : List PlacedToken) (count : ℕ) → (count ≡ 0) ⊎ BeginsLine line → length front ≡ count → lines_of (front ++ line) ≡ lines_of front ++ lines_of line
unfolding lines_of
lines_of-more [] line count begins size = refl
lines_of-more (t ∷ front) line count (inl none) size = absurd (omega (arith, none, size))
lines_of-more (t ∷ front) line count (inr begins) size = lines_of-append (t ∷ front) line begins

pub IsMoreText-next : (tokens : List PlacedToken) (count n : ℕ) → count < length tokens → (count ≡ 0) ⊎ BeginsLine (drop count tokens) → All IsText (lines_of (take count tokens))
    → n ≡ 1 + followers_on_line (drop (count + 1) tokens) → is_text (drop count tokens) ≡ true → IsMoreText tokens count n
IsMoreText-next tokens count n here begins text is is_one =
    let left = drop count tokens in
    let front = take count tokens in
    let size : length left ≡ length tokens - count = length-drop count tokens in
    let some : 0 < length left = omega (arith, size, here) in
    let same : n ≡ 1 + followers_on_line (drop 1 left) = is ∙ ap (λ ts. 1 + followers_on_line ts) (sym (drop-drop 1 count tokens)) in
    let k = followers_on_line (drop 1 left) in
    let suc_is : suc k ≡ n = omega (arith, same) in
    let line = take n left in
    let line_is : is_text line ≡ true = ap (λ m. is_text (take m left)) (sym suc_is) ∙ is_text-take k left ∙ is_one in
    let starts : (count ≡ 0) ⊎ BeginsLine line = elim begins [ inl none ↦ inl none | inr b ↦ inr (begins-take n left b) ] in
    let lines : lines_of (take (count + n) tokens) ≡ lines_of front ++ (line ∷ []) =
    ap lines_of (take-add count n tokens)
    ∙ lines_of-more front line count starts (length-take-le count tokens (omega (arith, here)))
    ∙ ap (λ ls. lines_of front ++ ls) (lines_of-one left n some same) in
    record {
      within = omega (arith, same, size, here, followers-within (drop 1 left), length-drop 1 left);
      begins = subst BeginsLine (drop-drop n count tokens) (begins-after left n some same);
      text = subst (All IsText) (sym lines) (All-append IsText (lines_of front) (line ∷ []) text (All-cons IsText line [] line_is (All-nil IsText)));
    }

lines_after-joined : (n : ℕ) (tokens : List PlacedToken) → flat_map (λ line. line) (lines_after n tokens) ≡ drop n tokens
lines_after-joined zero [] = refl
lines_after-joined (suc n) [] = refl
lines_after-joined (suc n) (t ∷ tokens) = lines_after-joined n tokens
lines_after-joined zero (t ∷ tokens) =
    let k = followers_on_line tokens in
    ap (λ ts. t ∷ (take k tokens ++ ts)) (lines_after-joined k tokens) ∙ ap (λ ts. t ∷ ts) (take-append-drop k tokens)

-- the lines of tokens are these, end to end
pub lines_of-joined : (tokens : List PlacedToken) → flat_map (λ line. line) (lines_of tokens) ≡ tokens
unfolding lines_of
lines_of-joined tokens = lines_after-joined 0 tokens

-- Tokens are those of lines of text and those behind them.
pub record IsTextFirst (left text rest : List PlacedToken) : Type 0 where
  pub lines : lines_of left ≡ lines_of text ++ lines_of rest
  pub all : left ≡ text ++ rest
  pub begins : (length text ≡ 0) ⊎ BeginsLine rest

-- tokens of a chunk from a place on, and those behind them
pub parted-here : (chunks : List PlacedChunk) (chunk place before : ℕ) (b : PlacedChunk) (count : ℕ) (left here text rest : List PlacedToken) → IsHere chunks chunk place before b
    → here ≡ moved_tokens b.lines_before (drop place b.chunk.value.tokens) → count ≤ length here
    → drop before (tokens_in_chunks chunks) ≡ left → text ≡ take count here → rest ≡ drop (before + count) (tokens_in_chunks chunks) → left ≡ text ++ rest
parted-here chunks chunk place before b count left here text rest at same within e front back =
    let later = tokens_in_chunks (drop (chunk + 1) chunks) in
    let parts : left ≡ here ++ later = sym e ∙ at.all ∙ ap (λ ts. ts ++ later) (sym same) in
    let text_is : take count left ≡ text = ap (take count) parts ∙ take-append-le count here later within ∙ sym front in
    let rest_is : drop count left ≡ rest = ap (drop count) (sym e) ∙ drop-drop count before (tokens_in_chunks chunks) ∙ sym back in
    sym (take-append-drop count left) ∙ (λ i. text_is i ++ rest_is i)

pub IsTextFirst-here : (chunks : List PlacedChunk) (chunk place before : ℕ) (b : PlacedChunk) (count : ℕ) (left here text rest : List PlacedToken) → IsHere chunks chunk place before b
    → here ≡ moved_tokens b.lines_before (drop place b.chunk.value.tokens) → count ≤ length here → (count ≡ 0) ⊎ BeginsLine (drop count here)
    → drop before (tokens_in_chunks chunks) ≡ left → text ≡ take count here → rest ≡ drop (before + count) (tokens_in_chunks chunks) → IsTextFirst left text rest
IsTextFirst-here chunks chunk place before b count left here text rest at same within begins e front back =
    let later = tokens_in_chunks (drop (chunk + 1) chunks) in
    let parts : left ≡ here ++ later = sym e ∙ at.all ∙ ap (λ ts. ts ++ later) (sym same) in
    let rest_is : drop count left ≡ rest = ap (drop count) (sym e) ∙ drop-drop count before (tokens_in_chunks chunks) ∙ sym back in
    let all : left ≡ text ++ rest = parted-here chunks chunk place before b count left here text rest at same within e front back in
    let size : length text ≡ count = ap length front ∙ length-take-le count here within in
    let rest_parts : drop count here ++ later ≡ rest = sym (drop-append-le count here later within) ∙ ap (drop count) (sym parts) ∙ rest_is in
    let starts : (count ≡ 0) ⊎ BeginsLine rest =
    elim begins [ inl none ↦ inl none | inr b ↦ inr (subst BeginsLine rest_parts (begins-append (drop count here) later b at.begins)) ] in
    record {
      all = all;
      lines = ap lines_of all ∙ lines_of-more text rest count starts size;
      begins = elim starts [ inl none ↦ inl (size ∙ none) | inr b ↦ inr b ];
    }

-- no more tokens are passed than there are
pub IsTextFirst-end : (chunks : List PlacedChunk) (chunk place before : ℕ) (b : PlacedChunk) (count : ℕ) (here : List PlacedToken) → IsHere chunks chunk place before b
    → here ≡ moved_tokens b.lines_before (drop place b.chunk.value.tokens) → count ≤ length here → before + count ≤ length (tokens_in_chunks chunks)
IsTextFirst-end chunks chunk place before b count here at same within =
    let tokens = drop place b.chunk.value.tokens in
    omega (arith, at.end, at.within, within, ap length same, length-map tokens (moved_token b.lines_before), length-drop place b.chunk.value.tokens)
