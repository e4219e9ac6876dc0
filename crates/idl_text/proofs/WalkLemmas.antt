-- A walk over the tokens of a file, line by line: which lines they stand on, and where the first line of them ends.
use Rattle.std.proofs.Common.{◌≡◌, ◌∙◌, ◌⊎◌, inl, inr, ◌+◌, ◌-◌, ◌^◌, ◌<◌, ◌≤◌, leb, leb-true, leb-false, ◌++◌, ◌∷◌, ℕ, zero, suc, Bool, true, false, if◌then◌else◌, cond, not, Some, List, [], drop, get_or, length, length-append, length-drop, map, take, refl, sym, ap, subst, arith}
use Rattle.std.proofs.Math.Seq.{drop-append_seam}
use Rattle.std.proofs.lemmas.Grind.{flat_map-append}
use Rattle.std.proofs.lemmas.List.{drop-append-le, drop-drop, drop_more, get_or-drop, get_or-map, get_or-take, length-map, length-take-le, take-append-drop, take-append-le, take-take}
use Rattle.std.proofs.lemmas.List.Elements.{All-append, All-cons, All-head, All-nil, All-tail}
use Rattle.std.proofs.lemmas.List.Sums.{prefix_len-le-length}
use Rattle.std.proofs.lemmas.Option.{slice_get-get_or, slice_get-map}
use Rattle.std.specs.List.{All, AllWithin, drop-map, prefix_len, slice_get, slice_range}
use Rattle.std.specs.Option.{option_map}
use Rattle.std.specs.List.Sorted.{IsNonDecreasingBy}
use Rattle.idl_source.specs.texts.Line.{newline}
use Rattle.idl_text.proofs.ChunkLemmas.{AreChunks-at, tokens_in-all, tokens_in-more}
use Rattle.idl_base.proofs.PartLemmas.{length-part, part-map}
use Rattle.idl_lex.proofs.TokensLemmas.{after_gap, after_token, lines_of-first}
use Rattle.idl_text.specs.Chunk.{AreChunks, AreChunksOf, AreOfSomeFile, IsPlace, tokens_in_chunks, tokens_there}
use Rattle.idl_lex.specs.bytes.Context.{context_after, is_gap, is_newline, is_nothing, line_start}
use Rattle.idl_text.specs.Moved.{moved_token, moved_tokens}
use Rattle.idl_lex.specs.bytes.Text.{Placed, bytes_of, front, is_continued, joined, numbered}
use Rattle.idl_lex.specs.tokens.Tokens.{BeginsLine, followers_on_line, lines_of, piece_rest, spelled, token_if, token_of, tokens_after, tokens_of}
use Rattle.idl_lex.specs.tokens.Apart.{place_of, placed_at}
use Rattle.idl_text.specs.declared.tokens.chunk.PlacedChunk.{PlacedChunk}
use Rattle.idl_lex.specs.declared.tokens.chunk_tokens.TokenPlace.{TokenPlace}
use Rattle.idl_lex.specs.declared.bytes.context.Context.{Context}
use Rattle.idl_lex.specs.declared.tokens.token.PlacedToken.{PlacedToken}

-- ---- the lines that tokens stand on

-- a byte that stands on one of the first lines
abbrev ByteWithin : ℕ → Placed → Type 0
ByteWithin most p = p.line ≤ most

-- and a token
abbrev pub TokenWithin : ℕ → PlacedToken → Type 0
TokenWithin most t = t.line ≤ most

numbered-within : (most number : ℕ) (bytes : List ℕ) → number ≤ most → All (ByteWithin most) (numbered number bytes)
numbered-within most number [] le = All-nil (ByteWithin most)
numbered-within most number (b ∷ bytes) le = All-cons (ByteWithin most) (record { byte = b; line = number }) (numbered number bytes) le (numbered-within most number bytes le)

joined-within : (most number : ℕ) (lines : List (List ℕ)) → number + length lines ≤ most + 1 → All (ByteWithin most) (joined number lines)
unfolding joined
joined-within most number [] le = All-nil (ByteWithin most)
joined-within most number (bytes ∷ []) le = numbered-within most number (bytes ++ newline ∷ []) (omega (arith, le))
joined-within most number (bytes ∷ next ∷ lines) le = by (is_continued bytes) (joined-within most (number + 1) (next ∷ lines) (omega (arith, le)))
  where
    here : number ≤ most
    here = omega (arith, le)

    by : (b : Bool) → All (ByteWithin most) (joined (number + 1) (next ∷ lines))
        → All (ByteWithin most) (if b then numbered number (front bytes) ++ joined (number + 1) (next ∷ lines) else numbered number (bytes ++ newline ∷ []) ++ joined (number + 1) (next ∷ lines))
    by true later = All-append (ByteWithin most) (numbered number (front bytes)) (joined (number + 1) (next ∷ lines)) (numbered-within most number (front bytes) here) later
    by false later = All-append (ByteWithin most) (numbered number (bytes ++ newline ∷ [])) (joined (number + 1) (next ∷ lines)) (numbered-within most number (bytes ++ newline ∷ []) here) later

token_if-within : (most : ℕ) (c : Context) (piece : List ℕ) (line : ℕ) → line ≤ most → All (TokenWithin most) (token_if c piece line)
token_if-within most c piece line le = by (is_gap piece)
  where
    by : (b : Bool) → All (TokenWithin most) (if b then [] else token_of c (spelled piece) line ∷ [])
    by true = All-nil (TokenWithin most)
    by false = All-cons (TokenWithin most) (token_of c (spelled piece) line) [] le (All-nil (TokenWithin most))

tokens_after-within : (most : ℕ) (c : Context) (n : ℕ) (text : List Placed) → All (ByteWithin most) text → All (TokenWithin most) (tokens_after c n text)
unfolding tokens_after
tokens_after-within most c n [] all = All-nil (TokenWithin most)
tokens_after-within most c (suc n) (p ∷ text) all = tokens_after-within most c n text (All-tail (ByteWithin most) p text all)
tokens_after-within most c zero (p ∷ text) all =
    let rest = piece_rest c p text in
    let piece = p.byte ∷ bytes_of (take rest text) in
    All-append (TokenWithin most) (token_if c piece p.line) (tokens_after (context_after c piece) rest text)
    (token_if-within most c piece p.line (All-head (ByteWithin most) p text all))
    (tokens_after-within most (context_after c piece) rest text (All-tail (ByteWithin most) p text all))

-- a token stands on a line that there is
pub tokens_of-within : (most : ℕ) (lines : List (List ℕ)) → length lines ≤ most → All (TokenWithin most) (tokens_of lines)
unfolding tokens_of
tokens_of-within most lines le = tokens_after-within most line_start 0 (joined 1 lines) (joined-within most 1 lines (omega (arith, le)))

-- ---- tokens that begin with one that starts a line

-- the first token, if there is one, starts a line

pub begins-append : (a b : List PlacedToken) → BeginsLine a → BeginsLine b → BeginsLine (a ++ b)
begins-append [] b first second = second
begins-append (t ∷ a) b first second = first

begins-moved : (down : ℕ) (tokens : List PlacedToken) → BeginsLine tokens → BeginsLine (moved_tokens down tokens)
begins-moved down [] begins = tt
begins-moved down (t ∷ tokens) begins = begins

-- behind a gap a line has no token yet where it had none before
gap-begins : (c : Context) (piece : List ℕ) → is_gap piece ≡ true → is_nothing c.beginning ≡ true → is_nothing (context_after c piece).beginning ≡ true
gap-begins c piece gap begins = by (is_newline piece)
  where
    by : (b : Bool) → is_nothing (if b then line_start else (if is_gap piece then after_gap c else after_token c piece)).beginning ≡ true
    by true = refl
    by false = ap (λ g. is_nothing (if g then after_gap c else after_token c piece).beginning) gap ∙ begins

tokens_after-begins : (c : Context) (n : ℕ) (text : List Placed) → is_nothing c.beginning ≡ true → BeginsLine (tokens_after c n text)
unfolding tokens_after
tokens_after-begins c n [] begins = tt
tokens_after-begins c (suc n) (p ∷ text) begins = tokens_after-begins c n text begins
tokens_after-begins c zero (p ∷ text) begins =
    let rest = piece_rest c p text in
    let piece = p.byte ∷ bytes_of (take rest text) in
    by (is_gap piece) piece refl (λ gap. tokens_after-begins (context_after c piece) rest text (gap-begins c piece gap begins))
  where
    by : (b : Bool) (piece : List ℕ) → is_gap piece ≡ b → (is_gap piece ≡ true → BeginsLine (tokens_after (context_after c piece) (piece_rest c p text) text))
        → BeginsLine ((if b then [] else token_of c (spelled piece) p.line ∷ []) ++ tokens_after (context_after c piece) (piece_rest c p text) text)
    by true piece gap later = later gap
    by false piece gap later = begins

tokens_of-begins : (lines : List (List ℕ)) → BeginsLine (tokens_of lines)
unfolding tokens_of
tokens_of-begins lines = tokens_after-begins line_start 0 (joined 1 lines) refl

pub AreChunks-begins : (lines : List (List ℕ)) (lines_before tokens_before : ℕ) (chunks : List PlacedChunk) → AreChunks lines lines_before tokens_before chunks → BeginsLine (tokens_in_chunks chunks)
AreChunks-begins lines lb tb [] are = tt
AreChunks-begins lines lb tb (b ∷ chunks) are =
    let chunk = b.chunk.value in
    begins-append (tokens_there b) (tokens_in_chunks chunks)
    (begins-moved b.lines_before chunk.tokens (subst BeginsLine (sym are.2.own) (tokens_of-begins (take chunk.lines lines))))
    (AreChunks-begins (drop chunk.lines lines) (lb + chunk.lines) (tb + length chunk.tokens) chunks are.3)

-- and so do those behind a chunk
AreChunks-behind : (lines : List (List ℕ)) (lines_before tokens_before : ℕ) (chunks : List PlacedChunk) (k : ℕ) → AreChunks lines lines_before tokens_before chunks → BeginsLine (tokens_in_chunks (drop k chunks))
AreChunks-behind lines lb tb chunks zero are = AreChunks-begins lines lb tb chunks are
AreChunks-behind lines lb tb [] (suc k) are = tt
AreChunks-behind lines lb tb (b ∷ chunks) (suc k) are =
    let chunk = b.chunk.value in
    AreChunks-behind (drop chunk.lines lines) (lb + chunk.lines) (tb + length chunk.tokens) chunks k are.3

-- ---- the tokens behind a first one on its line

followers-moved : (down : ℕ) (tokens : List PlacedToken) → followers_on_line (moved_tokens down tokens) ≡ followers_on_line tokens
followers-moved down [] = refl
followers-moved down (t ∷ tokens) = ap (λ n. cond (not t.starts_line) (1 + n) 0) (followers-moved down tokens)

-- they are seen by the places alone
pub followers-places : (tokens : List PlacedToken) → prefix_len (λ (p : TokenPlace). not p.starts_line) (map place_of tokens) ≡ followers_on_line tokens
followers-places [] = refl
followers-places (t ∷ tokens) = ap (λ n. cond (not t.starts_line) (1 + n) 0) (followers-places tokens)

-- those among the tokens of a chunk from one number up to another
pub followers-range : (down : ℕ) (all : List PlacedToken) (places : List TokenPlace) (from to : ℕ) → places ≡ map place_of all
    → prefix_len (λ (p : TokenPlace). not p.starts_line) (slice_range places from to) ≡ followers_on_line (moved_tokens down (slice_range all from to))
followers-range down all places from to e =
    ap (λ ps. prefix_len (λ (p : TokenPlace). not p.starts_line) (slice_range ps from to)) e
    ∙ ap (prefix_len (λ (p : TokenPlace). not p.starts_line)) (part-map place_of all from to)
    ∙ followers-places (slice_range all from to)
    ∙ sym (followers-moved down (slice_range all from to))

-- those behind a place in them
pub followers-from : (down : ℕ) (all now : List PlacedToken) (places : List TokenPlace) (from to k : ℕ) → places ≡ map place_of all
    → moved_tokens down (slice_range all from to) ≡ now → prefix_len (λ (p : TokenPlace). not p.starts_line) (drop k (slice_range places from to)) ≡ followers_on_line (drop k now)
followers-from down all now places from to k e is =
    let part = slice_range all from to in
    ap (λ ps. prefix_len (λ (p : TokenPlace). not p.starts_line) (drop k (slice_range ps from to))) e
    ∙ ap (λ ps. prefix_len (λ (p : TokenPlace). not p.starts_line) (drop k ps)) (part-map place_of all from to)
    ∙ ap (prefix_len (λ (p : TokenPlace). not p.starts_line)) (drop-map place_of k part)
    ∙ followers-places (drop k part)
    ∙ sym (followers-moved down (drop k part))
    ∙ ap followers_on_line (sym (drop-map (moved_token down) k part) ∙ ap (drop k) is)

-- the line of one of them
pub line-read : (down : ℕ) (all : List PlacedToken) (from to index : ℕ) (place : TokenPlace) → from + index < to → to ≤ length all
    → slice_get (map (λ (t : PlacedToken). t.line) (moved_tokens down (slice_range all from to))) index ≡ Some (down + (get_or (map place_of all) (from + index) place).line)
line-read down all from to index place lt le =
    let part = slice_range all from to in
    let d = placed_at [] place in
    let x : PlacedToken = get_or all (from + index) d in
    let there : get_or part index d ≡ x = get_or-take (to - from) (drop from all) index d (omega (arith, lt)) ∙ get_or-drop from all index d in
    let line : x.line ≡ (get_or (map place_of all) (from + index) place).line = ap (λ (p : TokenPlace). p.line) (sym (get_or-map place_of all (from + index) d place (omega (arith, lt, le)))) in
    let sum : x.line + down ≡ down + (get_or (map place_of all) (from + index) place).line = omega (arith, line) in
    slice_get-map (λ (t : PlacedToken). t.line) (moved_tokens down part) index
    ∙ ap (option_map (λ (t : PlacedToken). t.line)) (slice_get-map (moved_token down) part index ∙ ap (option_map (moved_token down)) (slice_get-get_or part index d (omega (arith, length-part all from to le, lt)) ∙ ap Some there))
    ∙ ap Some sum

-- the token behind them begins a line
pub begins-behind : (tokens : List PlacedToken) → BeginsLine (drop (followers_on_line tokens) tokens)
begins-behind [] = tt
begins-behind (t ∷ tokens) = by t.starts_line refl (begins-behind tokens)
  where
    by : (b : Bool) → t.starts_line ≡ b → BeginsLine (drop (followers_on_line tokens) tokens) → BeginsLine (drop (cond (not b) (1 + followers_on_line tokens) 0) (t ∷ tokens))
    by true e later = e
    by false e later =
        let more : suc (followers_on_line tokens) ≡ 1 + followers_on_line tokens = omega arith in
        subst (λ n. BeginsLine (drop n (t ∷ tokens))) more later

-- and among the first ones, up to it, they are the same
pub followers-own : (tokens : List PlacedToken) → followers_on_line (take (followers_on_line tokens) tokens) ≡ followers_on_line tokens
followers-own [] = refl
followers-own (t ∷ tokens) = by t.starts_line refl (followers-own tokens)
  where
    by : (b : Bool) → t.starts_line ≡ b → followers_on_line (take (followers_on_line tokens) tokens) ≡ followers_on_line tokens
        → followers_on_line (take (cond (not b) (1 + followers_on_line tokens) 0) (t ∷ tokens)) ≡ cond (not b) (1 + followers_on_line tokens) 0
    by true e later = refl
    by false e later =
        let more : 1 + followers_on_line tokens ≡ suc (followers_on_line tokens) = omega arith in
        ap (λ n. followers_on_line (take n (t ∷ tokens))) more
        ∙ ap (λ b. cond (not b) (1 + followers_on_line (take (followers_on_line tokens) tokens)) 0) e
        ∙ ap (λ n. 1 + n) later

-- they end where a line begins
pub followers-front : (front behind : List PlacedToken) → BeginsLine behind → followers_on_line (front ++ behind) ≡ followers_on_line front
followers-front [] [] begins = refl
followers-front [] (t ∷ behind) begins = ap (λ b. cond (not b) (1 + followers_on_line behind) 0) begins
followers-front (t ∷ front) behind begins = ap (λ n. cond (not t.starts_line) (1 + n) 0) (followers-front front behind begins)

-- ---- the tokens from a place on

-- no more tokens are in the first chunks than in all
pub tokens_in-first : (chunks : List PlacedChunk) (k : ℕ) → length (tokens_in_chunks (take k chunks)) ≤ length (tokens_in_chunks chunks)
tokens_in-first chunks k =
    let parts : tokens_in_chunks chunks ≡ tokens_in_chunks (take k chunks) ++ tokens_in_chunks (drop k chunks) =
    ap tokens_in_chunks (sym (take-append-drop k chunks)) ∙ flat_map-append tokens_there (take k chunks) (drop k chunks) in
    omega (arith, ap length parts, length-append (tokens_in_chunks (take k chunks)) (tokens_in_chunks (drop k chunks)))

-- the place of a token is in a chunk that there is
pub IsPlace-some : (chunks : List PlacedChunk) (chunk place before : ℕ) → IsPlace chunks chunk place before → before < length (tokens_in_chunks chunks) → chunk < length chunks
IsPlace-some chunks chunk place before is some = by (leb (length chunks) chunk) refl
  where
    by : (b : Bool) → leb (length chunks) chunk ≡ b → chunk < length chunks
    by true past = absurd (omega (arith, some, is.is, ap length (tokens_in-all chunks chunk (leb-true (length chunks) chunk past))))
    by false less = leb-false (length chunks) chunk less

-- where there is no such chunk no token is left
pub IsPlace-none : (chunks : List PlacedChunk) (chunk place before : ℕ) → IsPlace chunks chunk place before → length chunks ≤ chunk → before ≡ length (tokens_in_chunks chunks)
IsPlace-none chunks chunk place before is past = by is.within
  where
    by : (before < length (tokens_in_chunks (take (chunk + 1) chunks))) ⊎ ((length chunks ≤ chunk) × (before ≡ length (tokens_in_chunks chunks))) → before ≡ length (tokens_in_chunks chunks)
    by (inl less) = absurd (omega (arith, less, is.is, ap length (tokens_in-all chunks chunk past), tokens_in-first chunks (chunk + 1)))
    by (inr none) = none.1

-- and where no token is left there is none
pub IsPlace-past : (chunks : List PlacedChunk) (chunk place before : ℕ) → IsPlace chunks chunk place before → length (tokens_in_chunks chunks) ≤ before → length chunks ≤ chunk
IsPlace-past chunks chunk place before is past = by is.within
  where
    by : (before < length (tokens_in_chunks (take (chunk + 1) chunks))) ⊎ ((length chunks ≤ chunk) × (before ≡ length (tokens_in_chunks chunks))) → length chunks ≤ chunk
    by (inl less) = absurd (omega (arith, less, past, tokens_in-first chunks (chunk + 1)))
    by (inr none) = none.0

-- A place in a chunk: the tokens from it on, those of the chunk and those behind it.
pub record IsHere (chunks : List PlacedChunk) (chunk place before : ℕ) (b : PlacedChunk) : Type 0 where
  pub lines_before : b.lines_before ≤ 200000
  pub numbers : All (λ (t : PlacedToken). t.line ≤ 200000) b.chunk.value.tokens
  pub within : place < length b.chunk.value.tokens
  pub all : drop before (tokens_in_chunks chunks) ≡ moved_tokens b.lines_before (drop place b.chunk.value.tokens) ++ tokens_in_chunks (drop (chunk + 1) chunks)
  pub begins : BeginsLine (tokens_in_chunks (drop (chunk + 1) chunks))
  pub end : before + (length b.chunk.value.tokens - place) ≤ length (tokens_in_chunks chunks)
  pub countable : length (tokens_in_chunks chunks) < 2 ^ 64

IsHere-place : (lines : List (List ℕ)) (chunks : List PlacedChunk) (chunk place before : ℕ) (b : PlacedChunk) → AreChunksOf lines chunks → IsPlace chunks chunk place before
    → chunk < length chunks → IsHere chunks chunk place before (get_or chunks chunk b)
IsHere-place lines chunks chunk place before b are is some =
    let here = get_or chunks chunk b in
    let tokens = here.chunk.value.tokens in
    let front = tokens_in_chunks (take chunk chunks) in
    let later = tokens_in_chunks (drop (chunk + 1) chunks) in
    let at = AreChunks-at lines 0 0 chunks chunk b are.each some in
    let more = tokens_in-more chunks chunk b some in
    let within : place < length tokens = by is.within more in
    let parts : tokens_in_chunks chunks ≡ front ++ (tokens_there here ++ later) =
    ap tokens_in_chunks (sym (take-append-drop chunk chunks))
    ∙ flat_map-append tokens_there (take chunk chunks) (drop chunk chunks)
    ∙ ap (λ bs. front ++ tokens_in_chunks bs) (drop_more chunks chunk b some) in
    let size : length (tokens_there here) ≡ length tokens = length-map tokens (moved_token here.lines_before) in
    record {
      lines_before = omega (arith, at.is, at.chunk.some, at.chunk.within, length-drop at.behind lines, are.few);
      numbers = subst (All (TokenWithin 200000)) (sym at.chunk.own)
          (tokens_of-within 200000 (take here.chunk.value.lines (drop at.behind lines)) (omega (arith, length-take-le here.chunk.value.lines (drop at.behind lines) at.chunk.within, at.chunk.within, length-drop at.behind lines, are.few)));
      within = within;
      all = ap (drop before) parts ∙ ap (λ n. drop n (front ++ (tokens_there here ++ later))) is.is
          ∙ sym (drop-drop place (length front) (front ++ (tokens_there here ++ later)))
          ∙ ap (drop place) (drop-append_seam front (tokens_there here ++ later))
          ∙ drop-append-le place (tokens_there here) later (omega (arith, within, size))
          ∙ ap (λ ts. ts ++ later) (drop-map (moved_token here.lines_before) place tokens);
      begins = AreChunks-behind lines 0 0 chunks (chunk + 1) are.each;
      end = omega (arith, is.is, within, more, tokens_in-first chunks (chunk + 1));
      countable = are.countable;
    }
  where
    by : (before < length (tokens_in_chunks (take (chunk + 1) chunks))) ⊎ ((length chunks ≤ chunk) × (before ≡ length (tokens_in_chunks chunks)))
        → length (tokens_in_chunks (take (chunk + 1) chunks)) ≡ length (tokens_in_chunks (take chunk chunks)) + length (get_or chunks chunk b).chunk.value.tokens
        → place < length (get_or chunks chunk b).chunk.value.tokens
    by (inl less) more = omega (arith, less, is.is, more)
    by (inr none) more = absurd (omega (arith, some, none.0))

-- where a token is left, its place is one in a chunk
pub IsHere-some : (chunks : List PlacedChunk) (chunk place before : ℕ) (b : PlacedChunk) (left : List PlacedToken) → AreOfSomeFile chunks → IsPlace chunks chunk place before
    → drop before (tokens_in_chunks chunks) ≡ left → 0 < length left → IsHere chunks chunk place before (get_or chunks chunk b)
IsHere-some chunks chunk place before b left file is e some =
    IsHere-place file.0 chunks chunk place before b file.1 is
    (IsPlace-some chunks chunk place before is (omega (arith, some, ap length e, length-drop before (tokens_in_chunks chunks))))

-- ---- the first line

-- The first line from a place on, which is within the place's chunk.
pub record IsFirstLine (chunks : List PlacedChunk) (before place : ℕ) (b : PlacedChunk) (count : ℕ) : Type 0 where
  pub within : count ≤ length (drop place b.chunk.value.tokens)
  pub first : count ≡ 1 + followers_on_line (drop 1 (drop before (tokens_in_chunks chunks)))
  pub line : take count (drop before (tokens_in_chunks chunks)) ≡ take count (moved_tokens b.lines_before (drop place b.chunk.value.tokens))
  pub end : before + count ≤ length (tokens_in_chunks chunks)

pub IsFirstLine-here : (chunks : List PlacedChunk) (chunk place before : ℕ) (b : PlacedChunk) (here : List PlacedToken) (count : ℕ) → IsHere chunks chunk place before b
    → here ≡ moved_tokens b.lines_before (drop place b.chunk.value.tokens) → count ≡ 1 + followers_on_line (drop 1 here) → IsFirstLine chunks before place b count
IsFirstLine-here chunks chunk place before b here count at same is =
    let tokens = drop place b.chunk.value.tokens in
    let left = moved_tokens b.lines_before tokens in
    let later = tokens_in_chunks (drop (chunk + 1) chunks) in
    let size : length left ≡ length tokens = length-map tokens (moved_token b.lines_before) in
    let some : 0 < length tokens = omega (arith, at.within, length-drop place b.chunk.value.tokens) in
    let one : drop 1 (left ++ later) ≡ drop 1 left ++ later = drop-append-le 1 left later (omega (arith, some, size)) in
    let alike : followers_on_line (drop 1 (drop before (tokens_in_chunks chunks))) ≡ followers_on_line (drop 1 left) =
    ap (λ ts. followers_on_line (drop 1 ts)) at.all ∙ ap followers_on_line one ∙ followers-front (drop 1 left) later at.begins in
    let is_here : count ≡ 1 + followers_on_line (drop 1 left) = is ∙ ap (λ ts. 1 + followers_on_line (drop 1 ts)) same in
    let within : count ≤ length tokens = omega (arith, is_here, some, size, prefix_len-le-length (λ (t : PlacedToken). not t.starts_line) (drop 1 left), length-drop 1 left) in
    record {
      within = within;
      first = omega (arith, is_here, alike);
      line = ap (take count) at.all ∙ take-append-le count left later (omega (arith, within, size));
      end = omega (arith, within, at.end, at.within, length-drop place b.chunk.value.tokens);
    }

-- tokens are those of their first line and those behind it
pub record IsParted (left line rest : List PlacedToken) : Type 0 where
  pub lines : lines_of left ≡ line ∷ lines_of rest
  pub all : left ≡ line ++ rest

pub IsParted-first : (chunks : List PlacedChunk) (before place : ℕ) (b : PlacedChunk) (count : ℕ) (left here line rest : List PlacedToken) → IsFirstLine chunks before place b count
    → drop before (tokens_in_chunks chunks) ≡ left → 0 < length left → here ≡ moved_tokens b.lines_before (drop place b.chunk.value.tokens)
    → line ≡ take count here → rest ≡ drop (before + count) (tokens_in_chunks chunks) → IsParted left line rest
IsParted-first chunks before place b count left here line rest first e some same front back =
    let line_is : take count left ≡ line = ap (take count) (sym e) ∙ first.line ∙ ap (take count) (sym same) ∙ sym front in
    let rest_is : drop count left ≡ rest = ap (drop count) (sym e) ∙ drop-drop count before (tokens_in_chunks chunks) ∙ sym back in
    record {
      lines = lines_of-first left count some (first.first ∙ ap (λ ts. 1 + followers_on_line (drop 1 ts)) e) ∙ (λ i. line_is i ∷ lines_of (rest_is i));
      all = sym (take-append-drop count left) ∙ (λ i. line_is i ++ rest_is i);
    }

-- ---- the chunk of a token

-- further chunks have no fewer lines before them
AreChunks-rises : (lines : List (List ℕ)) (lines_before tokens_before : ℕ) (chunks : List PlacedChunk) (i j : ℕ) (d : PlacedChunk) → AreChunks lines lines_before tokens_before chunks → i ≤ j → j < length chunks
    → (get_or chunks i d).lines_before ≤ (get_or chunks j d).lines_before
AreChunks-rises lines lb tb [] i j d are le lt = absurd (omega (arith, lt))
AreChunks-rises lines lb tb (b ∷ chunks) zero j d are le lt =
    let at = AreChunks-at lines lb tb (b ∷ chunks) j d are lt in
    omega (arith, at.is, are.0)
AreChunks-rises lines lb tb (b ∷ chunks) (suc i) zero d are le lt = absurd (omega (arith, le))
AreChunks-rises lines lb tb (b ∷ chunks) (suc i) (suc j) d are le lt =
    let chunk = b.chunk.value in
    AreChunks-rises (drop chunk.lines lines) (lb + chunk.lines) (tb + length chunk.tokens) chunks i j d are.3 (omega (arith, le)) (omega (arith, lt))

-- further chunks have no fewer tokens before them
pub tokens_before-rises : (lines : List (List ℕ)) (chunks : List PlacedChunk) → AreChunksOf lines chunks → IsNonDecreasingBy (λ (b : PlacedChunk). b.tokens_before) chunks
tokens_before-rises lines chunks are = λ i j d le lt.
    let first = AreChunks-at lines 0 0 chunks i d are.each (omega (arith, le, lt)) in
    let second = AreChunks-at lines 0 0 chunks j d are.each lt in
    omega (arith, first.tokens, second.tokens, tokens_in-first (take j chunks) i, ap (λ bs. length (tokens_in_chunks bs)) (take-take i j chunks le))

-- and no fewer lines
pub lines_before-rises : (lines : List (List ℕ)) (chunks : List PlacedChunk) → AreChunksOf lines chunks → IsNonDecreasingBy (λ (b : PlacedChunk). b.lines_before) chunks
lines_before-rises lines chunks are = λ i j d le lt. AreChunks-rises lines 0 0 chunks i j d are.each le lt

-- The place of a token: its chunk is the last of those that have so few tokens before them.
pub record IsNear (chunks : List PlacedChunk) (before chunk : ℕ) (b : PlacedChunk) : Type 0 where
  pub few : b.tokens_before ≤ before
  pub is : b.tokens_before ≡ length (tokens_in_chunks (take chunk chunks))

pub IsNear-point : (lines : List (List ℕ)) (chunks : List PlacedChunk) (before count chunk : ℕ) (b : PlacedChunk) → AreChunksOf lines chunks
    → AllWithin (λ (x : PlacedChunk). leb x.tokens_before before ≡ true) chunks 0 count → chunk ≡ count - 1 → chunk < length chunks → b ≡ get_or chunks chunk b → IsNear chunks before chunk b
IsNear-point lines chunks before count chunk b are few is lt same =
    let at = AreChunks-at lines 0 0 chunks chunk b are.each lt in
    let tokens = ap (λ (x : PlacedChunk). x.tokens_before) same in
    record { few = omega (arith, tokens, by chunk few is lt); is = omega (arith, tokens, at.tokens) }
  where
    by : (k : ℕ) → AllWithin (λ (x : PlacedChunk). leb x.tokens_before before ≡ true) chunks 0 count → k ≡ count - 1 → k < length chunks → (get_or chunks k b).tokens_before ≤ before
    by zero few is lt = omega (arith, (AreChunks-at lines 0 0 chunks 0 b are.each lt).tokens)
    by (suc k) few is lt = leb-true (get_or chunks (suc k) b).tokens_before before (few (suc k) b (omega arith) (omega (arith, is)))

-- no chunk has no token
pub no_tokens : (chunks : List PlacedChunk) → length chunks ≡ 0 → length (tokens_in_chunks chunks) ≡ 0
no_tokens [] none = refl
no_tokens (b ∷ chunks) none = absurd (omega (arith, none))
