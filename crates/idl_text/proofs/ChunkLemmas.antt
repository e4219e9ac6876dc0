-- Chunks of a file: their tokens, end to end, are those of the file.
use Rattle.std.proofs.Common.{◌≡◌, ◌∙◌, ◌⊎◌, inl, inr, ◌+◌, ◌-◌, ◌<◌, ◌≤◌, ◌++◌, ◌∷◌, ℕ, zero, suc, Bool, true, false, if◌then◌else◌, List, [], append_assoc, append-nil, drop, get_or, length, length-append, length-drop, take, refl, sym, ap, subst, arith}
use Rattle.std.proofs.Math.Seq.{drop-append_seam, take-add, take-append_seam, take-length}
use Rattle.std.proofs.lemmas.List.{drop-drop, drop_all, get_or-drop, get_or-take, length-map, length-take-le, map-append, take-append-drop, take_all, take_more}
use Rattle.std.proofs.lemmas.List.Sums.{sum_by-cons}
use Rattle.std.specs.List.{Contains, slice_index_or}
use Rattle.idl_lex.proofs.LogicalLemmas.{Begins-some, first_then, joined_count-some}
use Rattle.idl_text.proofs.MovedLemmas.{joined-moved, tokens_after-moved}
use Rattle.idl_text.specs.Chunk.{AreChunks, AreChunksOf, IsApart, IsChunk, IsEnded, lines_in_chunks, tokens_in_chunks, tokens_there}
use Rattle.idl_lex.specs.bytes.Context.{line_start}
use Rattle.idl_lex.specs.tokens.Lexer.{ended}
use Rattle.idl_lex.specs.tokens.Logical.{continued, joined_count}
use Rattle.idl_text.specs.Moved.{moved_token, moved_tokens}
use Rattle.idl_lex.specs.bytes.Text.{is_continued, joined}
use Rattle.idl_lex.specs.tokens.Tokens.{tokens_after, tokens_of}
use Rattle.idl_text.specs.declared.tokens.chunk.Chunk.{Chunk}
use Rattle.idl_text.specs.declared.tokens.chunk.PlacedChunk.{PlacedChunk}
use Rattle.idl_lex.specs.declared.tokens.token.PlacedToken.{PlacedToken}

-- ---- tokens of lines

pub tokens_of-nil : tokens_of [] ≡ []
unfolding tokens_of joined tokens_after
tokens_of-nil = refl

pub tokens_of-joined : (lines : List (List ℕ)) → tokens_of lines ≡ tokens_after line_start 0 (joined 1 lines)
unfolding tokens_of
tokens_of-joined lines = refl

-- lines behind others have the tokens of a file of their own, further down
pub tokens_of-behind : (down : ℕ) (lines : List (List ℕ)) → tokens_after line_start 0 (joined (down + 1) lines) ≡ moved_tokens down (tokens_of lines)
tokens_of-behind down lines =
    let e : down + 1 ≡ 1 + down = omega arith in
    ap (λ n. tokens_after line_start 0 (joined n lines)) e
    ∙ ap (tokens_after line_start 0) (joined-moved down 1 lines)
    ∙ tokens_after-moved down line_start 0 (joined 1 lines)
    ∙ ap (moved_tokens down) (sym (tokens_of-joined lines))

same_line : (token : PlacedToken) (line : ℕ) → token.line ≡ line → record token { line = line } ≡ token
same_line token line e = ap (λ n. record token { line = n }) (sym e)

pub moved_tokens-zero : (tokens : List PlacedToken) → moved_tokens 0 tokens ≡ tokens
moved_tokens-zero [] = refl
moved_tokens-zero (t ∷ tokens) =
    let e : t.line ≡ t.line + 0 = omega arith in
    (λ i. same_line t (t.line + 0) e i ∷ moved_tokens-zero tokens i)

pub moved_tokens-twice : (a b : ℕ) (tokens : List PlacedToken) → moved_tokens a (moved_tokens b tokens) ≡ moved_tokens (a + b) tokens
moved_tokens-twice a b [] = refl
moved_tokens-twice a b (t ∷ tokens) =
    let e : (t.line + b) + a ≡ t.line + (a + b) = omega arith in
    (λ i. record t { line = e i } ∷ moved_tokens-twice a b tokens i)

-- ---- lines that are joined

-- lines are closed before others, unless they are the last ones, as their last line may end in a backslash
abbrev pub IsClosed : List (List ℕ) → ℕ → List (List ℕ) → Type 0
IsClosed lines count rest = (count < length lines) ⊎ (rest ≡ [])

joined_count-none : (rest : List (List ℕ)) → IsClosed [] 0 rest → joined_count rest ≡ 0
joined_count-none rest (inl some) = absurd (omega (arith, some))
joined_count-none rest (inr none) = ap joined_count none

-- as many lines are joined, whatever is behind them
pub joined_count-front : (lines rest : List (List ℕ)) → IsClosed lines (joined_count lines) rest → joined_count (take (joined_count lines) lines ++ rest) ≡ joined_count lines
joined_count-front [] rest closed = joined_count-none rest closed
joined_count-front (bytes ∷ lines) rest closed = by (is_continued bytes) refl closed (λ h. joined_count-front lines rest h)
  where
    tail : IsClosed (bytes ∷ lines) (suc (joined_count lines)) rest → IsClosed lines (joined_count lines) rest
    tail (inl more) = inl (omega (arith, more))
    tail (inr none) = inr none

    by : (b : Bool) → is_continued bytes ≡ b → IsClosed (bytes ∷ lines) (if b then suc (joined_count lines) else 1) rest
        → (IsClosed lines (joined_count lines) rest → joined_count (take (joined_count lines) lines ++ rest) ≡ joined_count lines)
        → joined_count (take (if b then suc (joined_count lines) else 1) (bytes ∷ lines) ++ rest) ≡ (if b then suc (joined_count lines) else 1)
    by true e h later =
        ap (λ b. if b then suc (joined_count (take (joined_count lines) lines ++ rest)) else 1) e
        ∙ ap (λ n. suc n) (later (tail h))
    by false e h later = ap (λ b. if b then suc (joined_count (take 0 lines ++ rest)) else 1) e

-- The first lines that are joined, before others.
pub record BeginsWith (lines rest : List (List ℕ)) (number : ℕ) : Type 0 where
  pub last_number : ℕ
  pub text :
      joined number (take (joined_count lines) lines ++ rest)
      ≡ continued number (take (joined_count lines) lines) ++ ended last_number (joined (number + joined_count lines) rest)

take-count : (n : ℕ) (lines rest : List (List ℕ)) → length lines ≡ n → take n (lines ++ rest) ≡ lines
take-count n lines rest e = ap (λ k. take k (lines ++ rest)) (sym e) ∙ take-append_seam lines rest

drop-count : (n : ℕ) (lines rest : List (List ℕ)) → length lines ≡ n → drop n (lines ++ rest) ≡ rest
drop-count n lines rest e = ap (λ k. drop k (lines ++ rest)) (sym e) ∙ drop-append_seam lines rest

some-front : (front rest : List (List ℕ)) → 0 < length front → 0 < length (front ++ rest)
some-front [] rest some = absurd (omega (arith, some))
some-front (l ∷ front) rest some = omega arith

pub joined_count-pos : (lines : List (List ℕ)) → 0 < length lines → 0 < joined_count lines
joined_count-pos [] some = absurd (omega (arith, some))
joined_count-pos (bytes ∷ lines) some = joined_count-some bytes lines

pub BeginsWith-joined : (lines rest : List (List ℕ)) (number : ℕ) → 0 < length lines → joined_count lines ≤ length lines → IsClosed lines (joined_count lines) rest → BeginsWith lines rest number
BeginsWith-joined lines rest number some within closed =
    let n = joined_count lines in
    let front = take n lines in
    let size : length front ≡ n = length-take-le n lines within in
    let begins = Begins-some number (front ++ rest) (some-front front rest (omega (arith, size, joined_count-pos lines some))) in
    record {
      last_number = begins.last_number;
      text = begins.text
          ∙ ap (λ k. first_then number (front ++ rest) k begins.last_number) (joined_count-front lines rest closed)
          ∙ (λ i. continued number (take-count n front rest size i) ++ ended begins.last_number (joined (number + n) (drop-count n front rest size i)));
    }

-- What a line of the joined text adds to the lines that are cut already.
pub record CutMore (lines rest : List (List ℕ)) (start end : ℕ) : Type 0 where
  pub last_number : ℕ
  pub text :
      joined (start + 1) (take (end - start) (drop start lines) ++ rest)
      ≡ continued (start + 1) (take (end - start) (drop start lines)) ++ ended last_number (joined (end + 1) rest)
  pub same : take start lines ++ (take (end - start) (drop start lines) ++ rest) ≡ take end lines ++ rest

closed-drop : (lines rest : List (List ℕ)) (start n : ℕ) → IsClosed lines (start + n) rest → IsClosed (drop start lines) n rest
closed-drop lines rest start n (inl more) = inl (omega (arith, more, length-drop start lines))
closed-drop lines rest start n (inr none) = inr none

pub CutMore-joined : (lines rest : List (List ℕ)) (start end : ℕ) → start < length lines → end ≡ start + joined_count (drop start lines) → end ≤ length lines → IsClosed lines end rest → CutMore lines rest start end
CutMore-joined lines rest start end here is within closed =
    let left = drop start lines in
    let n = joined_count left in
    let size : n ≡ end - start = omega (arith, is) in
    let begins = BeginsWith-joined left rest (start + 1) (omega (arith, here, length-drop start lines)) (omega (arith, is, within, length-drop start lines)) (closed-drop lines rest start n (subst (λ k. IsClosed lines k rest) is closed)) in
    let number : (start + 1) + n ≡ end + 1 = omega (arith, is) in
    record {
      last_number = begins.last_number;
      text =
          ap (λ k. joined (start + 1) (take k left ++ rest)) (sym size)
          ∙ begins.text
          ∙ (λ i. continued (start + 1) (take (size i) left) ++ ended begins.last_number (joined (number i) rest));
      same =
          sym (append_assoc (take start lines) (take (end - start) left) rest)
          ∙ ap (λ ls. ls ++ rest) (ap (λ k. take start lines ++ take k left) (sym size) ∙ sym (take-add start n lines) ∙ ap (λ k. take k lines) (sym is));
    }

-- none behind those that are joined is joined to them
joined_count-ends : (lines : List (List ℕ)) → joined_count lines < length lines → is_continued (get_or lines (joined_count lines - 1) []) ≡ false
joined_count-ends [] less = absurd (omega (arith, less))
joined_count-ends (bytes ∷ lines) less = by (is_continued bytes) refl less (λ within. joined_count-ends lines within)
  where
    by : (b : Bool) → is_continued bytes ≡ b → (if b then suc (joined_count lines) else 1) < suc (length lines)
        → (joined_count lines < length lines → is_continued (get_or lines (joined_count lines - 1) []) ≡ false) → is_continued (get_or (bytes ∷ lines) ((if b then suc (joined_count lines) else 1) - 1) []) ≡ false
    by true e more later =
        let within : joined_count lines < length lines = omega (arith, more) in
        let some = joined_count-pos lines (omega (arith, within)) in
        let n : suc (joined_count lines) - 1 ≡ suc (joined_count lines - 1) = omega (arith, some) in
        ap (λ k. is_continued (get_or (bytes ∷ lines) k [])) n ∙ later within
    by false e more later = e

pub ended-more : (lines : List (List ℕ)) (start end : ℕ) → start < length lines → end ≡ start + joined_count (drop start lines) → IsEnded lines end
ended-more lines start end here is some less =
    let left = drop start lines in
    let n = joined_count left in
    let size = length-drop start lines in
    let pos : 0 < n = joined_count-pos left (omega (arith, here, size)) in
    let place : end - 1 ≡ start + (n - 1) = omega (arith, is, pos) in
    ap is_continued (ap (λ k. get_or lines k []) place ∙ sym (get_or-drop start lines (n - 1) []))
    ∙ joined_count-ends left (omega (arith, is, less, size))

-- ---- chunks

-- the tokens of lines are those of a chunk and, further down, those of the lines behind it
pub IsChunk-tokens : (lines : List (List ℕ)) (chunk : Chunk) → IsChunk lines chunk → tokens_of lines ≡ chunk.tokens ++ moved_tokens chunk.lines (tokens_of (drop chunk.lines lines))
IsChunk-tokens lines chunk is = by is.apart
  where
    by : (chunk.lines ≡ length lines) ⊎ IsApart (take chunk.lines lines) → tokens_of lines ≡ chunk.tokens ++ moved_tokens chunk.lines (tokens_of (drop chunk.lines lines))
    by (inl all) =
        let whole : take chunk.lines lines ≡ lines = ap (λ k. take k lines) all ∙ take-length lines in
        let none : drop chunk.lines lines ≡ [] = drop_all chunk.lines lines (omega (arith, all)) in
        ap tokens_of (sym whole) ∙ sym is.own ∙ sym (append-nil chunk.tokens)
        ∙ ap (λ ts. chunk.tokens ++ moved_tokens chunk.lines ts) (sym (ap tokens_of none ∙ tokens_of-nil))
    by (inr apart) =
        ap tokens_of (sym (take-append-drop chunk.lines lines)) ∙ apart (drop chunk.lines lines)
        ∙ (λ i. sym is.own i ++ moved_tokens (length-take-le chunk.lines lines is.within i) (tokens_of (drop chunk.lines lines)))

pub lines-there : (b : PlacedChunk) (chunks : List PlacedChunk) → lines_in_chunks (b ∷ chunks) ≡ b.chunk.value.lines + lines_in_chunks chunks
lines-there b chunks = sum_by-cons (λ (x : PlacedChunk). x.chunk.value.lines) b chunks

no_lines : (lines : List (List ℕ)) → 0 ≡ length lines → tokens_of lines ≡ []
no_lines [] e = tokens_of-nil
no_lines (l ∷ lines) e = absurd (omega (arith, e))

-- the tokens of all chunks are those of the lines, where these stand
pub AreChunks-tokens : (lines : List (List ℕ)) (lines_before tokens_before : ℕ) (chunks : List PlacedChunk) → AreChunks lines lines_before tokens_before chunks → lines_in_chunks chunks ≡ length lines
    → tokens_in_chunks chunks ≡ moved_tokens lines_before (tokens_of lines)
AreChunks-tokens lines lb tb [] are all = sym (ap (moved_tokens lb) (no_lines lines all))
AreChunks-tokens lines lb tb (b ∷ chunks) are all =
    let chunk = b.chunk.value in
    let later = drop chunk.lines lines in
    let rest = AreChunks-tokens later (lb + chunk.lines) (tb + length chunk.tokens) chunks are.3 (omega (arith, all, lines-there b chunks, length-drop chunk.lines lines)) in
    (λ i. moved_tokens (are.0 i) chunk.tokens ++ (rest ∙ sym (moved_tokens-twice lb chunk.lines (tokens_of later))) i)
    ∙ sym (map-append (moved_token lb) chunk.tokens (moved_tokens chunk.lines (tokens_of later)))
    ∙ ap (moved_tokens lb) (sym (IsChunk-tokens lines chunk are.2))

-- the tokens of the chunks of a file are those of the file
pub AreChunks-all : (lines : List (List ℕ)) (chunks : List PlacedChunk) → AreChunks lines 0 0 chunks → lines_in_chunks chunks ≡ length lines → tokens_in_chunks chunks ≡ tokens_of lines
AreChunks-all lines chunks are all = AreChunks-tokens lines 0 0 chunks are all ∙ moved_tokens-zero (tokens_of lines)

pub AreChunksOf-tokens : (lines : List (List ℕ)) (chunks : List PlacedChunk) → AreChunksOf lines chunks → tokens_in_chunks chunks ≡ tokens_of lines
AreChunksOf-tokens lines chunks are = AreChunks-all lines chunks are.each are.whole

-- how many tokens a chunk and those after it have
length-there : (b : PlacedChunk) (chunks : List PlacedChunk) → length (tokens_in_chunks (b ∷ chunks)) ≡ length b.chunk.value.tokens + length (tokens_in_chunks chunks)
length-there b chunks =
    length-append (tokens_there b) (tokens_in_chunks chunks) ∙ ap (λ n. n + length (tokens_in_chunks chunks)) (length-map b.chunk.value.tokens (moved_token b.lines_before))

-- one more chunk behind the others
pub AreChunks-push : (lines : List (List ℕ)) (lines_before tokens_before : ℕ) (chunks : List PlacedChunk) (b : PlacedChunk) → AreChunks lines lines_before tokens_before chunks
    → b.lines_before ≡ lines_before + lines_in_chunks chunks → b.tokens_before ≡ tokens_before + length (tokens_in_chunks chunks) → IsChunk (drop (lines_in_chunks chunks) lines) b.chunk.value
    → AreChunks lines lines_before tokens_before (chunks ++ b ∷ [])
AreChunks-push lines lb tb [] b are line token is = (omega (arith, line), omega (arith, token), is, tt)
AreChunks-push lines lb tb (x ∷ chunks) b are line token is =
    let n = x.chunk.value.lines in
    let k = lines_in_chunks chunks in (
      are.0,
      are.1,
      are.2,
      AreChunks-push (drop n lines) (lb + n) (tb + length x.chunk.value.tokens) chunks b are.3
          (omega (arith, line, lines-there x chunks)) (omega (arith, token, length-there x chunks))
          (subst (λ ls. IsChunk ls b.chunk.value) (ap (λ m. drop m lines) (lines-there x chunks) ∙ sym (drop-drop k n lines)) is),
    )

-- a chunk begins other lines too, where these begin with its lines
pub IsChunk-same : (own lines : List (List ℕ)) (chunk : Chunk) → IsChunk own chunk → take chunk.lines lines ≡ take chunk.lines own → chunk.lines ≤ length lines
    → (chunk.lines < length own) ⊎ (chunk.lines ≡ length lines) → IsChunk lines chunk
IsChunk-same own lines chunk is same within end =
    record {
      some = is.some;
      within = within;
      own = is.own ∙ ap tokens_of (sym same);
      apart = by end is.apart;
      ends = λ some less. ap is_continued (last some) ∙ is.ends some (behind end less);
    }
  where
    last : 0 < chunk.lines → get_or lines (chunk.lines - 1) [] ≡ get_or own (chunk.lines - 1) []
    last some =
        let within : chunk.lines - 1 < chunk.lines = omega (arith, some) in
        sym (get_or-take chunk.lines lines (chunk.lines - 1) [] within) ∙ ap (λ (ls : List (List ℕ)). get_or ls (chunk.lines - 1) []) same ∙ get_or-take chunk.lines own (chunk.lines - 1) [] within

    behind : (chunk.lines < length own) ⊎ (chunk.lines ≡ length lines) → chunk.lines < length lines → chunk.lines < length own
    behind (inl more) less = more
    behind (inr all) less = absurd (omega (arith, all, less))

    by : (chunk.lines < length own) ⊎ (chunk.lines ≡ length lines) → (chunk.lines ≡ length own) ⊎ IsApart (take chunk.lines own) → (chunk.lines ≡ length lines) ⊎ IsApart (take chunk.lines lines)
    by (inr all) h = inl all
    by (inl more) (inl none) = absurd (omega (arith, more, none))
    by (inl more) (inr apart) = inr (subst IsApart (sym same) apart)

-- where a chunk of a file stands
pub record StandsAt (lines : List (List ℕ)) (lines_before tokens_before : ℕ) (chunks : List PlacedChunk) (k : ℕ) (b : PlacedChunk) : Type 0 where
  pub behind : ℕ
  pub is : b.lines_before ≡ lines_before + behind
  pub tokens : b.tokens_before ≡ tokens_before + length (tokens_in_chunks (take k chunks))
  pub chunk : IsChunk (drop behind lines) b.chunk.value

pub AreChunks-at : (lines : List (List ℕ)) (lines_before tokens_before : ℕ) (chunks : List PlacedChunk) (k : ℕ) (b : PlacedChunk) → AreChunks lines lines_before tokens_before chunks → k < length chunks
    → StandsAt lines lines_before tokens_before chunks k (slice_index_or chunks k b)
AreChunks-at lines lb tb [] k b are lt = absurd (omega (arith, lt))
AreChunks-at lines lb tb (x ∷ chunks) zero b are lt = record { behind = 0; is = omega (arith, are.0); tokens = omega (arith, are.1); chunk = are.2 }
AreChunks-at lines lb tb (x ∷ chunks) (suc k) b are lt =
    let n = x.chunk.value.lines in
    let m = length x.chunk.value.tokens in
    let rest = AreChunks-at (drop n lines) (lb + n) (tb + m) chunks k b are.3 (omega (arith, lt)) in
    record {
      behind = n + rest.behind;
      is = omega (arith, rest.is);
      tokens = omega (arith, rest.tokens, length-there x (take k chunks));
      chunk = subst (λ ls. IsChunk ls (slice_index_or chunks k b).chunk.value) (drop-drop rest.behind n lines) rest.chunk;
    }

pub AreChunksOf-Contains : (lines : List (List ℕ)) (chunks : List PlacedChunk) (b : PlacedChunk) → AreChunksOf lines chunks → Contains chunks b → IsChunk (drop b.lines_before lines) b.chunk.value
AreChunksOf-Contains lines chunks b are there =
    let at = subst (StandsAt lines 0 0 chunks there.0) there.2 (AreChunks-at lines 0 0 chunks there.0 b are.each there.1) in
    let e : at.behind ≡ b.lines_before = omega (arith, at.is) in
    subst (λ n. IsChunk (drop n lines) b.chunk.value) e at.chunk

pub lines_in-push : (chunks : List PlacedChunk) (b : PlacedChunk) → lines_in_chunks (chunks ++ b ∷ []) ≡ lines_in_chunks chunks + b.chunk.value.lines
lines_in-push [] b = omega (arith, lines-there b [])
lines_in-push (x ∷ chunks) b = omega (arith, lines-there x (chunks ++ b ∷ []), lines-there x chunks, lines_in-push chunks b)

pub tokens_in-push : (chunks : List PlacedChunk) (b : PlacedChunk) → length (tokens_in_chunks (chunks ++ b ∷ [])) ≡ length (tokens_in_chunks chunks) + length b.chunk.value.tokens
tokens_in-push [] b = omega (arith, length-there b [])
tokens_in-push (x ∷ chunks) b = omega (arith, length-there x (chunks ++ b ∷ []), length-there x chunks, tokens_in-push chunks b)

-- the tokens up to the next chunk
pub tokens_in-more : (chunks : List PlacedChunk) (k : ℕ) (b : PlacedChunk) → k < length chunks
    → length (tokens_in_chunks (take (k + 1) chunks)) ≡ length (tokens_in_chunks (take k chunks)) + length (get_or chunks k b).chunk.value.tokens
tokens_in-more chunks k b lt = ap (λ bs. length (tokens_in_chunks bs)) (take_more chunks k b lt) ∙ tokens_in-push (take k chunks) (get_or chunks k b)

-- and up to the last one
pub tokens_in-all : (chunks : List PlacedChunk) (k : ℕ) → length chunks ≤ k → tokens_in_chunks (take k chunks) ≡ tokens_in_chunks chunks
tokens_in-all chunks k le = ap tokens_in_chunks (take_all k chunks le)
