-- The tokens of a chunk begin where they begin in the file.
use Rattle.std.proofs.Common.{◌≡◌, ◌∙◌, ◌⊎◌, inl, inr, ◌≤◌, ◌<◌, ◌+◌, ◌-◌, ◌++◌, ◌∷◌, ℕ, zero, suc, nat_eq, Bool, true, false, cond, if◌then◌else◌, List, [], append-nil, append_assoc, drop, get_or, length, length-append, length-drop, map, take, refl, sym, ap, subst, arith}
use Rattle.std.proofs.lemmas.Bool.{ne_eqb}
use Rattle.std.proofs.lemmas.List.{drop-append-le, drop-drop, get_or-take, length-map, length-take-le, map-append, take-append-drop, take-append-le}
use Rattle.std.proofs.lemmas.List.Elements.{All-append, All-cons, All-head, All-nil, All-tail, filter-append}
use Rattle.std.specs.List.{All, drop-map}
use Rattle.std.specs.Prelude.{codes}
use Rattle.idl_source.specs.texts.Line.{newline}
use Rattle.idl_lex.proofs.GapLemmas.{bytes_in-take, bytes_of-placed_text, placed_text-from}
use Rattle.idl_lex.proofs.KindLaws.WordLemmas.{further-white}
use Rattle.idl_lex.proofs.LineLemmas.{Opened, Opened-piece, further-closed}
use Rattle.idl_lex.proofs.PieceLemmas.{further-within}
use Rattle.idl_lex.proofs.TokensLemmas.{after_gap, tokens_after-closed, tokens_after-drop, tokens_after-newline, tokens_after-nil, tokens_after-open}
use Rattle.idl_lex.specs.bytes.Byte.{is_space}
use Rattle.idl_lex.specs.bytes.Columns.{bytes_in, placed_text, standing, text_from, text_of_line}
use Rattle.idl_lex.specs.bytes.Context.{context_after, is_gap, is_include, line_start}
use Rattle.idl_lex.specs.bytes.Scan.{further, taken}
use Rattle.idl_lex.specs.bytes.Text.{Placed, front, is_continued, numbered}
use Rattle.idl_lex.specs.tokens.Lexer.{after_comment, ended, is_open}
use Rattle.idl_lex.specs.tokens.Tokens.{spelled, token_if, token_of, tokens_after, tokens_of}
use Rattle.idl_lex.specs.declared.bytes.context.Context.{Context}
use Rattle.idl_lex.specs.declared.bytes.text_left.TextByte.{TextByte}
use Rattle.idl_lex.specs.declared.tokens.token.PlacedToken.{PlacedToken}
use Rattle.idl_text.specs.Chunk.{AreChunks, AreChunksOf, IsApart, IsChunk, IsChunkOfLine, lines_in_chunks, tokens_there}
use Rattle.idl_text.specs.Moved.{moved_token, moved_tokens}
use Rattle.idl_text.specs.Starts.{Start, cut_after, on_line, starts_in, starts_of}
use Rattle.idl_text.specs.declared.tokens.chunk.Chunk.{Chunk}
use Rattle.idl_text.specs.declared.tokens.chunk.PlacedChunk.{PlacedChunk}
use Rattle.idl_text.proofs.BeginningLemmas.{cut_after-nil, cut_after-piece, piece_of, rest_of, starts-cut, starts_of-cut}
use Rattle.idl_text.proofs.ChunkLemmas.{AreChunks-at, AreChunksOf-Contains, lines-there, tokens_of-behind}
use Rattle.idl_text.proofs.WalkLemmas.{TokenWithin, tokens_of-within}

-- ---- a newline ends what is cut

cut_after-newline : (c : Context) (last : TextByte) (later : List TextByte) → last.byte ≡ newline → cut_after c 0 (last ∷ later) ≡ cut_after line_start 0 later
cut_after-newline c last later ends =
    let none : rest_of c last later ≡ 0 = further-white (is_include c.beginning) last.byte (bytes_in later) (ap is_space ends) in
    let piece : piece_of c last later ≡ newline ∷ [] = (λ i. ends i ∷ take (none i) (bytes_in later)) in
    cut_after-piece c last later
    ∙ (λ i. map (λ (t : PlacedToken). (t, last.column)) (token_if c (piece i) last.line) ++ cut_after (context_after c (piece i)) 0 (drop (none i) later))

-- the first piece, where it isn't a comment that goes on
cut_after-closed : (c : Context) (b : TextByte) (text : List TextByte) (last : TextByte) (later : List TextByte) → last.byte ≡ newline → is_open (piece_of c b text) ≡ false
    → cut_after c 0 (b ∷ text ++ last ∷ later)
    ≡ map (λ (t : PlacedToken). (t, b.column)) (token_if c (piece_of c b text) b.line) ++ cut_after (context_after c (piece_of c b text)) 0 (drop (rest_of c b text) text ++ last ∷ later)
cut_after-closed c b text last later ends closed =
    let n = rest_of c b text in
    let all = text ++ last ∷ later in
    let within : n ≤ length text =
    let le = further-within (is_include c.beginning) b.byte (bytes_in text) in
    omega (arith, le, length-map text (λ (b : TextByte). b.byte)) in
    let bytes : bytes_in all ≡ bytes_in text ++ newline ∷ bytes_in later = map-append (λ (b : TextByte). b.byte) text (last ∷ later) ∙ ap (λ x. bytes_in text ++ x ∷ bytes_in later) ends in
    let same : rest_of c b all ≡ n = ap (further (is_include c.beginning) b.byte) bytes ∙ further-closed (is_include c.beginning) b.byte (bytes_in text) (bytes_in later) closed in
    let front_is : take n (bytes_in all) ≡ take n (bytes_in text) = sym (bytes_in-take n all) ∙ ap bytes_in (take-append-le n text (last ∷ later) within) ∙ bytes_in-take n text in
    let piece : piece_of c b all ≡ piece_of c b text = ap (λ k. b.byte ∷ take k (bytes_in all)) same ∙ ap (λ bs. b.byte ∷ bs) front_is in
    let left : drop (rest_of c b all) all ≡ drop n text ++ last ∷ later = ap (λ k. drop k all) same ∙ drop-append-le n text (last ∷ later) within in
    cut_after-piece c b all
    ∙ (λ i. map (λ (t : PlacedToken). (t, b.column)) (token_if c (piece i) b.line) ++ cut_after (context_after c (piece i)) 0 (left i))

-- what closes a comment that is open
closing : ℕ → List Placed
closing number = numbered number (42 ∷ 47 ∷ newline ∷ [])

closing-text : (number : ℕ) → placed_text (text_from number ((42 ∷ 47 ∷ []) ∷ [])) ≡ closing number
unfolding text_from standing closing
closing-text number = refl

closing-rest : (opening : PlacedToken) (c : Context) (number : ℕ) → after_comment opening c (closing number) ≡ []
unfolding taken closing
closing-rest opening c number = tokens_after-drop c 2 (numbered number (42 ∷ 47 ∷ newline ∷ [])) ∙ tokens_after-newline c number [] ∙ tokens_after-nil line_start

-- What ends in a newline is cut by itself, whatever comes behind it; or a comment is open there, and if it is closed there are fewer tokens.
abbrev Splits : Context → List TextByte → TextByte → Type 0
Splits c text last = (later : List TextByte) → cut_after c 0 (text ++ last ∷ later) ≡ cut_after c 0 (text ++ last ∷ []) ++ cut_after line_start 0 later

abbrev count_before : Context → List TextByte → TextByte → List Placed → ℕ
count_before c text last later = length (tokens_after c 0 (placed_text text ++ ended last.line later))

abbrev IsOpened : Context → List TextByte → TextByte → ℕ → Type 0
IsOpened c text last number = count_before c text last (closing number) < count_before c text last []

module _ (c : Context) (b : TextByte) (text : List TextByte) (last : TextByte) (number : ℕ) where
  abbrev after : Context
  after = context_after c (piece_of c b text)

  abbrev left : List TextByte
  left = drop (rest_of c b text) text

  count-closed : is_open (piece_of c b text) ≡ false → (later : List Placed) → count_before c (b ∷ text) last later ≡ length (token_if c (piece_of c b text) b.line) + count_before after left last later
  count-closed closed later =
      let n = rest_of c b text in
      let p : Placed = record { byte = b.byte; line = b.line } in
      let bytes = bytes_of-placed_text text in
      ap (λ (ts : List PlacedToken). length ts)
      (tokens_after-closed c p (placed_text text) last.line later n (ap (further (is_include c.beginning) b.byte) bytes) (ap (λ bs. is_open (b.byte ∷ take n bs)) bytes ∙ closed)
      ∙ ap (λ bs. token_if c (b.byte ∷ take n bs) b.line ++ tokens_after (context_after c (b.byte ∷ take n bs)) 0 (drop n (placed_text text) ++ ended last.line later)) bytes
      ∙ ap (λ (ps : List Placed). token_if c (piece_of c b text) b.line ++ tokens_after after 0 (ps ++ ended last.line later)) (drop-map (λ (b : TextByte). record { byte = b.byte; line = b.line }) n text))
      ∙ length-append (token_if c (piece_of c b text) b.line) (tokens_after after 0 (placed_text left ++ ended last.line later))

  count-open : Opened b.byte (bytes_in text) → (later : List Placed) → count_before c (b ∷ text) last later ≡ length (after_comment (token_of c (codes "/*") b.line) (after_gap c) later)
  count-open opened later =
      ap (λ (ts : List PlacedToken). length ts)
      (tokens_after-open c (record { byte = b.byte; line = b.line }) (placed_text text) last.line later (subst (λ bs. Opened b.byte bs) (sym (bytes_of-placed_text text)) opened))

  splits-closed : last.byte ≡ newline → is_open (piece_of c b text) ≡ false → Splits after left last ⊎ IsOpened after left last number → Splits c (b ∷ text) last ⊎ IsOpened c (b ∷ text) last number
  splits-closed ends closed (inl split) =
      let here = map (λ (t : PlacedToken). (t, b.column)) (token_if c (piece_of c b text) b.line) in
      inl (λ later.
      cut_after-closed c b text last later ends closed
      ∙ ap (λ (ss : List Start). here ++ ss) (split later)
      ∙ sym (append_assoc here (cut_after after 0 (left ++ last ∷ [])) (cut_after line_start 0 later))
      ∙ ap (λ (ss : List Start). ss ++ cut_after line_start 0 later) (sym (cut_after-closed c b text last [] ends closed)))
  splits-closed ends closed (inr fewer) = inr (omega (arith, fewer, count-closed closed (closing number), count-closed closed []))

  splits-open : is_open (piece_of c b text) ≡ true → IsOpened c (b ∷ text) last number
  splits-open opened =
      let is = Opened-piece (is_include c.beginning) b.byte (bytes_in text) opened in
      omega (arith, count-open is (closing number), count-open is [], ap (λ (ts : List PlacedToken). length ts) (closing-rest (token_of c (codes "/*") b.line) (after_gap c) number))

splits : (fuel : ℕ) (c : Context) (text : List TextByte) (last : TextByte) (number : ℕ) → last.byte ≡ newline → length text ≤ fuel → Splits c text last ⊎ IsOpened c text last number
splits fuel c [] last number ends le =
    inl (λ later.
    cut_after-newline c last later ends
    ∙ ap (λ (ss : List Start). ss ++ cut_after line_start 0 later) (sym (cut_after-newline c last [] ends ∙ cut_after-nil line_start)))
splits zero c (b ∷ text) last number ends le = absurd (omega (arith, le))
splits (suc fuel) c (b ∷ text) last number ends le =
    by (is_open (piece_of c b text)) refl
    (splits fuel (context_after c (piece_of c b text)) (drop (rest_of c b text) text) last number ends (omega (arith, le, length-drop (rest_of c b text) text)))
  where
    by : (x : Bool) → is_open (piece_of c b text) ≡ x
        → Splits (context_after c (piece_of c b text)) (drop (rest_of c b text) text) last ⊎ IsOpened (context_after c (piece_of c b text)) (drop (rest_of c b text) text) last number
        → Splits c (b ∷ text) last ⊎ IsOpened c (b ∷ text) last number
    by true opened later = inr (splits-open c b text last number opened)
    by false closed later = splits-closed c b text last number ends closed later

-- ---- lines that end in a newline

standing-append : (number column : ℕ) (a b : List ℕ) → standing number column (a ++ b) ≡ standing number column a ++ standing number (column + length a) b
unfolding standing
standing-append number column [] b = let e : column ≡ column + 0 = omega arith in ap (λ n. standing number n b) e
standing-append number column (x ∷ a) b =
    let e : (column + 1) + length a ≡ column + suc (length a) = omega arith in
    ap (λ (ts : List TextByte). record { byte = x; line = number; column = column } ∷ ts) (standing-append number (column + 1) a b ∙ ap (λ n. standing number (column + 1) a ++ standing number n b) e)

text_of_line-last : (bytes : List ℕ) (rest : List (List ℕ)) → is_continued bytes ≡ false → text_of_line bytes rest ≡ bytes ++ newline ∷ []
text_of_line-last bytes [] unjoined = refl
text_of_line-last bytes (next ∷ rest) unjoined = ap (λ b. if b then front bytes else bytes ++ newline ∷ []) unjoined

-- The text of lines ends in a newline, and that of lines behind them follows.
record IsEndedText (number : ℕ) (lines : List (List ℕ)) : Type 0 where
  text : List TextByte
  last : TextByte
  ends : last.byte ≡ newline
  own : text_from number lines ≡ text ++ last ∷ []
  followed : (rest : List (List ℕ)) → text_from number (lines ++ rest) ≡ text ++ last ∷ text_from (number + length lines) rest

ended_text : (number : ℕ) (bytes : List ℕ) (lines : List (List ℕ)) → is_continued (get_or (bytes ∷ lines) (length lines) []) ≡ false → IsEndedText number (bytes ∷ lines)
unfolding text_from standing
ended_text number bytes [] unjoined =
    let text = standing number 0 bytes in
    let last : TextByte = record { byte = newline; line = number; column = 0 + length bytes } in
    let line : (rest : List (List ℕ)) → standing number 0 (text_of_line bytes rest) ≡ text ++ last ∷ [] =
    λ rest. ap (standing number 0) (text_of_line-last bytes rest unjoined) ∙ standing-append number 0 bytes (newline ∷ []) in
    record {
      text = text;
      last = last;
      ends = refl;
      own = append-nil (standing number 0 (text_of_line bytes [])) ∙ line [];
      followed = λ rest. ap (λ (ts : List TextByte). ts ++ text_from (number + 1) rest) (line rest) ∙ append_assoc text (last ∷ []) (text_from (number + 1) rest);
    }
ended_text number bytes (next ∷ lines) unjoined =
    let later = ended_text (number + 1) next lines unjoined in
    let here = standing number 0 (text_of_line bytes (next ∷ lines)) in
    let further : (number + 1) + suc (length lines) ≡ number + suc (suc (length lines)) = omega arith in
    record {
      text = here ++ later.text;
      last = later.last;
      ends = later.ends;
      own = ap (λ (ts : List TextByte). here ++ ts) later.own ∙ sym (append_assoc here later.text (later.last ∷ []));
      followed = λ rest.
          ap (λ (ts : List TextByte). here ++ ts) (later.followed rest)
          ∙ sym (append_assoc here later.text (later.last ∷ text_from ((number + 1) + suc (length lines)) rest))
          ∙ ap (λ n. (here ++ later.text) ++ later.last ∷ text_from n rest) further;
    }

placed-ended : (text : List TextByte) (last : TextByte) (later : List TextByte) → last.byte ≡ newline → placed_text text ++ ended last.line (placed_text later) ≡ placed_text (text ++ last ∷ later)
placed-ended text last later ends =
    ap (λ x. placed_text text ++ record { byte = x; line = last.line } ∷ placed_text later) (sym ends)
    ∙ sym (map-append (λ (b : TextByte). record { byte = b.byte; line = b.line }) text (last ∷ later))

-- how many tokens lines have
count-lines : (down : ℕ) (lines : List (List ℕ)) → length (tokens_after line_start 0 (placed_text (text_from (down + 1) lines))) ≡ length (tokens_of lines)
count-lines down lines =
    ap (λ (ts : List PlacedToken). length ts) (ap (tokens_after line_start 0) (placed_text-from (down + 1) lines) ∙ tokens_of-behind down lines)
    ∙ length-map (tokens_of lines) (moved_token down)

-- lines that stand apart are cut by themselves
starts-apart : (down : ℕ) (bytes : List ℕ) (lines rest : List (List ℕ)) → is_continued (get_or (bytes ∷ lines) (length lines) []) ≡ false → IsApart (bytes ∷ lines)
    → cut_after line_start 0 (text_from (down + 1) (bytes ∷ lines ++ rest))
    ≡ cut_after line_start 0 (text_from (down + 1) (bytes ∷ lines)) ++ cut_after line_start 0 (text_from ((down + suc (length lines)) + 1) rest)
starts-apart down bytes lines rest unjoined apart = by (splits (length is.text) line_start is.text is.last number is.ends (omega arith))
  where
    is : IsEndedText (down + 1) (bytes ∷ lines)
    is = ended_text (down + 1) bytes lines unjoined

    number : ℕ
    number = (down + 1) + suc (length lines)

    own : count_before line_start is.text is.last [] ≡ length (tokens_of (bytes ∷ lines))
    own =
        ap (λ (ps : List Placed). length (tokens_after line_start 0 ps)) (placed-ended is.text is.last [] is.ends ∙ ap (λ (ts : List TextByte). placed_text ts) (sym is.own))
        ∙ count-lines down (bytes ∷ lines)

    both : count_before line_start is.text is.last (closing number) ≡ length (tokens_of (bytes ∷ lines ++ (42 ∷ 47 ∷ []) ∷ []))
    both =
        ap (λ (ps : List Placed). length (tokens_after line_start 0 (placed_text is.text ++ ended is.last.line ps))) (sym (closing-text number))
        ∙ ap (λ (ps : List Placed). length (tokens_after line_start 0 ps))
        (placed-ended is.text is.last (text_from number ((42 ∷ 47 ∷ []) ∷ [])) is.ends ∙ ap (λ (ts : List TextByte). placed_text ts) (sym (is.followed ((42 ∷ 47 ∷ []) ∷ []))))
        ∙ count-lines down (bytes ∷ lines ++ (42 ∷ 47 ∷ []) ∷ [])

    more : length (tokens_of (bytes ∷ lines)) ≤ length (tokens_of (bytes ∷ lines ++ (42 ∷ 47 ∷ []) ∷ []))
    more =
        let closed : List (List ℕ) = (42 ∷ 47 ∷ []) ∷ [] in
        omega (arith, ap (λ (ts : List PlacedToken). length ts) (apart closed), length-append (tokens_of (bytes ∷ lines)) (moved_tokens (suc (length lines)) (tokens_of closed)))

    further_on : number ≡ (down + suc (length lines)) + 1
    further_on = omega arith

    by : Splits line_start is.text is.last ⊎ IsOpened line_start is.text is.last number
        → cut_after line_start 0 (text_from (down + 1) (bytes ∷ lines ++ rest))
        ≡ cut_after line_start 0 (text_from (down + 1) (bytes ∷ lines)) ++ cut_after line_start 0 (text_from ((down + suc (length lines)) + 1) rest)
    by (inl split) =
        ap (cut_after line_start 0) (is.followed rest)
        ∙ split (text_from number rest)
        ∙ (λ i. cut_after line_start 0 (sym is.own i) ++ cut_after line_start 0 (text_from (further_on i) rest))
    by (inr fewer) = absurd (omega (arith, fewer, own, both, more))

-- ---- a chunk

no_text : (number : ℕ) → cut_after line_start 0 (text_from number []) ≡ []
unfolding text_from
no_text number = cut_after-nil line_start

starts-front : (down : ℕ) (front rest : List (List ℕ)) → 0 < length front → is_continued (get_or front (length front - 1) []) ≡ false → IsApart front
    → cut_after line_start 0 (text_from (down + 1) (front ++ rest)) ≡ cut_after line_start 0 (text_from (down + 1) front) ++ cut_after line_start 0 (text_from ((down + length front) + 1) rest)
starts-front down [] rest some unjoined apart = absurd (omega (arith, some))
starts-front down (bytes ∷ lines) rest some unjoined apart =
    let last : length (bytes ∷ lines) - 1 ≡ length lines = omega arith in
    starts-apart down bytes lines rest (subst (λ n. is_continued (get_or (bytes ∷ lines) n []) ≡ false) last unjoined) apart

-- a chunk and what is behind it are cut apart
chunk-starts : (down : ℕ) (lines : List (List ℕ)) (chunk : Chunk) → IsChunk lines chunk
    → cut_after line_start 0 (text_from (down + 1) lines)
    ≡ cut_after line_start 0 (text_from (down + 1) (take chunk.lines lines)) ++ cut_after line_start 0 (text_from ((down + chunk.lines) + 1) (drop chunk.lines lines))
chunk-starts down lines chunk is = by (drop n lines) refl
  where
    n : ℕ
    n = chunk.lines

    whole : take n lines ++ drop n lines ≡ lines
    whole = take-append-drop n lines

    size : length (take n lines) ≡ n
    size = length-take-le n lines is.within

    by : (rest : List (List ℕ)) → drop n lines ≡ rest
        → cut_after line_start 0 (text_from (down + 1) lines) ≡ cut_after line_start 0 (text_from (down + 1) (take n lines)) ++ cut_after line_start 0 (text_from ((down + n) + 1) (drop n lines))
    by [] none =
        let all : take n lines ≡ lines = sym (append-nil (take n lines)) ∙ ap (λ (ls : List (List ℕ)). take n lines ++ ls) (sym none) ∙ whole in
        ap (λ (ls : List (List ℕ)). cut_after line_start 0 (text_from (down + 1) ls)) (sym all)
        ∙ sym (append-nil (cut_after line_start 0 (text_from (down + 1) (take n lines))))
        ∙ ap (λ (ss : List Start). cut_after line_start 0 (text_from (down + 1) (take n lines)) ++ ss)
        (sym (ap (λ (ls : List (List ℕ)). cut_after line_start 0 (text_from ((down + n) + 1) ls)) none ∙ no_text ((down + n) + 1)))
    by (r ∷ rest) more = apart is.apart
      where
        less : n < length lines
        less = omega (arith, ap (λ (ls : List (List ℕ)). length ls) more, length-drop n lines)

        unjoined : is_continued (get_or (take n lines) (length (take n lines) - 1) []) ≡ false
        unjoined =
            ap (λ k. is_continued (get_or (take n lines) (k - 1) [])) size
            ∙ ap is_continued (get_or-take n lines (n - 1) [] (omega (arith, is.some)))
            ∙ is.ends is.some less

        apart : (n ≡ length lines) ⊎ IsApart (take n lines)
            → cut_after line_start 0 (text_from (down + 1) lines) ≡ cut_after line_start 0 (text_from (down + 1) (take n lines)) ++ cut_after line_start 0 (text_from ((down + n) + 1) (drop n lines))
        apart (inl all) = absurd (omega (arith, all, less))
        apart (inr by_itself) =
            ap (λ (ls : List (List ℕ)). cut_after line_start 0 (text_from (down + 1) ls)) (sym whole)
            ∙ starts-front down (take n lines) (drop n lines) (omega (arith, size, is.some)) unjoined by_itself
            ∙ ap (λ k. cut_after line_start 0 (text_from (down + 1) (take n lines)) ++ cut_after line_start 0 (text_from ((down + k) + 1) (drop n lines))) size

-- ---- those on a line

abbrev IsElsewhere : ℕ → TextByte → Type 0
IsElsewhere line b = nat_eq b.line line ≡ false

standing-elsewhere : (line number column : ℕ) (bytes : List ℕ) → nat_eq number line ≡ false → All (IsElsewhere line) (standing number column bytes)
unfolding standing
standing-elsewhere line number column [] other = All-nil (IsElsewhere line)
standing-elsewhere line number column (b ∷ bytes) other =
    All-cons (IsElsewhere line) (record { byte = b; line = number; column = column }) (standing number (column + 1) bytes) other (standing-elsewhere line number (column + 1) bytes other)

text-elsewhere : (line number : ℕ) (lines : List (List ℕ)) → (line < number) ⊎ (number + length lines ≤ line) → All (IsElsewhere line) (text_from number lines)
unfolding text_from
text-elsewhere line number [] outside = All-nil (IsElsewhere line)
text-elsewhere line number (bytes ∷ lines) outside =
    All-append (IsElsewhere line) (standing number 0 (text_of_line bytes lines)) (text_from (number + 1) lines)
    (standing-elsewhere line number 0 (text_of_line bytes lines) (ne_eqb number line (λ same. here outside same)))
    (text-elsewhere line (number + 1) lines (later outside))
  where
    here : (line < number) ⊎ (number + suc (length lines) ≤ line) → number ≡ line → ⊥
    here (inl before) same = omega (arith, before, same)
    here (inr behind) same = omega (arith, behind, same)

    later : (line < number) ⊎ (number + suc (length lines) ≤ line) → (line < number + 1) ⊎ ((number + 1) + length lines ≤ line)
    later (inl before) = inl (omega (arith, before))
    later (inr behind) = inr (omega (arith, behind))

on_line-append : (line : ℕ) (a b : List Start) → on_line line (a ++ b) ≡ on_line line a ++ on_line line b
on_line-append line a b = filter-append (λ (s : Start). nat_eq s.0.line line) a b

piece-elsewhere : (line : ℕ) (c : Context) (piece : List ℕ) (number column : ℕ) → nat_eq number line ≡ false → on_line line (map (λ (t : PlacedToken). (t, column)) (token_if c piece number)) ≡ []
piece-elsewhere line c piece number column other = by (is_gap piece)
  where
    by : (gap : Bool) → on_line line (map (λ (t : PlacedToken). (t, column)) (if gap then [] else token_of c (spelled piece) number ∷ [])) ≡ []
    by true = refl
    by false = ap (λ b. cond b ((token_of c (spelled piece) number, column) ∷ []) []) other

cut-elsewhere : (line : ℕ) (c : Context) (n : ℕ) (text : List TextByte) → All (IsElsewhere line) text → on_line line (cut_after c n text) ≡ []
unfolding cut_after
cut-elsewhere line c n [] all = refl
cut-elsewhere line c (suc n) (b ∷ text) all = cut-elsewhere line c n text (All-tail (IsElsewhere line) b text all)
cut-elsewhere line c zero (b ∷ text) all =
    let n = rest_of c b text in
    let piece = b.byte ∷ bytes_in (take n text) in
    on_line-append line (map (λ (t : PlacedToken). (t, b.column)) (token_if c piece b.line)) (cut_after (context_after c piece) n text)
    ∙ (λ i. piece-elsewhere line c piece b.line b.column (All-head (IsElsewhere line) b text all) i
    ++ cut-elsewhere line (context_after c piece) n text (All-tail (IsElsewhere line) b text all) i)

-- those of lines with these numbers
lines-elsewhere : (line down : ℕ) (lines : List (List ℕ)) → (line ≤ down) ⊎ (down + length lines < line) → on_line line (cut_after line_start 0 (text_from (down + 1) lines)) ≡ []
lines-elsewhere line down lines outside = cut-elsewhere line line_start 0 (text_from (down + 1) lines) (text-elsewhere line (down + 1) lines (by outside))
  where
    by : (line ≤ down) ⊎ (down + length lines < line) → (line < down + 1) ⊎ ((down + 1) + length lines ≤ line)
    by (inl before) = inl (omega (arith, before))
    by (inr behind) = inr (omega (arith, behind))

-- the tokens of a chunk, each where it begins in these lines, of which so many of the file are before them
abbrev pub starts_there : List (List ℕ) → ℕ → PlacedChunk → List Start
starts_there lines down b = starts_in (tokens_there b) (text_from (b.lines_before + 1) (take b.chunk.value.lines (drop (b.lines_before - down) lines)))

-- chunks before this one end above the line, and those behind it begin below
record IsAround (chunks : List PlacedChunk) (k line : ℕ) (d : PlacedChunk) : Type 0 where
  above : (k ≡ 0) ⊎ ((get_or chunks k d).lines_before < line)
  others : (j : ℕ) → k < j → j < length chunks → line ≤ (get_or chunks j d).lines_before

starts-chunk : (down : ℕ) (lines : List (List ℕ)) (b : PlacedChunk) → b.lines_before ≡ down → IsChunk lines b.chunk.value
    → starts_there lines down b ≡ cut_after line_start 0 (text_from (down + 1) (take b.chunk.value.lines lines))
starts-chunk down lines b is chunk =
    let own = take b.chunk.value.lines lines in
    let text = text_from (down + 1) own in
    let none : b.lines_before - down ≡ 0 = omega (arith, is) in
    let tokens : moved_tokens down b.chunk.value.tokens ≡ tokens_after line_start 0 (placed_text text) =
    ap (moved_tokens down) chunk.own ∙ sym (tokens_of-behind down own) ∙ ap (tokens_after line_start 0) (sym (placed_text-from (down + 1) own)) in
    (λ i. starts_in (moved_tokens (is i) b.chunk.value.tokens) (text_from (is i + 1) (take b.chunk.value.lines (drop (none i) lines))))
    ∙ ap (λ (ts : List PlacedToken). starts_in ts text) tokens
    ∙ starts-cut (length text) line_start text (omega arith)

lines-none : (line number : ℕ) (lines : List (List ℕ)) → length lines ≡ 0 → on_line line (cut_after line_start 0 (text_from number lines)) ≡ []
lines-none line number [] none = ap (on_line line) (no_text number)
lines-none line number (l ∷ lines) none = absurd (omega (arith, none))

starts-around : (lines : List (List ℕ)) (down tokens_before : ℕ) (chunks : List PlacedChunk) (k line : ℕ) (d : PlacedChunk) → AreChunks lines down tokens_before chunks → lines_in_chunks chunks ≡ length lines
    → k < length chunks → IsAround chunks k line d
    → on_line line (starts_there lines down (get_or chunks k d)) ≡ on_line line (cut_after line_start 0 (text_from (down + 1) lines))
starts-around lines down tb [] k line d are all lt has = absurd (omega (arith, lt))
starts-around lines down tb (b ∷ chunks) zero line d are all lt has =
    let n = b.chunk.value.lines in
    let own = cut_after line_start 0 (text_from (down + 1) (take n lines)) in
    let later = cut_after line_start 0 (text_from ((down + n) + 1) (drop n lines)) in
    ap (on_line line) (starts-chunk down lines b are.0 are.2)
    ∙ sym (append-nil (on_line line own))
    ∙ ap (λ (ss : List Start). on_line line own ++ ss) (sym (by chunks are.3 all has.others))
    ∙ sym (on_line-append line own later)
    ∙ ap (on_line line) (sym (chunk-starts down lines b.chunk.value are.2))
  where
    by : (others : List PlacedChunk) → AreChunks (drop b.chunk.value.lines lines) (down + b.chunk.value.lines) (tb + length b.chunk.value.tokens) others → lines_in_chunks (b ∷ others) ≡ length lines
        → ((j : ℕ) → 0 < j → j < length (b ∷ others) → line ≤ (get_or (b ∷ others) j d).lines_before)
        → on_line line (cut_after line_start 0 (text_from ((down + b.chunk.value.lines) + 1) (drop b.chunk.value.lines lines))) ≡ []
    by [] are all before =
        let n = b.chunk.value.lines in
        lines-none line ((down + n) + 1) (drop n lines) (omega (arith, all, lines-there b [], length-drop n lines))
    by (x ∷ others) are all before =
        let n = b.chunk.value.lines in
        lines-elsewhere line (down + n) (drop n lines) (inl (omega (arith, before 1 (omega arith) (omega arith), are.0)))
starts-around lines down tb (b ∷ chunks) (suc k) line d are all lt has =
    let n = b.chunk.value.lines in
    let x = get_or chunks k d in
    let at = AreChunks-at (drop n lines) (down + n) (tb + length b.chunk.value.tokens) chunks k d are.3 (omega (arith, lt)) in
    let is : x.lines_before ≡ (down + n) + at.behind = at.is in
    let within : length (take n lines) ≡ n = length-take-le n lines are.2.within in
    let size : lines_in_chunks chunks ≡ length (drop n lines) = omega (arith, all, lines-there b chunks, length-drop n lines) in
    let place : n + (x.lines_before - (down + n)) ≡ x.lines_before - down = omega (arith, is) in
    let same : starts_there (drop n lines) (down + n) x ≡ starts_there lines down x =
    ap (λ (ls : List (List ℕ)). starts_in (tokens_there x) (text_from (x.lines_before + 1) (take x.chunk.value.lines ls)))
    (drop-drop (x.lines_before - (down + n)) n lines ∙ ap (λ m. drop m lines) place) in
    let own = cut_after line_start 0 (text_from (down + 1) (take n lines)) in
    let later = cut_after line_start 0 (text_from ((down + n) + 1) (drop n lines)) in
    ap (on_line line) (sym same)
    ∙ starts-around (drop n lines) (down + n) (tb + length b.chunk.value.tokens) chunks k line d are.3 size (omega (arith, lt))
    (record { above = inr (above has.above); others = λ j more less. has.others (suc j) (omega (arith, more)) (omega (arith, less)) })
    ∙ ap (λ (ss : List Start). ss ++ on_line line later) (sym (lines-elsewhere line down (take n lines) (inr (omega (arith, within, is, above has.above)))))
    ∙ sym (on_line-append line own later)
    ∙ ap (on_line line) (sym (chunk-starts down lines b.chunk.value are.2))
  where
    above : (suc k ≡ 0) ⊎ ((get_or chunks k d).lines_before < line) → (get_or chunks k d).lines_before < line
    above (inl none) = absurd (omega (arith, none))
    above (inr less) = less

-- ---- the chunk of a line

-- What is known of it.
pub record IsNearLine (lines : List (List ℕ)) (line : ℕ) (b : PlacedChunk) : Type 0 where
  pub chunk : IsChunk (drop b.lines_before lines) b.chunk.value
  pub within : b.lines_before + b.chunk.value.lines ≤ length lines
  pub few : length lines ≤ 200000
  pub numbers : All (TokenWithin 200000) b.chunk.value.tokens
  pub same :
      on_line line (starts_in (tokens_there b) (text_from (b.lines_before + 1) (take b.chunk.value.lines (drop b.lines_before lines))))
      ≡ on_line line (starts_of lines)

pub near-line : (lines : List (List ℕ)) (chunks : List PlacedChunk) (line : ℕ) (b : PlacedChunk) → AreChunksOf lines chunks → IsChunkOfLine chunks line b → IsNearLine lines line b
near-line lines chunks line b are of =
    let chunk = AreChunksOf-Contains lines chunks b are (of.place, of.within, of.is) in
    let rest = drop b.lines_before lines in
    let size = length-drop b.lines_before lines in
    let own = take b.chunk.value.lines rest in
    let behind : b.lines_before - 0 ≡ b.lines_before = omega arith in
    let around : IsAround chunks of.place line b =
    record { above = subst (λ (x : PlacedChunk). (of.place ≡ 0) ⊎ (x.lines_before < line)) (sym of.is) of.above; others = of.others } in
    record {
      chunk = chunk;
      within = omega (arith, chunk.some, chunk.within, size);
      few = are.few;
      numbers =
          subst (λ (ts : List PlacedToken). All (TokenWithin 200000) ts) (sym chunk.own)
          (tokens_of-within 200000 own (omega (arith, length-take-le b.chunk.value.lines rest chunk.within, chunk.within, size, are.few)));
      same =
          ap (λ n. on_line line (starts_in (tokens_there b) (text_from (b.lines_before + 1) (take b.chunk.value.lines (drop n lines))))) (sym behind)
          ∙ ap (λ (x : PlacedChunk). on_line line (starts_there lines 0 x)) (sym of.is)
          ∙ starts-around lines 0 0 chunks of.place line b are.each are.whole of.within around
          ∙ ap (on_line line) (sym (starts_of-cut lines));
    }

-- of no lines there is none
pub no-starts : (lines : List (List ℕ)) (chunks : List PlacedChunk) (line : ℕ) → AreChunksOf lines chunks → chunks ≡ [] → on_line line (starts_of lines) ≡ []
no-starts lines chunks line are none =
    ap (on_line line) (starts_of-cut lines) ∙ lines-none line 1 lines (omega (arith, are.whole, ap lines_in_chunks none))
