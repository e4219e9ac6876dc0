-- Each token begins where the text is cut.
use Rattle.std.proofs.Common.{◌≡◌, ◌∙◌, ◌≤◌, ◌++◌, ◌∷◌, ℕ, zero, suc, Bool, true, false, if◌then◌else◌, List, [], drop, length, length-drop, map, take, refl, sym, ap, arith}
use Rattle.std.proofs.lemmas.List.{drop_all, length-map, length-take-le, map-append}
use Rattle.std.specs.List.{drop-map}
use Rattle.std.specs.Prelude.{codes}
use Rattle.idl_lex.proofs.ColumnLemmas.{gaps_after-none, gaps_after-some}
use Rattle.idl_lex.proofs.GapLemmas.{bytes_in-take, bytes_of-placed_text, further-unclosed, gap_length-piece, placed_text-from}
use Rattle.idl_lex.proofs.PieceLemmas.{further-within}
use Rattle.idl_lex.proofs.TokensLemmas.{bytes_of-take, tokens_after-drop, tokens_after-nil, tokens_after-piece}
use Rattle.idl_lex.specs.bytes.Columns.{behind_gaps, bytes_in, placed_text, text_from}
use Rattle.idl_lex.specs.bytes.Context.{context_after, is_gap, is_include, line_start}
use Rattle.idl_lex.specs.bytes.Scan.{further}
use Rattle.idl_lex.specs.bytes.Text.{Placed, bytes_of}
use Rattle.idl_lex.specs.kinds.Kind.{begins_block}
use Rattle.idl_lex.specs.tokens.Tokens.{spelled, token_if, token_of, tokens_after, tokens_of}
use Rattle.idl_lex.specs.declared.bytes.context.Context.{Context}
use Rattle.idl_lex.specs.declared.bytes.text_left.TextByte.{TextByte}
use Rattle.idl_lex.specs.declared.tokens.token.PlacedToken.{PlacedToken}
use Rattle.idl_text.specs.Starts.{Start, cut_after, starts_in, starts_of}
use Rattle.idl_text.proofs.ChunkLemmas.{tokens_of-joined}
use Rattle.idl_text.proofs.StartLemmas.{starts_in-behind, starts_in-next, starts_in-nil}

pub cut_after-drop : (c : Context) (n : ℕ) (text : List TextByte) → cut_after c n text ≡ cut_after c 0 (drop n text)
unfolding cut_after
cut_after-drop c zero text = refl
cut_after-drop c (suc n) [] = refl
cut_after-drop c (suc n) (b ∷ text) = cut_after-drop c n text

pub cut_after-nil : (c : Context) → cut_after c 0 [] ≡ []
unfolding cut_after
cut_after-nil c = refl

-- how long the first piece is after its first byte, and that piece
abbrev pub rest_of : Context → TextByte → List TextByte → ℕ
rest_of c b text = further (is_include c.beginning) b.byte (bytes_in text)

abbrev pub piece_of : Context → TextByte → List TextByte → List ℕ
piece_of c b text = b.byte ∷ take (rest_of c b text) (bytes_in text)

pub cut_after-piece : (c : Context) (b : TextByte) (text : List TextByte)
    → cut_after c 0 (b ∷ text) ≡ map (λ t. (t, b.column)) (token_if c (piece_of c b text) b.line) ++ cut_after (context_after c (piece_of c b text)) 0 (drop (rest_of c b text) text)
unfolding cut_after
cut_after-piece c b text =
    let n = rest_of c b text in
    ap (λ bs. map (λ t. (t, b.column)) (token_if c (b.byte ∷ bs) b.line) ++ cut_after (context_after c (b.byte ∷ bs)) n text) (bytes_in-take n text)
    ∙ ap (λ (ss : List Start). map (λ t. (t, b.column)) (token_if c (piece_of c b text) b.line) ++ ss) (cut_after-drop (context_after c (piece_of c b text)) n text)

tokens-piece : (c : Context) (b : TextByte) (text : List TextByte)
    → tokens_after c 0 (placed_text (b ∷ text)) ≡ token_if c (piece_of c b text) b.line ++ tokens_after (context_after c (piece_of c b text)) 0 (placed_text (drop (rest_of c b text) text))
tokens-piece c b text =
    let n = rest_of c b text in
    let p : Placed = record { byte = b.byte; line = b.line } in
    let bytes : bytes_of (take n (placed_text text)) ≡ take n (bytes_in text) = bytes_of-take n (placed_text text) ∙ ap (take n) (bytes_of-placed_text text) in
    tokens_after-piece c p (placed_text text) n (ap (further (is_include c.beginning) b.byte) (bytes_of-placed_text text))
    ∙ ap (λ bs. token_if c (b.byte ∷ bs) b.line ++ tokens_after (context_after c (b.byte ∷ bs)) n (placed_text text)) bytes
    ∙ ap (λ (ts : List PlacedToken). token_if c (piece_of c b text) b.line ++ ts)
    (tokens_after-drop (context_after c (piece_of c b text)) n (placed_text text)
    ∙ ap (tokens_after (context_after c (piece_of c b text)) 0) (drop-map (λ (b : TextByte). record { byte = b.byte; line = b.line }) n text))

-- what is left of a text where its first piece is a gap, a token, or a comment that isn't closed
gap-there : (c : Context) (b : TextByte) (text : List TextByte) → is_gap (piece_of c b text) ≡ true → behind_gaps (b ∷ text) ≡ behind_gaps (drop (rest_of c b text) text)
gap-there c b text gap =
    let n = rest_of c b text in
    gaps_after-some (b ∷ text) (suc n) (gap_length-piece (is_include c.beginning) b.byte (bytes_in text) ∙ ap (λ x. if x then suc n else 0) gap) (omega arith)

token-there : (c : Context) (b : TextByte) (text : List TextByte) → is_gap (piece_of c b text) ≡ false → behind_gaps (b ∷ text) ≡ b ∷ text
token-there c b text gap =
    gaps_after-none (b ∷ text) (gap_length-piece (is_include c.beginning) b.byte (bytes_in text) ∙ ap (λ x. if x then suc (rest_of c b text) else 0) gap)

-- the tokens of a text, from its first piece on
module _ (c : Context) (b : TextByte) (text : List TextByte) where
  abbrev later : List TextByte
  later = drop (rest_of c b text) text

  abbrev after : Context
  after = context_after c (piece_of c b text)

  abbrev tokens : List PlacedToken
  tokens = tokens_after after 0 (placed_text later)

  past-piece : is_gap (piece_of c b text) ≡ false → (closed : Bool) → begins_block (piece_of c b text) ≡ closed
      → starts_in tokens (drop (length (if closed then codes "/*" else piece_of c b text)) (b ∷ text)) ≡ starts_in tokens later
  past-piece gap false begins =
      let size : length (take (rest_of c b text) (bytes_in text)) ≡ rest_of c b text =
      length-take-le (rest_of c b text) (bytes_in text) (further-within (is_include c.beginning) b.byte (bytes_in text)) in
      ap (λ n. starts_in tokens (drop n text)) size
  past-piece gap true begins =
      let all : rest_of c b text ≡ length (bytes_in text) = further-unclosed (is_include c.beginning) b.byte (bytes_in text) gap begins in
      let nothing : later ≡ [] = drop_all (rest_of c b text) text (omega (arith, all, length-map text (λ (b : TextByte). b.byte))) in
      let none : tokens ≡ [] = ap (λ (t : List TextByte). tokens_after after 0 (placed_text t)) nothing ∙ tokens_after-nil after in
      ap (λ (ts : List PlacedToken). starts_in ts (drop 2 (b ∷ text))) none ∙ starts_in-nil (drop 2 (b ∷ text))
      ∙ sym (ap (λ (ts : List PlacedToken). starts_in ts later) none ∙ starts_in-nil later)

  from-piece : (gap : Bool) → is_gap (piece_of c b text) ≡ gap → starts_in tokens later ≡ cut_after after 0 later
      → starts_in ((if gap then [] else token_of c (spelled (piece_of c b text)) b.line ∷ []) ++ tokens) (b ∷ text)
      ≡ map (λ t. (t, b.column)) (if gap then [] else token_of c (spelled (piece_of c b text)) b.line ∷ []) ++ cut_after after 0 later
  from-piece true gap rest = starts_in-behind tokens (b ∷ text) later (gap-there c b text gap) ∙ rest
  from-piece false gap rest =
      let t : PlacedToken = token_of c (spelled (piece_of c b text)) b.line in
      let here = token-there c b text gap in
      starts_in-next t tokens (b ∷ text) b text here
      ∙ ap (λ (x : List TextByte). (t, b.column) ∷ starts_in tokens (drop (length t.token) x)) here
      ∙ ap (λ (ss : List Start). (t, b.column) ∷ ss) (past-piece gap (begins_block (piece_of c b text)) refl ∙ rest)

pub starts-cut : (fuel : ℕ) (c : Context) (text : List TextByte) → length text ≤ fuel → starts_in (tokens_after c 0 (placed_text text)) text ≡ cut_after c 0 text
starts-cut fuel c [] le = ap (λ (ts : List PlacedToken). starts_in ts []) (tokens_after-nil c) ∙ starts_in-nil [] ∙ sym (cut_after-nil c)
starts-cut zero c (b ∷ text) le = absurd (omega (arith, le))
starts-cut (suc fuel) c (b ∷ text) le =
    let n = rest_of c b text in
    let rest = starts-cut fuel (context_after c (piece_of c b text)) (drop n text) (omega (arith, le, length-drop n text)) in
    ap (λ (ts : List PlacedToken). starts_in ts (b ∷ text)) (tokens-piece c b text)
    ∙ from-piece c b text (is_gap (piece_of c b text)) refl rest
    ∙ sym (cut_after-piece c b text)

pub starts_of-cut : (lines : List (List ℕ)) → starts_of lines ≡ cut_after line_start 0 (text_from 1 lines)
starts_of-cut lines =
    ap (λ (ts : List PlacedToken). starts_in ts (text_from 1 lines)) (tokens_of-joined lines ∙ ap (tokens_after line_start 0) (sym (placed_text-from 1 lines)))
    ∙ starts-cut (length (text_from 1 lines)) line_start (text_from 1 lines) (omega arith)

-- the tokens of these
starts-tokens : (tokens : List PlacedToken) (column : ℕ) → map (λ (s : Start). s.0) (map (λ (t : PlacedToken). (t, column)) tokens) ≡ tokens
starts-tokens [] column = refl
starts-tokens (t ∷ tokens) column = ap (λ (ts : List PlacedToken). t ∷ ts) (starts-tokens tokens column)

cut_after-tokens : (fuel : ℕ) (c : Context) (text : List TextByte) → length text ≤ fuel → map (λ (s : Start). s.0) (cut_after c 0 text) ≡ tokens_after c 0 (placed_text text)
cut_after-tokens fuel c [] le = ap (λ (ss : List Start). map (λ (s : Start). s.0) ss) (cut_after-nil c) ∙ sym (tokens_after-nil c)
cut_after-tokens zero c (b ∷ text) le = absurd (omega (arith, le))
cut_after-tokens (suc fuel) c (b ∷ text) le =
    let here = token_if c (piece_of c b text) b.line in
    let behind = drop (rest_of c b text) text in
    let after = context_after c (piece_of c b text) in
    ap (λ (ss : List Start). map (λ (s : Start). s.0) ss) (cut_after-piece c b text)
    ∙ map-append (λ (s : Start). s.0) (map (λ (t : PlacedToken). (t, b.column)) here) (cut_after after 0 behind)
    ∙ (λ i. starts-tokens here b.column i ++ cut_after-tokens fuel after behind (omega (arith, le, length-drop (rest_of c b text) text)) i)
    ∙ sym (tokens-piece c b text)

pub starts_of-tokens : (lines : List (List ℕ)) → map (λ (s : Start). s.0) (starts_of lines) ≡ tokens_of lines
starts_of-tokens lines =
    ap (λ (ss : List Start). map (λ (s : Start). s.0) ss) (starts_of-cut lines)
    ∙ cut_after-tokens (length (text_from 1 lines)) line_start (text_from 1 lines) (omega arith)
    ∙ ap (tokens_after line_start 0) (placed_text-from 1 lines)
    ∙ sym (tokens_of-joined lines)
