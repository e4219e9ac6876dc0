-- The tokens of a text, piece by piece of its lines.
use Rattle.std.proofs.Common.{◌≡◌, ◌∙◌, ◌<◌, ◌≤◌, ◌+◌, ◌-◌, ◌++◌, ℕ, zero, suc, nat_eq, Bool, true, false, ◌&&◌, ◌||◌, None, Some, if◌then◌else◌, List, [], ◌∷◌, drop, get_or, length, take, refl, sym, ap, arith}
use Rattle.std.proofs.lemmas.List.{drop_all, drop-drop}
use Rattle.std.specs.Prelude.{codes}
use Rattle.idl_source.specs.texts.Line.{newline}
use Rattle.idl_lex.proofs.LineLemmas.{Opened, Opened-piece, further-closed, further-open, ends_block-taken, taken-open, taken-over, taken-closed, ends_block-over, ends_block-closed}
use Rattle.idl_lex.proofs.PieceLemmas.{longest-further, further-within, taken-le}
use Rattle.idl_lex.specs.bytes.Context.{beginning_after, ends_block, is_include, context_after, line_start}
use Rattle.idl_lex.specs.kinds.Word.{is_word}
use Rattle.idl_lex.specs.tokens.Lexer.{after_comment, ended, is_open}
use Rattle.idl_lex.specs.tokens.Logical.{line_at}
use Rattle.idl_lex.specs.bytes.Scan.{further, taken}
use Rattle.idl_lex.specs.bytes.Text.{Placed, bytes_of}
use Rattle.idl_lex.specs.tokens.Tokens.{followers_on_line, lines_after, lines_of, piece_rest, token_if, token_of, tokens_after}
use Rattle.idl_lex.specs.declared.bytes.context.Context.{Context}
use Rattle.idl_lex.specs.declared.bytes.state.Inside.TheVariants.{Block, Whole}
use Rattle.idl_lex.specs.declared.tokens.token.PlacedToken.{PlacedToken}

pub tokens_after-drop : (c : Context) (n : ℕ) (text : List Placed) → tokens_after c n text ≡ tokens_after c 0 (drop n text)
unfolding tokens_after
tokens_after-drop c zero text = refl
tokens_after-drop c (suc n) [] = refl
tokens_after-drop c (suc n) (p ∷ text) = tokens_after-drop c n text

pub tokens_after-nil : (c : Context) → tokens_after c 0 [] ≡ []
unfolding tokens_after
tokens_after-nil c = refl

-- parts of a text and their bytes
bytes_of-append : (a b : List Placed) → bytes_of (a ++ b) ≡ bytes_of a ++ bytes_of b
bytes_of-append [] b = refl
bytes_of-append (p ∷ a) b = ap (λ bs. p.byte ∷ bs) (bytes_of-append a b)

pub length-bytes_of : (text : List Placed) → length (bytes_of text) ≡ length text
length-bytes_of [] = refl
length-bytes_of (p ∷ text) = ap (λ n. suc n) (length-bytes_of text)

pub bytes_of-drop : (n : ℕ) (text : List Placed) → bytes_of (drop n text) ≡ drop n (bytes_of text)
bytes_of-drop zero text = refl
bytes_of-drop (suc n) [] = refl
bytes_of-drop (suc n) (p ∷ text) = bytes_of-drop n text

pub bytes_of-take : (n : ℕ) (text : List Placed) → bytes_of (take n text) ≡ take n (bytes_of text)
bytes_of-take zero text = refl
bytes_of-take (suc n) [] = refl
bytes_of-take (suc n) (p ∷ text) = ap (λ bs. p.byte ∷ bs) (bytes_of-take n text)

take-front : (n : ℕ) (a b : List Placed) → n ≤ length a → take n (a ++ b) ≡ take n a
take-front zero a b le = refl
take-front (suc n) [] b le = absurd (omega arith)
take-front (suc n) (p ∷ a) b le = ap (λ ps. p ∷ ps) (take-front n a b (omega arith))

drop-front : (n : ℕ) (a b : List Placed) → n ≤ length a → drop n (a ++ b) ≡ drop n a ++ b
drop-front zero a b le = refl
drop-front (suc n) [] b le = absurd (omega arith)
drop-front (suc n) (p ∷ a) b le = drop-front n a b (omega arith)

drop-over : (n : ℕ) (a b : List Placed) → drop (length a + n) (a ++ b) ≡ drop n b
drop-over n [] b = let e : 0 + n ≡ n = omega arith in ap (λ k. drop k b) e
drop-over n (p ∷ a) b = let e : suc (length a) + n ≡ suc (length a + n) = omega arith in ap (λ k. drop k (p ∷ a ++ b)) e ∙ drop-over n a b

-- the byte at a place, and those after it
pub drop-placed : (text : List Placed) (i : ℕ) → i < length text → drop i text ≡ record { byte = get_or (bytes_of text) i 0; line = line_at text i } ∷ drop (i + 1) text
drop-placed [] i lt = absurd (omega arith)
drop-placed (p ∷ text) zero lt = refl
drop-placed (p ∷ text) (suc i) lt =
    let e : suc i + 1 ≡ suc (i + 1) = omega arith in
    drop-placed text i (omega arith) ∙ ap (λ k. record { byte = get_or (bytes_of text) i 0; line = line_at text i } ∷ drop k (p ∷ text)) (sym e)

-- the first piece of a text and what comes after it
abbrev pub from_piece : Context → Placed → List Placed → ℕ → List PlacedToken
from_piece c p text n = token_if c (p.byte ∷ bytes_of (take n text)) p.line ++ tokens_after (context_after c (p.byte ∷ bytes_of (take n text))) n text

piece_rest-further : (c : Context) (p : Placed) (text : List Placed) → piece_rest c p text ≡ further (is_include c.beginning) p.byte (bytes_of text)
piece_rest-further c p text =
    let e = longest-further (is_include c.beginning) p.byte (bytes_of text) in
    omega (arith, e)

pub tokens_after-piece : (c : Context) (p : Placed) (text : List Placed) (n : ℕ) → further (is_include c.beginning) p.byte (bytes_of text) ≡ n → tokens_after c 0 (p ∷ text) ≡ from_piece c p text n
unfolding tokens_after
tokens_after-piece c p text n e = ap (from_piece c p text) (piece_rest-further c p text ∙ e)

-- The first piece of a line's rest, where it isn't a comment that goes on.
pub tokens_after-closed : (c : Context) (p : Placed) (line : List Placed) (last_number : ℕ) (rest : List Placed) (n : ℕ) → further (is_include c.beginning) p.byte (bytes_of line) ≡ n
    → is_open (p.byte ∷ take n (bytes_of line)) ≡ false
    → tokens_after c 0 (p ∷ line ++ ended last_number rest)
    ≡ token_if c (p.byte ∷ take n (bytes_of line)) p.line ++ tokens_after (context_after c (p.byte ∷ take n (bytes_of line))) 0 (drop n line ++ ended last_number rest)
tokens_after-closed c p line last_number rest n is closed =
    let includes = is_include c.beginning in
    let text = line ++ ended last_number rest in
    let within : n ≤ length line = let le = further-within includes p.byte (bytes_of line) in omega (arith, length-bytes_of line, is, le) in
    let same : further includes p.byte (bytes_of text) ≡ n =
    ap (further includes p.byte) (bytes_of-append line (ended last_number rest))
    ∙ further-closed includes p.byte (bytes_of line) (bytes_of rest) (ap (λ k. is_open (p.byte ∷ take k (bytes_of line))) is ∙ closed)
    ∙ is in
    let piece : bytes_of (take n text) ≡ take n (bytes_of line) = ap bytes_of (take-front n line (ended last_number rest) within) ∙ bytes_of-take n line in
    tokens_after-piece c p text n same
    ∙ ap (λ bs. token_if c (p.byte ∷ bs) p.line ++ tokens_after (context_after c (p.byte ∷ bs)) n text) piece
    ∙ ap (λ ts. token_if c (p.byte ∷ take n (bytes_of line)) p.line ++ ts)
    (tokens_after-drop (context_after c (p.byte ∷ take n (bytes_of line))) n text ∙ ap (tokens_after (context_after c (p.byte ∷ take n (bytes_of line))) 0) (drop-front n line (ended last_number rest) within))

-- what stands before a place after white space or a comment
abbrev pub after_gap : Context → Context
after_gap c = record { beginning = c.beginning; follows_word = false }

-- what stands before a place after a token
abbrev pub after_token : Context → List ℕ → Context
after_token c spelling = record { beginning = beginning_after c.beginning spelling; follows_word = is_word spelling }

-- a comment that is closed is a gap, and one that isn't is its opening
block-cases : (closed : Bool) (c : Context) (line n : ℕ) (rest : List ℕ) (text : List Placed) → ends_block false rest ≡ closed
    → token_if c (47 ∷ 42 ∷ rest) line ++ tokens_after (context_after c (47 ∷ 42 ∷ rest)) n text
    ≡ (if closed then [] else token_of c (codes "/*") line ∷ []) ++ tokens_after (if closed then after_gap c else after_token c (47 ∷ 42 ∷ rest)) n text
block-cases closed c line n rest text e =
    ap (λ b. (if b then [] else token_of c (codes "/*") line ∷ []) ++ tokens_after (if b then after_gap c else after_token c (47 ∷ 42 ∷ rest)) n text) e

-- the bytes of a comment that goes on over a newline
take-over : (cs rest : List ℕ) (m : ℕ) → take (length cs + suc m) (cs ++ newline ∷ rest) ≡ cs ++ newline ∷ take m rest
take-over [] rest m = let e : 0 + suc m ≡ suc m = omega arith in ap (λ k. take k (newline ∷ rest)) e
take-over (c ∷ cs) rest m =
    let e : suc (length cs) + suc m ≡ suc (length cs + suc m) = omega arith in
    ap (λ k. take k (c ∷ cs ++ newline ∷ rest)) e ∙ ap (λ bs. c ∷ bs) (take-over cs rest m)

-- past a line and its newline
tokens_after-over : (c : Context) (line : List Placed) (last_number : ℕ) (rest : List Placed) (m n : ℕ) → n ≡ length line + suc m
    → tokens_after c n (line ++ ended last_number rest) ≡ tokens_after c m rest
tokens_after-over c line last_number rest m n e =
    ap (λ k. tokens_after c k (line ++ ended last_number rest)) e
    ∙ tokens_after-drop c (length line + suc m) (line ++ ended last_number rest)
    ∙ ap (tokens_after c 0) (drop-over (suc m) line (ended last_number rest))
    ∙ sym (tokens_after-drop c m rest)

-- what is left after all of a text
tokens_after-all : (c : Context) (n : ℕ) (text : List Placed) → length text ≤ n → tokens_after c n text ≡ []
tokens_after-all c n text le = tokens_after-drop c n text ∙ ap (tokens_after c 0) (drop_all n text le) ∙ tokens_after-nil c

comment-cases : (closed : Bool) (c : Context) (opening : PlacedToken) (other : Context) (rest : List Placed) → ends_block false (bytes_of rest) ≡ closed
    → (if closed then [] else opening ∷ []) ++ tokens_after (if closed then c else other) (taken (Block false) (bytes_of rest)) rest ≡ after_comment opening c rest
comment-cases true c opening other rest e =
    ap (λ b. if b then tokens_after c (taken (Block false) (bytes_of rest)) rest else opening ∷ []) (sym e)
comment-cases false c opening other rest e =
    let all = taken-open false (bytes_of rest) e in
    ap (λ ts. opening ∷ ts) (tokens_after-all other (taken (Block false) (bytes_of rest)) rest (omega (arith, all, length-bytes_of rest)))
    ∙ ap (λ b. if b then tokens_after c (taken (Block false) (bytes_of rest)) rest else opening ∷ []) (sym e)

-- The first piece of a line's rest, where it is a comment that goes on.
pub tokens_after-open : (c : Context) (p : Placed) (line : List Placed) (last_number : ℕ) (rest : List Placed) → Opened p.byte (bytes_of line)
    → tokens_after c 0 (p ∷ line ++ ended last_number rest) ≡ after_comment (token_of c (codes "/*") p.line) (after_gap c) rest
tokens_after-open c p line last_number rest o =
    let includes = is_include c.beginning in
    let text = line ++ ended last_number rest in
    let rb = bytes_of rest in
    let m = taken (Block false) rb in
    let closed = ends_block false rb in
    let n = suc (length o.rest + suc m) in
    let bytes : bytes_of text ≡ 42 ∷ o.rest ++ newline ∷ rb = bytes_of-append line (ended last_number rest) ∙ ap (λ bs. bs ++ newline ∷ rb) o.star in
    let same : further includes p.byte (bytes_of text) ≡ n =
    ap (λ b. further includes b (bytes_of text)) o.slash ∙ ap (further includes 47) bytes ∙ further-open includes o.rest rb o.unclosed in
    let piece : p.byte ∷ bytes_of (take n text) ≡ 47 ∷ 42 ∷ o.rest ++ newline ∷ take m rb =
    ap (λ b. b ∷ bytes_of (take n text)) o.slash
    ∙ ap (λ bs. 47 ∷ bs) (bytes_of-take n text ∙ ap (take n) bytes)
    ∙ ap (λ bs. 47 ∷ 42 ∷ bs) (take-over o.rest rb m) in
    let ends : ends_block false (o.rest ++ newline ∷ take m rb) ≡ closed = ends_block-over false o.rest (take m rb) o.unclosed ∙ ends_block-taken false rb in
    let size : n ≡ length line + suc m = let e = ap length o.star in omega (arith, e, length-bytes_of line) in
    let opening = token_of c (codes "/*") p.line in
    let other = after_token c (47 ∷ 42 ∷ o.rest ++ newline ∷ take m rb) in
    tokens_after-piece c p text n same
    ∙ ap (λ bs. token_if c bs p.line ++ tokens_after (context_after c bs) n text) piece
    ∙ block-cases closed c p.line n (o.rest ++ newline ∷ take m rb) text ends
    ∙ ap (λ ts. (if closed then [] else opening ∷ []) ++ ts) (tokens_after-over (if closed then after_gap c else other) line last_number rest m n size)
    ∙ comment-cases closed (after_gap c) opening other rest refl

-- a comment goes on over a line
pub after_comment-open : (opening : PlacedToken) (c : Context) (line : List Placed) (last_number : ℕ) (rest : List Placed) → ends_block false (bytes_of line) ≡ false
    → after_comment opening c rest ≡ after_comment opening c (line ++ ended last_number rest)
after_comment-open opening c line last_number rest e =
    let rb = bytes_of rest in
    let text = line ++ ended last_number rest in
    let m = taken (Block false) rb in
    let bytes = bytes_of-append line (ended last_number rest) in
    let ends : ends_block false (bytes_of text) ≡ ends_block false rb = ap (ends_block false) bytes ∙ ends_block-over false (bytes_of line) rb e in
    let len : taken (Block false) (bytes_of text) ≡ length line + suc m =
    ap (taken (Block false)) bytes ∙ taken-over false (bytes_of line) rb e ∙ ap (λ k. k + suc m) (length-bytes_of line) in
    sym (ap (λ b. if b then tokens_after c (taken (Block false) (bytes_of text)) text else opening ∷ []) ends
    ∙ ap (λ ts. if (ends_block false rb) then ts else opening ∷ []) (tokens_after-over c line last_number rest m (taken (Block false) (bytes_of text)) len))

-- or ends on it
pub after_comment-closed : (opening : PlacedToken) (c : Context) (line : List Placed) (last_number : ℕ) (rest : List Placed) → ends_block false (bytes_of line) ≡ true
    → tokens_after c 0 (drop (taken (Block false) (bytes_of line)) line ++ ended last_number rest) ≡ after_comment opening c (line ++ ended last_number rest)
after_comment-closed opening c line last_number rest e =
    let rb = bytes_of rest in
    let text = line ++ ended last_number rest in
    let n = taken (Block false) (bytes_of line) in
    let bytes = bytes_of-append line (ended last_number rest) in
    let ends : ends_block false (bytes_of text) ≡ true = ap (ends_block false) bytes ∙ ends_block-closed false (bytes_of line) (newline ∷ rb) e in
    let len : taken (Block false) (bytes_of text) ≡ n = ap (taken (Block false)) bytes ∙ taken-closed false (bytes_of line) rb e in
    let within : n ≤ length line = let le = taken-le (Block false) (bytes_of line) in omega (arith, le, length-bytes_of line) in
    sym (ap (λ b. if b then tokens_after c (taken (Block false) (bytes_of text)) text else opening ∷ []) ends
    ∙ ap (λ k. tokens_after c k text) len
    ∙ tokens_after-drop c n text
    ∙ ap (tokens_after c 0) (drop-front n line (ended last_number rest) within))

-- a newline ends a line
newline-step : (same equals : Bool) (bs : List ℕ) → ◌≡◌ {A = ℕ} (elim (if ((same && false) || (equals && false)) then Some Whole else None) [ None ↦ 0 | Some t ↦ suc (taken t bs) ]) 0
newline-step true true bs = refl
newline-step true false bs = refl
newline-step false true bs = refl
newline-step false false bs = refl

further-newline : (includes : Bool) (bs : List ℕ) → further includes newline bs ≡ 0
unfolding taken
further-newline true [] = refl
further-newline false [] = refl
further-newline true (b ∷ bs) = newline-step (nat_eq newline b) (nat_eq b 61) bs
further-newline false (b ∷ bs) = newline-step (nat_eq newline b) (nat_eq b 61) bs

pub tokens_after-newline : (c : Context) (last_number : ℕ) (rest : List Placed) → tokens_after c 0 (ended last_number rest) ≡ tokens_after line_start 0 rest
tokens_after-newline c last_number rest =
    tokens_after-piece c (record { byte = newline; line = last_number }) rest 0 (further-newline (is_include c.beginning) (bytes_of rest))

-- the piece of a line from one place up to another
abbrev pub piece_of : List Placed → ℕ → ℕ → List ℕ
piece_of line from to = take (to - from) (drop from (bytes_of line))

-- where the longest piece ends that begins at a place of a line
abbrev pub EndsAt : Context → List Placed → ℕ → ℕ → Type 0
EndsAt c line i end = end ≡ i + 1 + further (is_include c.beginning) (get_or (bytes_of line) i 0) (drop (i + 1) (bytes_of line))

pub piece_of-cons : (line : List Placed) (i end n : ℕ) → i < length line → end ≡ i + 1 + n → piece_of line i end ≡ get_or (bytes_of line) i 0 ∷ take n (bytes_of (drop (i + 1) line))
piece_of-cons line i end n lt is =
    let size : end - i ≡ suc n = omega (arith, is) in
    ap (λ k. take k (drop i (bytes_of line))) size
    ∙ ap (take (suc n)) (sym (bytes_of-drop i line) ∙ ap bytes_of (drop-placed line i lt))

ends-further : (c : Context) (line : List Placed) (i end : ℕ) → EndsAt c line i end → end ≡ i + 1 + further (is_include c.beginning) (get_or (bytes_of line) i 0) (bytes_of (drop (i + 1) line))
ends-further c line i end is = is ∙ ap (λ bs. i + 1 + further (is_include c.beginning) (get_or (bytes_of line) i 0) bs) (sym (bytes_of-drop (i + 1) line))

-- the tokens from a place of a line on, where a piece ends there
pub tokens_after-piece_of : (c : Context) (line : List Placed) (i end last_number : ℕ) (rest : List Placed) → i < length line → EndsAt c line i end → is_open (piece_of line i end) ≡ false
    → tokens_after c 0 (drop i line ++ ended last_number rest)
    ≡ token_if c (piece_of line i end) (line_at line i) ++ tokens_after (context_after c (piece_of line i end)) 0 (drop end line ++ ended last_number rest)
tokens_after-piece_of c line i end last_number rest lt is closed =
    let p : Placed = record { byte = get_or (bytes_of line) i 0; line = line_at line i } in
    let later = drop (i + 1) line in
    let n = further (is_include c.beginning) p.byte (bytes_of later) in
    let at : end ≡ i + 1 + n = ends-further c line i end is in
    let piece : piece_of line i end ≡ p.byte ∷ take n (bytes_of later) = piece_of-cons line i end n lt at in
    let past : drop n later ≡ drop end line = drop-drop n (i + 1) line ∙ ap (λ k. drop k line) (sym at) in
    ap (λ ps. tokens_after c 0 (ps ++ ended last_number rest)) (drop-placed line i lt)
    ∙ tokens_after-closed c p later last_number rest n refl (sym (ap is_open piece) ∙ closed)
    ∙ ap (λ bs. token_if c bs p.line ++ tokens_after (context_after c bs) 0 (drop n later ++ ended last_number rest)) (sym piece)
    ∙ ap (λ ps. token_if c (piece_of line i end) p.line ++ tokens_after (context_after c (piece_of line i end)) 0 (ps ++ ended last_number rest)) past

Opened-piece_of : (c : Context) (line : List Placed) (i end : ℕ) → i < length line → EndsAt c line i end → is_open (piece_of line i end) ≡ true
    → Opened (get_or (bytes_of line) i 0) (bytes_of (drop (i + 1) line))
Opened-piece_of c line i end lt is opened =
    let b = get_or (bytes_of line) i 0 in
    let bs = bytes_of (drop (i + 1) line) in
    Opened-piece (is_include c.beginning) b bs (sym (ap is_open (piece_of-cons line i end (further (is_include c.beginning) b bs) lt (ends-further c line i end is))) ∙ opened)

-- and where a comment goes on
pub tokens_after-comment : (c : Context) (line : List Placed) (i end last_number : ℕ) (rest : List Placed) → i < length line → EndsAt c line i end → is_open (piece_of line i end) ≡ true
    → tokens_after c 0 (drop i line ++ ended last_number rest) ≡ after_comment (token_of c (codes "/*") (line_at line i)) (after_gap c) rest
tokens_after-comment c line i end last_number rest lt is opened =
    ap (λ ps. tokens_after c 0 (ps ++ ended last_number rest)) (drop-placed line i lt)
    ∙ tokens_after-open c (record { byte = get_or (bytes_of line) i 0; line = line_at line i }) (drop (i + 1) line) last_number rest (Opened-piece_of c line i end lt is opened)

pub opening-spelled : (c : Context) (line : List Placed) (i end : ℕ) → i < length line → EndsAt c line i end → is_open (piece_of line i end) ≡ true → piece_of line i (i + 2) ≡ codes "/*"
opening-spelled c line i end lt is opened =
    let o = Opened-piece_of c line i end lt is opened in
    piece_of-cons line i (i + 2) 1 lt (omega arith)
    ∙ ap (λ b. b ∷ take 1 (bytes_of (drop (i + 1) line))) o.slash
    ∙ ap (λ bs. 47 ∷ take 1 bs) o.star

-- the lines of tokens
lines_after-drop : (n : ℕ) (tokens : List PlacedToken) → lines_after n tokens ≡ lines_after 0 (drop n tokens)
lines_after-drop zero tokens = refl
lines_after-drop (suc n) [] = refl
lines_after-drop (suc n) (t ∷ tokens) = lines_after-drop n tokens

pub lines_of-first : (tokens : List PlacedToken) (n : ℕ) → 0 < length tokens → n ≡ 1 + followers_on_line (drop 1 tokens) → lines_of tokens ≡ take n tokens ∷ lines_of (drop n tokens)
unfolding lines_of
lines_of-first [] n some is = absurd (omega arith)
lines_of-first (t ∷ tokens) n some is =
    let k = followers_on_line tokens in
    let e : n ≡ suc k = omega (arith, is) in
    ap (λ ls. (t ∷ take k tokens) ∷ ls) (lines_after-drop k tokens) ∙ ap (λ m. take m (t ∷ tokens) ∷ lines_after 0 (drop m (t ∷ tokens))) (sym e)
