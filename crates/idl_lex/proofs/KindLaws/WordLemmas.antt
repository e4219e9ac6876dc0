-- White space, a word and a mark, of which the longest piece is told without a walk from state to state.
use Rattle.std.proofs.Common.{◌≡◌, ◌≢◌, ◌∙◌, ◌++◌, ℕ, suc, ◌+◌, ◌-◌, ◌<◌, ◌≤◌, inl, inr, ◌⊎◌, nat_eq, Bool, true, false, ◌&&◌, ◌||◌, if◌then◌else◌, List, [], ◌∷◌, length, drop, take, get_or, None, Some, refl, sym, ap, subst, arith}
use Rattle.std.proofs.lemmas.Bool.{false≢true, eqb-true, leb-true}
use Rattle.std.proofs.lemmas.Bool.Decides.{eqb_tells}
use Rattle.std.proofs.lemmas.List.{drop_more, length-drop, take_rest}
use Rattle.std.specs.Prelude.{nat_le}
use Rattle.std.specs.List.{list_all}
use Rattle.idl_source.specs.idl_base.Exact.{both}
use Rattle.idl_lex.proofs.CountLemmas.{eq-false}
use Rattle.idl_lex.proofs.PieceLemmas.{accepts, accepts-taken, accepts-word, taken-more, taken-stop, taken-end, taken-le, taken-whole}
use Rattle.idl_lex.proofs.TokensLemmas.{EndsAt, bytes_of-drop, length-bytes_of, piece_of, piece_of-cons, tokens_after-piece_of}
use Rattle.idl_lex.specs.bytes.Byte.{is_digit, is_quote, is_space, is_word_byte, is_word_start}
use Rattle.idl_lex.specs.bytes.Context.{closes, context_after, is_gap, is_include}
use Rattle.idl_lex.specs.kinds.Kind.{begins_block, begins_star}
use Rattle.idl_lex.specs.tokens.Lexer.{begins_quote, begins_word, ended, is_open, opens}
use Rattle.idl_lex.specs.tokens.Logical.{line_at}
use Rattle.idl_lex.specs.bytes.Piece.{is_pair}
use Rattle.idl_lex.specs.bytes.Scan.{start_of, header_len, taken, further}
use Rattle.idl_lex.specs.bytes.Text.{Placed, bytes_of}
use Rattle.idl_lex.specs.tokens.Tokens.{spelled, token_if, token_of, tokens_after}
use Rattle.idl_lex.specs.kinds.Word.{is_word}
use Rattle.idl_lex.specs.declared.bytes.context.Context.{Context}
use Rattle.idl_lex.specs.declared.bytes.state.Inside.TheVariants.{Word, Wide, Zero, Number, Dot, Literal, Slash, Mark, Whole}

-- a mark of two bytes, one of one byte before another, and one at the end
pub taken-pair : (a : ℕ) (bs : List ℕ) → 1 ≤ length bs → is_pair a (get_or bs 0 0) ≡ true → 1 ≡ taken (Mark a) bs
taken-pair a bs some e =
    let more = taken-more (Mark a) Whole bs 0 0 (omega (arith, some)) (ap (λ c. if c then Some Whole else None) e) in
    let none = taken-whole (drop 1 bs) in
    omega (arith, more, none)

pub taken-single : (a : ℕ) (bs : List ℕ) → 1 ≤ length bs → is_pair a (get_or bs 0 0) ≡ false → 0 ≡ taken (Mark a) bs
taken-single a bs some e =
    let stop = taken-stop (Mark a) bs 0 0 (omega (arith, some)) (ap (λ c. if c then Some Whole else None) e) in
    omega (arith, stop)

pub taken-last : (a : ℕ) (bs : List ℕ) → length bs < 1 → 0 ≡ taken (Mark a) bs
taken-last a bs none =
    let end = taken-end (Mark a) bs 0 (omega (arith, none)) in
    omega (arith, end)

-- a word goes on over a byte of words, and ends before another
pub taken-word-more : (bs : List ℕ) (i : ℕ) → i < length bs → is_word_byte (get_or bs i 0) ≡ true → taken Word (drop i bs) ≡ suc (taken Word (drop (i + 1) bs))
taken-word-more bs i lt e = taken-more Word Word bs i 0 lt (ap (λ c. if c then Some Word else None) e)

pub taken-word-stop : (bs : List ℕ) (i : ℕ) → i < length bs → is_word_byte (get_or bs i 0) ≡ false → taken Word (drop i bs) ≡ 0
taken-word-stop bs i lt e = taken-stop Word bs i 0 lt (ap (λ c. if c then Some Word else None) e)

-- ---- white space

white-cases : (b : ℕ) (blank : Bool) → nat_eq b 32 ≡ blank → (blank || (nat_le 9 b && nat_le b 13)) ≡ true → (b ≡ 32) ⊎ ((9 ≤ b) × (b ≤ 13))
white-cases b true e h = inl (eqb-true b 32 e)
white-cases b false e h = let sides = both (nat_le 9 b) (nat_le b 13) h in inr (leb-true 9 b sides.0, leb-true b 13 sides.1)

-- the white bytes
record White (P : ℕ → Type 0) : Type 0 where
  tab : P 9
  line_feed : P 10
  vertical : P 11
  form_feed : P 12
  return : P 13
  blank : P 32

one_of : (P : ℕ → Type 0) → White P → (b : ℕ) → is_space b ≡ true → P b
one_of P white b h = elim (white-cases b (nat_eq b 32) refl h) [
  | inl is ↦ subst P (sym is) white.blank
  | inr range ↦ among range.0 range.1
]
  where
    among : 9 ≤ b → b ≤ 13 → P b
    among low high =
        elim (eqb_tells b 9) [
          | inl is ↦ subst P (sym is.1) white.tab
          | inr no9 ↦ elim (eqb_tells b 10) [
            | inl is ↦ subst P (sym is.1) white.line_feed
            | inr no10 ↦ elim (eqb_tells b 11) [
              | inl is ↦ subst P (sym is.1) white.vertical
              | inr no11 ↦ elim (eqb_tells b 12) [
                | inl is ↦ subst P (sym is.1) white.form_feed
                | inr no12 ↦ subst P (sym (last no9.1 no10.1 no11.1 no12.1)) white.return
              ]
            ]
          ]
        ]
      where
        last : b ≢ 9 → b ≢ 10 → b ≢ 11 → b ≢ 12 → b ≡ 13
        last no9 no10 no11 no12 = omega (arith, low, high, no9, no10, no11, no12)

pub unpaired : (same equals : Bool) (bs : List ℕ) → ◌≡◌ {A = ℕ} (elim (if ((same && false) || (equals && false)) then Some Whole else None) [ None ↦ 0 | Some t ↦ suc (taken t bs) ]) 0
unpaired true true bs = refl
unpaired true false bs = refl
unpaired false true bs = refl
unpaired false false bs = refl

white-taken : (bs : List ℕ) → White (λ b. taken (start_of b) bs ≡ 0)
unfolding taken
white-taken [] = record { tab = refl; line_feed = refl; vertical = refl; form_feed = refl; return = refl; blank = refl }
white-taken (b ∷ bs) = record {
  tab = unpaired (nat_eq 9 b) (nat_eq b 61) bs;
  line_feed = unpaired (nat_eq 10 b) (nat_eq b 61) bs;
  vertical = unpaired (nat_eq 11 b) (nat_eq b 61) bs;
  form_feed = unpaired (nat_eq 12 b) (nat_eq b 61) bs;
  return = unpaired (nat_eq 13 b) (nat_eq b 61) bs;
  blank = unpaired (nat_eq 32 b) (nat_eq b 61) bs;
}

white-less : White (λ b. nat_eq b 60 ≡ false)
white-less = record { tab = refl; line_feed = refl; vertical = refl; form_feed = refl; return = refl; blank = refl }

white-slash : White (λ b. nat_eq b 47 ≡ false)
white-slash = record { tab = refl; line_feed = refl; vertical = refl; form_feed = refl; return = refl; blank = refl }

-- but for `<` the longest piece is the same on any line
pub further-plain : (includes : Bool) (b : ℕ) (bs : List ℕ) → nat_eq b 60 ≡ false → further includes b bs ≡ taken (start_of b) bs
further-plain includes b bs other =
    ap (λ x. if includes && x then (elim (header_len bs) [ None ↦ taken (start_of b) bs | Some n ↦ n ]) else taken (start_of b) bs) other
    ∙ kept includes
  where
    kept : (c : Bool) → (if c && false then (elim (header_len bs) [ None ↦ taken (start_of b) bs | Some n ↦ n ]) else taken (start_of b) bs) ≡ taken (start_of b) bs
    kept true = refl
    kept false = refl

-- a white byte is a piece of its own
pub further-white : (includes : Bool) (b : ℕ) (bs : List ℕ) → is_space b ≡ true → further includes b bs ≡ 0
further-white includes b bs space =
    further-plain includes b bs (one_of (λ b. nat_eq b 60 ≡ false) white-less b space) ∙ one_of (λ b. taken (start_of b) bs ≡ 0) (white-taken bs) b space

-- past a white byte
pub tokens_after-space : (c : Context) (line : List Placed) (i last_number : ℕ) (rest : List Placed) → i < length line → is_space (get_or (bytes_of line) i 0) ≡ true
    → tokens_after c 0 (drop i line ++ ended last_number rest)
    ≡ tokens_after (context_after c (get_or (bytes_of line) i 0 ∷ [])) 0 (drop (i + 1) line ++ ended last_number rest)
tokens_after-space c line i last_number rest lt space =
    let b = get_or (bytes_of line) i 0 in
    let bs = drop (i + 1) (bytes_of line) in
    let none : further (is_include c.beginning) b bs ≡ 0 = further-white (is_include c.beginning) b bs space in
    let is : EndsAt c line i (i + 1) = omega (arith, none) in
    let piece : piece_of line i (i + 1) ≡ b ∷ [] = piece_of-cons line i (i + 1) 0 lt (omega arith) in
    let closed : is_open (b ∷ []) ≡ false = ap (λ s. if s then opens [] else false) (one_of (λ b. nat_eq b 47 ≡ false) white-slash b space) in
    let gap : token_if c (b ∷ []) (line_at line i) ≡ [] = ap (λ s. if (if s then true else (if nat_eq b 47 then closes [] else false)) then [] else token_of c (spelled (b ∷ [])) (line_at line i) ∷ []) space in
    tokens_after-piece_of c line i (i + 1) last_number rest lt is (ap is_open piece ∙ closed)
    ∙ ap (λ bs. token_if c bs (line_at line i) ++ tokens_after (context_after c bs) 0 (drop (i + 1) line ++ ended last_number rest)) piece
    ∙ ap (λ ts. ts ++ tokens_after (context_after c (b ∷ [])) 0 (drop (i + 1) line ++ ended last_number rest)) gap

-- ---- words

begun : (l q w : Bool) → (if l && q then false else w) ≡ true → (w ≡ true) × (l && q ≡ false)
begun true true w h = absurd (false≢true h)
begun true false w h = (h, refl)
begun false q w h = (h, refl)

-- where a word begins there is no other piece
record Begins (b : ℕ) (bs : List ℕ) : Type 0 where
  start : is_word_start b ≡ true
  narrow : nat_eq b 76 && begins_quote bs ≡ false

begins : (b : ℕ) (bs : List ℕ) → begins_word (b ∷ bs) ≡ true → Begins b bs
begins b bs h = let parts = begun (nat_eq b 76) (begins_quote bs) (is_word_start b) h in record { start = parts.0; narrow = parts.1 }

other_byte : (b n : ℕ) → is_word_start b ≡ true → is_word_start n ≡ false → nat_eq b n ≡ false
other_byte b n start none = eq-false b n (λ e. false≢true (sym none ∙ sym (ap is_word_start e) ∙ start))

taken-wide : (bs : List ℕ) → begins_quote bs ≡ false → taken Wide bs ≡ taken Word bs
unfolding taken
taken-wide [] h = refl
taken-wide (c ∷ bs) h =
    ap (λ q. elim (if q then Some (Literal c false) else (if is_word_byte c then Some Word else None)) [ None ↦ 0 | Some t ↦ suc (taken t bs) ]) h

taken-either : (wide : Bool) (bs : List ℕ) → wide && begins_quote bs ≡ false → taken (if wide then Wide else Word) bs ≡ taken Word bs
taken-either true bs h = taken-wide bs h
taken-either false bs h = refl

further-word : (includes : Bool) (b : ℕ) (bs : List ℕ) → Begins b bs → further includes b bs ≡ taken Word bs
further-word includes b bs word =
    further-plain includes b bs (other_byte b 60 word.start refl)
    ∙ ap (λ w. taken (if w then (if nat_eq b 76 then Wide else Word) else (if nat_eq b 48 then Zero else (if is_digit b then Number false false else (if nat_eq b 46 then Dot else (if is_quote b then Literal b false else (if nat_eq b 47 then Slash else Mark b)))))) bs) word.start
    ∙ taken-either (nat_eq b 76) bs word.narrow

-- the piece where a word begins
pub record IsWordAt (c : Context) (line : List Placed) (i end : ℕ) : Type 0 where
  pub later : i < end
  pub within : end ≤ length line
  pub word : is_word (piece_of line i end) ≡ true
  pub token : (last_number : ℕ) (rest : List Placed) → tokens_after c 0 (drop i line ++ ended last_number rest)
      ≡ token_of c (piece_of line i end) (line_at line i) ∷ tokens_after (context_after c (piece_of line i end)) 0 (drop end line ++ ended last_number rest)

word-here : (c : Context) (line : List Placed) (i end n : ℕ) (b : ℕ) (bs : List ℕ) → i < length line → is_space b ≡ false → Begins b bs → n ≡ taken Word bs → n ≤ length bs
    → end ≡ i + 1 + n → EndsAt c line i end → i + 1 + length bs ≡ length line → piece_of line i end ≡ b ∷ take n bs → IsWordAt c line i end
word-here c line i end n b bs lt space word len fits at is all piece =
    let spelling = take n bs in
    let slash = other_byte b 47 word.start refl in
    let letters : list_all is_word_byte spelling ≡ true = sym (accepts-word spelling) ∙ ap (λ k. accepts Word (take k bs)) len ∙ accepts-taken Word bs in
    let closed : is_open (b ∷ spelling) ≡ false = ap (λ s. if s then opens spelling else false) slash in
    let gap : is_gap (b ∷ spelling) ≡ false = ap (λ s. if s then true else (if nat_eq b 47 then closes spelling else false)) space ∙ ap (λ s. if s then closes spelling else false) slash in
    let block : begins_block (b ∷ spelling) ≡ false = ap (λ s. s && begins_star spelling) slash in
    let one : token_if c (b ∷ spelling) (line_at line i) ≡ token_of c (b ∷ spelling) (line_at line i) ∷ [] =
    ap (λ g. if g then [] else token_of c (spelled (b ∷ spelling)) (line_at line i) ∷ []) gap
    ∙ ap (λ k. token_of c (if k then 47 ∷ 42 ∷ [] else (b ∷ spelling)) (line_at line i) ∷ []) block in
    record {
      later = omega (arith, at);
      within = omega (arith, at, fits, all);
      word = ap is_word piece ∙ ap (λ s. s && list_all is_word_byte spelling) word.start ∙ letters;
      token = λ last_number rest.
          tokens_after-piece_of c line i end last_number rest lt is (ap is_open piece ∙ closed)
          ∙ ap (λ ts. ts ++ tokens_after (context_after c (piece_of line i end)) 0 (drop end line ++ ended last_number rest))
          (ap (λ bs. token_if c bs (line_at line i)) piece ∙ one ∙ ap (λ bs. token_of c bs (line_at line i) ∷ []) (sym piece));
    }

pub IsWordAt-taken : (c : Context) (line : List Placed) (i end : ℕ) → i < length line → is_space (get_or (bytes_of line) i 0) ≡ false → begins_word (drop i (bytes_of line)) ≡ true
    → end ≡ i + taken Word (drop i (bytes_of line)) → IsWordAt c line i end
IsWordAt-taken c line i end lt space h is =
    let b = get_or (bytes_of line) i 0 in
    let bs = drop (i + 1) (bytes_of line) in
    let fits : i < length (bytes_of line) = omega (arith, lt, length-bytes_of line) in
    let here : drop i (bytes_of line) ≡ b ∷ bs = drop_more (bytes_of line) i 0 fits in
    let word = begins b bs (sym (ap begins_word here) ∙ h) in
    let n = taken Word bs in
    let more : taken Word (drop i (bytes_of line)) ≡ suc n = taken-word-more (bytes_of line) i fits (ap (λ w. w || is_digit b) word.start) in
    let at : end ≡ i + 1 + n = omega (arith, is, more) in
    let ends : EndsAt c line i end = at ∙ ap (λ k. i + 1 + k) (sym (further-word (is_include c.beginning) b bs word)) in
    let piece : piece_of line i end ≡ b ∷ take n bs = piece_of-cons line i end n lt at ∙ ap (λ xs. b ∷ take n xs) (bytes_of-drop (i + 1) line) in
    word-here c line i end n b bs lt space word refl (taken-le Word bs) at ends (omega (arith, fits, length-drop (i + 1) (bytes_of line), length-bytes_of line)) piece

pub IsWordAt-read : (c : Context) (line : List Placed) (bytes : List ℕ) (i len : ℕ) → bytes ≡ bytes_of line → i < length bytes → is_space (get_or bytes i 0) ≡ false
    → begins_word (take (length bytes - i) (drop i bytes)) ≡ true → len ≡ taken Word (take (length bytes - i) (drop i bytes)) → IsWordAt c line i (i + len)
IsWordAt-read c line bytes i len same lt space h is =
    IsWordAt-taken c line i (i + len) (omega (arith, lt, ap length same, length-bytes_of line))
    (sym (ap (λ bs. is_space (get_or bs i 0)) same) ∙ space)
    (sym (ap (λ bs. begins_word (drop i bs)) same) ∙ sym (ap begins_word (take_rest bytes i)) ∙ h)
    (ap (λ n. i + n) (is ∙ ap (taken Word) (take_rest bytes i) ∙ ap (λ bs. taken Word (drop i bs)) same))
