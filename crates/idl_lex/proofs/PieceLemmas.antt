-- The longest piece ends where no further byte can be taken.
use Rattle.std.proofs.Common.{◌≡◌, ◌≢◌, ◌∙◌, ℕ, zero, suc, ◌+◌, ◌<◌, ◌≤◌, inl, inr, nat_eq, Bool, true, false, not, ◌&&◌, ◌||◌, if◌then◌else◌, List, [], ◌∷◌, length, take, drop, get_or, Option, None, Some, refl, sym, ap, subst, arith}
use Rattle.std.proofs.lemmas.Bool.{cases_lt, eqb-true}
use Rattle.std.proofs.lemmas.List.{drop_more, drop_all}
use Rattle.std.specs.Prelude.{⊤}
use Rattle.std.specs.List.{list_all}
use Rattle.std.specs.Option.{option_map}
use Rattle.idl_source.proofs.IdlBase.Bools.{or-false, or-true}
use Rattle.idl_source.specs.texts.Line.{newline}
use Rattle.idl_lex.proofs.CountLemmas.{eq-true, eq-false, eq-suc}
use Rattle.idl_lex.specs.bytes.Byte.{is_digit, is_word_start, is_word_byte, is_quote, is_x, is_e, is_sign}
use Rattle.idl_lex.specs.bytes.Piece.{is_empty, number_rest, zero_rest, dot_rest, literal_rest, wide_rest, line_rest, block_rest, slash_rest, is_pair, mark_rest, begins, header_rest, is_piece, largest, longest}
use Rattle.idl_lex.specs.bytes.Scan.{start_of, number_step, step_of, taken, header_len, further}
use Rattle.idl_lex.specs.declared.bytes.state.Inside.{Inside}
use Rattle.idl_lex.specs.declared.bytes.state.Inside.TheVariants.{Word, Wide, Zero, Number, Dot, Literal, Slash, Line, Block, Mark, Whole}

-- the bytes are taken from a state on, all of them
abbrev pub accepts : Inside → List ℕ → Bool
accepts s [] = true
accepts s (b ∷ bs) = elim (step_of s b) [ None ↦ false | Some t ↦ accepts t bs ]

-- the largest number under a test that holds at it and at none above
pub largest-is : (passes : ℕ → Bool) (n k : ℕ) → k ≤ n → passes k ≡ true → ((j : ℕ) → k < j → j ≤ n → passes j ≡ false) → largest passes n ≡ k
largest-is passes zero k le passed failed = omega (arith, le)
largest-is passes (suc n) k le passed failed =
    elim (cases_lt k (suc n)) [
      | inl lt ↦ ap (λ b. if b then suc n else largest passes n) (failed (suc n) lt (omega arith))
          ∙ largest-is passes n k (omega arith) passed (λ j lo hi. failed j lo (omega arith))
      | inr ge ↦ let e : k ≡ suc n = omega arith in ap (λ b. if b then suc n else largest passes n) (ap passes (sym e) ∙ passed) ∙ sym e
    ]

taken-le-step : (o : Option Inside) (n : ℕ) (k : Inside → ℕ) → ((t : Inside) → k t ≤ n) → (elim o [ None ↦ 0 | Some t ↦ suc (k t) ]) ≤ suc n
taken-le-step None n k le = omega arith
taken-le-step (Some t) n k le = let h = le t in omega arith

pub taken-le : (s : Inside) (bs : List ℕ) → taken s bs ≤ length bs
unfolding taken
taken-le s [] = omega arith
taken-le s (b ∷ bs) = taken-le-step (step_of s b) (length bs) (λ t. taken t bs) (λ t. taken-le t bs)

-- the bytes that are taken are accepted
accepts-taken-step : (o : Option Inside) (bs : List ℕ) → ((t : Inside) → accepts t (take (taken t bs) bs) ≡ true) → (s : Inside) (b : ℕ) → step_of s b ≡ o →
    accepts s (take (elim o [ None ↦ 0 | Some t ↦ suc (taken t bs) ]) (b ∷ bs)) ≡ true
accepts-taken-step None bs ih s b e = refl
accepts-taken-step (Some t) bs ih s b e = ap (λ o. elim o [ None ↦ false | Some u ↦ accepts u (take (taken t bs) bs) ]) e ∙ ih t

pub accepts-taken : (s : Inside) (bs : List ℕ) → accepts s (take (taken s bs) bs) ≡ true
unfolding taken
accepts-taken s [] = refl
accepts-taken s (b ∷ bs) = accepts-taken-step (step_of s b) bs (λ t. accepts-taken t bs) s b refl

-- and no more are
accepts-more-step : (o : Option Inside) (bs : List ℕ) (j : ℕ) → ((t : Inside) → taken t bs < j → accepts t (take j bs) ≡ false) →
    (elim o [ None ↦ 0 | Some t ↦ suc (taken t bs) ]) < suc j → (elim o [ None ↦ false | Some u ↦ accepts u (take j bs) ]) ≡ false
accepts-more-step None bs j ih lt = refl
accepts-more-step (Some t) bs j ih lt = ih t (omega arith)

accepts-more : (s : Inside) (bs : List ℕ) (j : ℕ) → taken s bs < j → j ≤ length bs → accepts s (take j bs) ≡ false
unfolding taken
accepts-more s [] j lt le = absurd (omega arith)
accepts-more s (b ∷ bs) zero lt le = absurd (omega arith)
accepts-more s (b ∷ bs) (suc j) lt le = accepts-more-step (step_of s b) bs j (λ t h. accepts-more t bs j h (omega arith)) lt

-- a step under a test
when : (c : Bool) (t : Inside) (bs : List ℕ) → (elim (if c then Some t else None) [ None ↦ false | Some u ↦ accepts u bs ]) ≡ (c && accepts t bs)
when true t bs = refl
when false t bs = refl

accepts-whole : (bs : List ℕ) → accepts Whole bs ≡ is_empty bs
accepts-whole [] = refl
accepts-whole (b ∷ bs) = refl

pub accepts-word : (bs : List ℕ) → accepts Word bs ≡ list_all is_word_byte bs
accepts-word [] = refl
accepts-word (b ∷ bs) = when (is_word_byte b) Word bs ∙ ap (λ c. is_word_byte b && c) (accepts-word bs)

accepts-number : (hex after_e : Bool) (bs : List ℕ) → accepts (Number hex after_e) bs ≡ number_rest hex after_e bs
accepts-number hex after_e [] = refl
accepts-number hex after_e (b ∷ bs) =
    let c = is_word_byte b || nat_eq b 46 || (after_e && is_sign b) in
    when c (Number hex (is_e b && not hex)) bs ∙ ap (λ x. c && x) (accepts-number hex (is_e b && not hex) bs)

zero-cases : (c : Bool) (b : ℕ) (bs : List ℕ) →
    (elim (if c then Some (Number true false) else number_step false false b) [ None ↦ false | Some u ↦ accepts u bs ])
    ≡ (if c then number_rest true false bs else number_rest false false (b ∷ bs))
zero-cases true b bs = accepts-number true false bs
zero-cases false b bs = accepts-number false false (b ∷ bs)

accepts-zero : (bs : List ℕ) → accepts Zero bs ≡ zero_rest bs
accepts-zero [] = refl
accepts-zero (b ∷ bs) = zero-cases (is_x b) b bs

accepts-dot : (bs : List ℕ) → accepts Dot bs ≡ dot_rest bs
accepts-dot [] = refl
accepts-dot (b ∷ bs) = when (is_digit b) (Number false false) bs ∙ ap (λ x. is_digit b && x) (accepts-number false false bs)

literal-cases : (newline escaped closing backslash : Bool) (quote : ℕ) (bs : List ℕ) → ((e : Bool) → accepts (Literal quote e) bs ≡ literal_rest quote e bs) →
    (elim (if newline then None else (if escaped then Some (Literal quote false) else (if closing then Some Whole else Some (Literal quote backslash)))) [ None ↦ false | Some u ↦ accepts u bs ])
    ≡ (if newline then false else (if escaped then literal_rest quote false bs else (if closing then is_empty bs else literal_rest quote backslash bs)))
literal-cases true escaped closing backslash quote bs ih = refl
literal-cases false true closing backslash quote bs ih = ih false
literal-cases false false true backslash quote bs ih = accepts-whole bs
literal-cases false false false backslash quote bs ih = ih backslash

accepts-literal : (quote : ℕ) (escaped : Bool) (bs : List ℕ) → accepts (Literal quote escaped) bs ≡ literal_rest quote escaped bs
accepts-literal quote escaped [] = refl
accepts-literal quote escaped (b ∷ bs) = literal-cases (nat_eq b newline) escaped (nat_eq b quote) (nat_eq b 92) quote bs (λ e. accepts-literal quote e bs)

wide-cases : (quote word : Bool) (b : ℕ) (bs : List ℕ) →
    (elim (if quote then Some (Literal b false) else (if word then Some Word else None)) [ None ↦ false | Some u ↦ accepts u bs ])
    ≡ (if quote then literal_rest b false bs else (word && list_all is_word_byte bs))
wide-cases true word b bs = accepts-literal b false bs
wide-cases false true b bs = accepts-word bs
wide-cases false false b bs = refl

accepts-wide : (bs : List ℕ) → accepts Wide bs ≡ wide_rest bs
accepts-wide [] = refl
accepts-wide (b ∷ bs) = wide-cases (is_quote b) (is_word_byte b) b bs

line-cases : (newline : Bool) (bs : List ℕ) → accepts Line bs ≡ line_rest bs →
    (elim (if newline then None else Some Line) [ None ↦ false | Some u ↦ accepts u bs ]) ≡ (not newline && line_rest bs)
line-cases true bs ih = refl
line-cases false bs ih = ih

accepts-line : (bs : List ℕ) → accepts Line bs ≡ line_rest bs
accepts-line [] = refl
accepts-line (b ∷ bs) = line-cases (nat_eq b newline) bs (accepts-line bs)

block-cases : (ends star : Bool) (bs : List ℕ) → ((e : Bool) → accepts (Block e) bs ≡ block_rest e bs) →
    (elim (if ends then Some Whole else Some (Block star)) [ None ↦ false | Some u ↦ accepts u bs ]) ≡ (if ends then is_empty bs else block_rest star bs)
block-cases true star bs ih = accepts-whole bs
block-cases false star bs ih = ih star

accepts-block : (after_star : Bool) (bs : List ℕ) → accepts (Block after_star) bs ≡ block_rest after_star bs
accepts-block after_star [] = refl
accepts-block after_star (b ∷ bs) = block-cases (after_star && nat_eq b 47) (nat_eq b 42) bs (λ e. accepts-block e bs)

slash-cases : (line block : Bool) (bs : List ℕ) →
    (elim (if line then Some Line else (if block then Some (Block false) else None)) [ None ↦ false | Some u ↦ accepts u bs ])
    ≡ (if line then line_rest bs else (if block then block_rest false bs else false))
slash-cases true block bs = accepts-line bs
slash-cases false true bs = accepts-block false bs
slash-cases false false bs = refl

accepts-slash : (bs : List ℕ) → accepts Slash bs ≡ slash_rest bs
accepts-slash [] = refl
accepts-slash (b ∷ bs) = slash-cases (nat_eq b 47) (nat_eq b 42) bs

accepts-mark : (a : ℕ) (bs : List ℕ) → accepts (Mark a) bs ≡ mark_rest a bs
accepts-mark a [] = refl
accepts-mark a (b ∷ bs) = when (is_pair a b) Whole bs ∙ ap (λ x. is_pair a b && x) (accepts-whole bs)

start-cases : (word wide nought digit dot quote slash : Bool) (b : ℕ) (bs : List ℕ) →
    accepts (if word then (if wide then Wide else Word) else (if nought then Zero else (if digit then Number false false else (if dot then Dot else (if quote then Literal b false else (if slash then Slash else Mark b)))))) bs
    ≡ (if word then (if wide then wide_rest bs else list_all is_word_byte bs) else (if nought then zero_rest bs else (if digit then number_rest false false bs else (if dot then dot_rest bs else (if quote then literal_rest b false bs else (if slash then slash_rest bs else mark_rest b bs))))))
start-cases true true nought digit dot quote slash b bs = accepts-wide bs
start-cases true false nought digit dot quote slash b bs = accepts-word bs
start-cases false wide true digit dot quote slash b bs = accepts-zero bs
start-cases false wide false true dot quote slash b bs = accepts-number false false bs
start-cases false wide false false true quote slash b bs = accepts-dot bs
start-cases false wide false false false true slash b bs = accepts-literal b false bs
start-cases false wide false false false false true b bs = accepts-slash bs
start-cases false wide false false false false false b bs = accepts-mark b bs

-- the states accept the pieces
accepts-start_of : (b : ℕ) (bs : List ℕ) → accepts (start_of b) bs ≡ begins b bs
accepts-start_of b bs = start-cases (is_word_start b) (nat_eq b 76) (nat_eq b 48) (is_digit b) (nat_eq b 46) (is_quote b) (nat_eq b 47) b bs

begins-taken : (b : ℕ) (bs : List ℕ) → begins b (take (taken (start_of b) bs) bs) ≡ true
begins-taken b bs = sym (accepts-start_of b (take (taken (start_of b) bs) bs)) ∙ accepts-taken (start_of b) bs

begins-more : (b : ℕ) (bs : List ℕ) (j : ℕ) → taken (start_of b) bs < j → j ≤ length bs → begins b (take j bs) ≡ false
begins-more b bs j lt le = sym (accepts-start_of b (take j bs)) ∙ accepts-more (start_of b) bs j lt le

-- a length of this many bytes
abbrev pub is_len : Option ℕ → ℕ → Bool
is_len None n = false
is_len (Some m) n = nat_eq m n

is_len-nought : (newline greater : Bool) (o : Option ℕ) → is_len (if newline then None else (if greater then Some 1 else option_map (λ n. suc n) o)) 0 ≡ false
is_len-nought true greater o = refl
is_len-nought false true o = refl
is_len-nought false false None = refl
is_len-nought false false (Some m) = eq-false (suc m) 0 (λ e. omega (arith, e))

is_empty-take : (bs : List ℕ) (j : ℕ) → j ≤ length bs → is_empty (take j bs) ≡ nat_eq 1 (suc j)
is_empty-take bs zero le = refl
is_empty-take [] (suc j) le = absurd (omega arith)
is_empty-take (b ∷ bs) (suc j) le = sym (eq-false 1 (suc (suc j)) (λ e. omega (arith, e)))

is_len-more : (newline greater : Bool) (o : Option ℕ) (j : ℕ) (bs : List ℕ) → j ≤ length bs → header_rest (take j bs) ≡ is_len o j
    → (if newline then false else (if greater then is_empty (take j bs) else header_rest (take j bs)))
    ≡ is_len (if newline then None else (if greater then Some 1 else option_map (λ n. suc n) o)) (suc j)
is_len-more true greater o j bs le ih = refl
is_len-more false true o j bs le ih = is_empty-take bs j le
is_len-more false false None j bs le ih = ih
is_len-more false false (Some m) j bs le ih = ih ∙ sym (eq-suc m j)

-- an included file's name ends where its length says, and no other front is one
header_rest-take : (bs : List ℕ) (j : ℕ) → j ≤ length bs → header_rest (take j bs) ≡ is_len (header_len bs) j
unfolding header_len
header_rest-take [] j le = header_rest-nil j
  where
    header_rest-nil : (j : ℕ) → header_rest (take j []) ≡ false
    header_rest-nil zero = refl
    header_rest-nil (suc j) = refl
header_rest-take (b ∷ bs) zero le = sym (is_len-nought (nat_eq b newline) (nat_eq b 62) (header_len bs))
header_rest-take (b ∷ bs) (suc j) le =
    is_len-more (nat_eq b newline) (nat_eq b 62) (header_len bs) j bs (omega arith) (header_rest-take bs j (omega arith))

-- it has at least the `>`, and ends within the text
abbrev IsWithin : Option ℕ → ℕ → Type 0
IsWithin None n = ⊤
IsWithin (Some m) n = (0 < m) × (m ≤ n)

within-more : (newline greater : Bool) (o : Option ℕ) (n : ℕ) → IsWithin o n → IsWithin (if newline then None else (if greater then Some 1 else option_map (λ n. suc n) o)) (suc n)
within-more true greater o n h = tt {0}
within-more false true o n h = (omega arith, omega arith)
within-more false false None n h = tt {0}
within-more false false (Some m) n h = let le = h.1 in (omega arith, omega arith)

header_len-within : (bs : List ℕ) → IsWithin (header_len bs) (length bs)
unfolding header_len
header_len-within [] = tt {0}
header_len-within (b ∷ bs) = within-more (nat_eq b newline) (nat_eq b 62) (header_len bs) (length bs) (header_len-within bs)

pub taken-whole : (bs : List ℕ) → taken Whole bs ≡ 0
unfolding taken
taken-whole [] = refl
taken-whole (b ∷ bs) = refl

-- a mark has two bytes at most
taken-mark : (a : ℕ) (bs : List ℕ) → taken (Mark a) bs ≤ 1
unfolding taken
taken-mark a [] = omega arith
taken-mark a (b ∷ bs) = taken-pair (is_pair a b) bs
  where
    taken-pair : (c : Bool) (bs : List ℕ) → (elim (if c then Some Whole else None) [ None ↦ 0 | Some t ↦ suc (taken t bs) ]) ≤ 1
    taken-pair true bs = let e = taken-whole bs in omega (arith, e)
    taken-pair false bs = omega arith

-- `<` alone may begin an included file's name
abbrev names : Bool → ℕ → Bool
names includes b = includes && nat_eq b 60

names-less : (includes : Bool) (b : ℕ) → names includes b ≡ true → b ≡ 60
names-less true b e = eqb-true b 60 e
names-less false b e = cc

-- how the longest piece is found
record Ends (c : Bool) (b : ℕ) (bs : List ℕ) (k : ℕ) : Type 0 where
  within : k ≤ length bs
  is : (begins b (take k bs) || (c && header_rest (take k bs))) ≡ true
  no_longer : (j : ℕ) → k < j → j ≤ length bs → (begins b (take j bs) || (c && header_rest (take j bs))) ≡ false

nat_eq-same : (n : ℕ) → nat_eq n n ≡ true
nat_eq-same n = eq-true n n refl

less_is_other : (m j : ℕ) → m < j → nat_eq m j ≡ false
less_is_other m j lt = eq-false m j (λ e. omega (arith, e, lt))

Ends-other : (b : ℕ) (bs : List ℕ) → Ends false b bs (taken (start_of b) bs)
Ends-other b bs = record {
  within = taken-le (start_of b) bs;
  is = or-false _ ∙ begins-taken b bs;
  no_longer = λ j lt le. or-false _ ∙ begins-more b bs j lt le;
}

Ends-named : (o : Option ℕ) (b : ℕ) (bs : List ℕ) → b ≡ 60 → header_len bs ≡ o → IsWithin o (length bs) → Ends true b bs (elim o [ None ↦ taken (start_of b) bs | Some n ↦ n ])
Ends-named None b bs e o h = record {
  within = taken-le (start_of b) bs;
  is = ap (λ x. x || header_rest (take (taken (start_of b) bs) bs)) (begins-taken b bs);
  no_longer = λ j lt le. ap (λ x. begins b (take j bs) || x) (header_rest-take bs j le ∙ ap (λ n. is_len n j) o) ∙ or-false _ ∙ begins-more b bs j lt le;
}
Ends-named (Some n) b bs e o h =
    let mark : taken (start_of b) bs ≤ 1 = subst (λ a. taken (start_of a) bs ≤ 1) (sym e) (taken-mark 60 bs) in
    let some = h.0 in
    record {
      within = h.1;
      is = ap (λ x. begins b (take n bs) || x) (header_rest-take bs n h.1 ∙ ap (λ m. is_len m n) o ∙ nat_eq-same n) ∙ or-true _;
      no_longer = λ j lt le. ap (λ x. begins b (take j bs) || x) (header_rest-take bs j le ∙ ap (λ m. is_len m j) o ∙ less_is_other n j lt)
          ∙ or-false _ ∙ begins-more b bs j (omega arith) le;
    }

Ends-cases : (c includes : Bool) (b : ℕ) (bs : List ℕ) → names includes b ≡ c
    → Ends c b bs (if c then (elim (header_len bs) [ None ↦ taken (start_of b) bs | Some n ↦ n ]) else taken (start_of b) bs)
Ends-cases true includes b bs e = Ends-named (header_len bs) b bs (names-less includes b e) refl (header_len-within bs)
Ends-cases false includes b bs e = Ends-other b bs

Ends-further : (includes : Bool) (b : ℕ) (bs : List ℕ) → Ends (names includes b) b bs (further includes b bs)
Ends-further includes b bs = Ends-cases (names includes b) includes b bs refl

pub longer-fails : (includes : Bool) (b : ℕ) (bs : List ℕ) (j : ℕ) → suc (further includes b bs) < j → j ≤ suc (length bs) → is_piece includes (take j (b ∷ bs)) ≡ false
longer-fails includes b bs zero lt le = absurd (omega arith)
longer-fails includes b bs (suc j) lt le = (Ends-further includes b bs).no_longer j (omega arith) (omega arith)

-- the longest piece of a text
pub longest-further : (includes : Bool) (b : ℕ) (bs : List ℕ) → longest (is_piece includes) (b ∷ bs) ≡ suc (further includes b bs)
unfolding longest
longest-further includes b bs =
    let ends = Ends-further includes b bs in
    let le = ends.within in
    largest-is (λ k. is_piece includes (take k (b ∷ bs))) (suc (length bs)) (suc (further includes b bs)) (omega arith) ends.is (longer-fails includes b bs)

pub further-within : (includes : Bool) (b : ℕ) (bs : List ℕ) → further includes b bs ≤ length bs
further-within includes b bs = (Ends-further includes b bs).within

pub is_piece-further : (includes : Bool) (b : ℕ) (bs : List ℕ) → is_piece includes (b ∷ take (further includes b bs) bs) ≡ true
is_piece-further includes b bs = (Ends-further includes b bs).is

-- one byte more, none more, and the text's end
pub taken-more : (s t : Inside) (bs : List ℕ) (i d : ℕ) → i < length bs → step_of s (get_or bs i d) ≡ Some t → taken s (drop i bs) ≡ suc (taken t (drop (i + 1) bs))
unfolding taken
taken-more s t bs i d lt e = ap (taken s) (drop_more bs i d lt) ∙ ap (λ o. elim o [ None ↦ 0 | Some u ↦ suc (taken u (drop (i + 1) bs)) ]) e

pub taken-stop : (s : Inside) (bs : List ℕ) (i d : ℕ) → i < length bs → step_of s (get_or bs i d) ≡ None → taken s (drop i bs) ≡ 0
unfolding taken
taken-stop s bs i d lt e = ap (taken s) (drop_more bs i d lt) ∙ ap (λ o. elim o [ None ↦ 0 | Some u ↦ suc (taken u (drop (i + 1) bs)) ]) e

pub taken-end : (s : Inside) (bs : List ℕ) (i : ℕ) → length bs ≤ i → taken s (drop i bs) ≡ 0
unfolding taken
taken-end s bs i le = ap (taken s) (drop_all i bs le)

-- an included file's name, byte by byte
pub header_len-newline : (bs : List ℕ) (i : ℕ) → i < length bs → get_or bs i 0 ≡ newline → header_len (drop i bs) ≡ None
unfolding header_len
header_len-newline bs i lt e =
    ap header_len (drop_more bs i 0 lt)
    ∙ ap (λ b. if nat_eq b newline then None else (if nat_eq b 62 then Some 1 else option_map (λ n. suc n) (header_len (drop (i + 1) bs)))) e

pub header_len-greater : (bs : List ℕ) (i : ℕ) → i < length bs → get_or bs i 0 ≡ 62 → header_len (drop i bs) ≡ Some 1
unfolding header_len
header_len-greater bs i lt e =
    ap header_len (drop_more bs i 0 lt)
    ∙ ap (λ b. if nat_eq b newline then None else (if nat_eq b 62 then Some 1 else option_map (λ n. suc n) (header_len (drop (i + 1) bs)))) e

pub header_len-next : (bs : List ℕ) (i : ℕ) → i < length bs → get_or bs i 0 ≢ newline → get_or bs i 0 ≢ 62
    → header_len (drop i bs) ≡ option_map (λ n. suc n) (header_len (drop (i + 1) bs))
unfolding header_len
header_len-next bs i lt other greater =
    let b = get_or bs i 0 in
    let rest = option_map (λ n. suc n) (header_len (drop (i + 1) bs)) in
    ap header_len (drop_more bs i 0 lt)
    ∙ ap (λ c. if c then None else (if nat_eq b 62 then Some 1 else rest)) (eq-false b newline other)
    ∙ ap (λ c. if c then Some 1 else rest) (eq-false b 62 greater)

pub header_len-end : (bs : List ℕ) (i : ℕ) → length bs ≤ i → header_len (drop i bs) ≡ None
unfolding header_len
header_len-end bs i le = ap header_len (drop_all i bs le)
