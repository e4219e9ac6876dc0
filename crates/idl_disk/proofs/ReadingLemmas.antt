-- Bytes of a file that are past its limits, and how much they are of it.
use Rattle.std.proofs.Common.{◌≡◌, ◌≢◌, ◌≤◌, ◌<◌, ◌+◌, ◌-◌, ◌++◌, ◌∷◌, ◌==◌, ◌&&◌, ◌||◌, ◌⊎◌, ◌∙◌, [], ℕ, suc, Bool, true, false, ltb, true≢false, ◌↔◌, List, length, Option, Some, None, IfSome, take, refl, sym, ap, subst, inl, inr, arith, append_assoc, append-nil}
use Rattle.std.specs.Prelude.{if◌then◌else◌, nat_lt}
use Rattle.std.specs.List.{All}
use Rattle.std.proofs.lemmas.Bool.{cases_Bool, cond-true, cond-false, lt-ltb, ltb-false, ltb-true, ne_eqb}
use Rattle.std.proofs.lemmas.List.{length-append, length-take, take_all, take-append-le, take-take}
use Rattle.std.proofs.Math.Seq.{take-append-add}
use Rattle.std.specs.Io.KnownBytes.{Consumes, IsAtEnd}
use Rattle.std.proofs.lemmas.List.Elements.{All-append, All-cons, All-head, All-nil, All-tail}
use Rattle.idl_source.specs.texts.Cut.{begun_with, cut_lines, is_at_newline}
use Rattle.idl_disk.specs.Extent.{Measures, ends_in_return, has_begun, without_return}
use Rattle.idl_disk.specs.Reading.{AreAllowed, ArePastLimits, AreUpToLimits, IsTextOf, without_mark}
use Rattle.idl_disk.specs.declared.reading.Extent.{Extent}

-- what the bytes are cut into where the first is no newline
cut-begun : (b : ℕ) (r : List ℕ) → b ≢ 10
    → cut_lines (b ∷ r) ≡ if b == 13 && is_at_newline r then cut_lines r else begun_with b (cut_lines r)
cut-begun b r other =
    ap (λ t. if t then [] ∷ cut_lines r else if b == 13 && is_at_newline r then cut_lines r else begun_with b (cut_lines r)) (ne_eqb b 10 other)

and-false : (t : Bool) → (t && false) ≡ false
and-false true = refl
and-false false = refl

-- the same where the second is no newline, either
cut-more : (b c : ℕ) (r : List ℕ) → b ≢ 10 → c ≢ 10 → cut_lines (b ∷ c ∷ r) ≡ begun_with b (cut_lines (c ∷ r))
cut-more b c r other next =
    cut-begun b (c ∷ r) other
    ∙ ap (λ t. if t then cut_lines (c ∷ r) else begun_with b (cut_lines (c ∷ r))) (ap (λ t. b == 13 && t) (ne_eqb c 10 next) ∙ and-false (b == 13))

one-ended : (t : Bool) (b : ℕ) (lines : List (List ℕ))
    → (if t && true then [] ∷ lines else begun_with b ([] ∷ lines)) ≡ (if t then [] else b ∷ []) ∷ lines
one-ended true b lines = refl
one-ended false b lines = refl

-- a line ends at the newline behind it
cut-ended : (last rest : List ℕ) → All (λ b. b ≢ 10) last → cut_lines (last ++ 10 ∷ rest) ≡ without_return last ∷ cut_lines rest
cut-ended [] rest free = refl
cut-ended (b ∷ []) rest free = cut-begun b (10 ∷ rest) (All-head (λ b. b ≢ 10) b [] free) ∙ one-ended (b == 13) b (cut_lines rest)
cut-ended (b ∷ c ∷ bs) rest free =
    let behind = All-tail (λ b. b ≢ 10) b (c ∷ bs) free in
    cut-more b c (bs ++ 10 ∷ rest) (All-head (λ b. b ≢ 10) b (c ∷ bs) free) (All-head (λ b. b ≢ 10) c bs behind)
    ∙ ap (begun_with b) (cut-ended (c ∷ bs) rest behind)

-- one more than the bytes of the first of these lines; zero where there is none
first_length : List (List ℕ) → ℕ
first_length [] = 0
first_length (line ∷ lines) = suc (length line)

begun-longer : (b : ℕ) (lines : List (List ℕ)) → suc (first_length lines) ≤ first_length (begun_with b lines)
unfolding first_length
begun-longer b [] = omega arith
begun-longer b (line ∷ lines) = omega arith

begun-two : (b : ℕ) (lines : List (List ℕ)) → 1 < first_length (begun_with b lines)
unfolding first_length
begun-two b [] = omega arith
begun-two b (line ∷ lines) = omega arith

either-some : (t : Bool) (b : ℕ) (rest : List ℕ) → is_at_newline rest ≡ t
    → 0 < first_length (if t then cut_lines rest else begun_with b (cut_lines rest))
unfolding first_length
either-some false b rest at = omega (arith, begun-two b (cut_lines rest))
either-some true b [] at = absurd (true≢false (sym at))
either-some true b (r ∷ rs) at =
    subst (λ lines. 0 < first_length lines)
    (sym (ap (λ t. if t then [] ∷ cut_lines rs else if r == 13 && is_at_newline rs then cut_lines rs else begun_with r (cut_lines rs)) at))
    (omega arith)

one-open : (t : Bool) (b : ℕ) (rest : List ℕ)
    → length (if t then [] else b ∷ []) < first_length (if t && is_at_newline rest then cut_lines rest else begun_with b (cut_lines rest))
one-open true b rest = either-some (is_at_newline rest) b rest refl
one-open false b rest = begun-two b (cut_lines rest)

-- the bytes behind the last newline begin a line that is as long, whatever comes behind them
cut-open : (last rest : List ℕ) → All (λ b. b ≢ 10) last → 0 < length last
    → length (without_return last) < first_length (cut_lines (last ++ rest))
cut-open [] rest free some = absurd (omega (arith, some))
cut-open (b ∷ []) rest free some =
    subst (λ lines. length (without_return (b ∷ [])) < first_length lines) (sym (cut-begun b rest (All-head (λ b. b ≢ 10) b [] free)))
    (one-open (b == 13) b rest)
cut-open (b ∷ c ∷ bs) rest free some =
    let behind = All-tail (λ b. b ≢ 10) b (c ∷ bs) free in
    subst (λ lines. length (without_return (b ∷ c ∷ bs)) < first_length lines)
    (sym (cut-more b c (bs ++ rest) (All-head (λ b. b ≢ 10) b (c ∷ bs) free) (All-head (λ b. b ≢ 10) c bs behind)))
    (omega (arith, cut-open (c ∷ bs) rest behind (omega arith), begun-longer b (cut_lines ((c ∷ bs) ++ rest))))

All-behind : (P : List ℕ → Type 0) (xs ys : List (List ℕ)) → All P (xs ++ ys) → All P ys
All-behind P [] ys all = all
All-behind P (x ∷ xs) ys all = All-behind P xs ys (All-tail P x (xs ++ ys) all)

first-within : (n : ℕ) (lines : List (List ℕ)) → All (λ line. length line ≤ n) lines → first_length lines ≤ suc n
unfolding first_length
first-within n [] all = omega arith
first-within n (line ∷ lines) all = omega (arith, All-head (λ line. length line ≤ n) line lines all)

first-some : (lines : List (List ℕ)) → 0 < first_length lines → 0 < length lines
unfolding first_length
first-some [] some = some
first-some (line ∷ lines) some = omega arith

without_return-within : (last : List ℕ) → length (without_return last) ≤ length last
without_return-within [] = omega arith
without_return-within (b ∷ []) = at (b == 13)
  where
    at : (t : Bool) → length (if t then [] else b ∷ []) ≤ length (b ∷ [])
    at true = omega arith
    at false = omega arith
without_return-within (b ∷ c ∷ bs) = omega (arith, without_return-within (c ∷ bs))

-- the lines of the bytes, with others behind them
cut-whole : (bytes ended last rest : List ℕ) → bytes ≡ ended ++ last
    → ((rest : List ℕ) → cut_lines (ended ++ rest) ≡ cut_lines ended ++ cut_lines rest)
    → cut_lines (bytes ++ rest) ≡ cut_lines ended ++ cut_lines (last ++ rest)
cut-whole bytes ended last rest whole cut =
    ap cut_lines (ap (λ b. b ++ rest) whole ∙ append_assoc ended last rest) ∙ cut (last ++ rest)

-- a line that didn't end is too long already
pub past-long : (bytes : List ℕ) (e : Extent) → Measures bytes e → 4096 < e.bytes → ArePastLimits bytes
past-long bytes e m long rest allowed =
    let lines = cut_lines (m.last ++ rest) in
    let short = subst (All (λ line. length line ≤ 4096)) (cut-whole bytes m.ended m.last rest m.whole m.cut) allowed.1 in
    omega (
      arith,
      m.line,
      long,
      without_return-within m.last,
      cut-open m.last rest m.is_line (omega (arith, m.line, long, without_return-within m.last)),
      first-within 4096 lines (All-behind (λ line. length line ≤ 4096) (cut_lines m.ended) lines short),
    )

-- how many lines they are
abbrev line_count : Extent → ℕ
line_count e = if has_begun e then e.lines + 1 else e.lines

count-none : (e : Extent) → e.bytes ≡ 0 → e.has_return ≡ false → line_count e ≡ e.lines
count-none e none return = ap (λ t. if t then e.lines + 1 else e.lines) (ap (λ n. nat_lt 0 n || e.has_return) none ∙ ap (λ t. nat_lt 0 0 || t) return)

count-within : (e : Extent) → (line_count e ≤ e.lines + 1) × (e.lines ≤ line_count e)
count-within e = at (nat_lt 0 e.bytes || e.has_return)
  where
    at : (t : Bool) → ((if t then e.lines + 1 else e.lines) ≤ e.lines + 1) × (e.lines ≤ (if t then e.lines + 1 else e.lines))
    at true = (omega arith, omega arith)
    at false = (omega arith, omega arith)

some-last : (b : ℕ) (bs : List ℕ) → (nat_lt 0 (length (without_return (b ∷ bs))) || ends_in_return (b ∷ bs)) ≡ true
some-last b [] = at (b == 13)
  where
    at : (t : Bool) → (nat_lt 0 (length (if t then [] else b ∷ [])) || t) ≡ true
    at true = refl
    at false = refl
some-last b (c ∷ bs) = ap (λ t. t || ends_in_return (c ∷ bs)) (lt-ltb 0 (length (b ∷ without_return (c ∷ bs))) (omega arith))

count-some : (b : ℕ) (bs : List ℕ) (e : Extent) → length (without_return (b ∷ bs)) ≡ e.bytes → ends_in_return (b ∷ bs) ≡ e.has_return → line_count e ≡ e.lines + 1
count-some b bs e size return =
    ap (λ t. if t then e.lines + 1 else e.lines) (ap (λ n. nat_lt 0 n || e.has_return) (sym size) ∙ ap (λ t. nat_lt 0 (length (without_return (b ∷ bs))) || t) (sym return) ∙ some-last b bs)

-- so many lines are there at least, whatever comes behind
count-least : (last rest : List ℕ) (e : Extent) → All (λ b. b ≢ 10) last → length (without_return last) ≡ e.bytes → ends_in_return last ≡ e.has_return
    → line_count e ≤ e.lines + length (cut_lines (last ++ rest))
count-least [] rest e free size return = omega (arith, count-none e (sym size) (sym return))
count-least (b ∷ bs) rest e free size return =
    omega (
      arith,
      count-some b bs e size return,
      first-some (cut_lines ((b ∷ bs) ++ rest)) (omega (arith, cut-open (b ∷ bs) rest free (omega arith))),
    )

-- there are too many lines already
past-many : (bytes : List ℕ) (e : Extent) → Measures bytes e → 200000 < line_count e → ArePastLimits bytes
past-many bytes e m many rest allowed =
    let lines = cut_lines (m.last ++ rest) in
    omega (
      arith,
      many,
      allowed.0,
      m.lines,
      ap length (cut-whole bytes m.ended m.last rest m.whole m.cut),
      length-append (cut_lines m.ended) lines,
      count-least m.last rest e m.is_line m.line m.return,
    )

allowed-at : (bytes rest : List ℕ) (lines : List (List ℕ)) → ArePastLimits bytes → cut_lines (bytes ++ rest) ≡ lines → AreAllowed lines → ⊥
allowed-at bytes rest lines past is allowed = past rest (subst AreAllowed (sym is) allowed)

-- a file goes on so that it is within the limits
within-at : (bytes ended last : List ℕ) (e : Extent) → bytes ≡ ended ++ last
    → ((rest : List ℕ) → cut_lines (ended ++ rest) ≡ cut_lines ended ++ cut_lines rest)
    → length (cut_lines ended) ≡ e.lines → All (λ line. length line ≤ 4096) (cut_lines ended)
    → All (λ b. b ≢ 10) last → length (without_return last) ≡ e.bytes → ends_in_return last ≡ e.has_return
    → e.bytes ≤ 4096 → line_count e ≤ 200000 → ArePastLimits bytes → ⊥
within-at bytes ended [] e whole cut lines short free size return long many past =
    allowed-at bytes [] (cut_lines ended) past (cut-whole bytes ended [] [] whole cut ∙ append-nil (cut_lines ended))
    (omega (arith, lines, many, (count-within e).1), short)
within-at bytes ended (b ∷ bs) e whole cut lines short free size return long many past =
    let line = without_return (b ∷ bs) in
    allowed-at bytes (10 ∷ []) (cut_lines ended ++ line ∷ []) past
    (cut-whole bytes ended (b ∷ bs) (10 ∷ []) whole cut ∙ ap (λ ls. cut_lines ended ++ ls) (cut-ended (b ∷ bs) [] free)) (
      omega (arith, lines, many, count-some b bs e size return, length-append (cut_lines ended) (line ∷ [])),
      All-append (λ line. length line ≤ 4096) (cut_lines ended) (line ∷ []) short
          (All-cons (λ line. length line ≤ 4096) line [] (omega (arith, size, long)) (All-nil (λ line. length line ≤ 4096))),
    )

within : (bytes : List ℕ) (e : Extent) → Measures bytes e → e.bytes ≤ 4096 → line_count e ≤ 200000 → ArePastLimits bytes → ⊥
within bytes e m long many past = within-at bytes m.ended m.last e m.whole m.cut m.lines m.short m.is_line m.line m.return long many past

line_count-at : (e : Extent) (t : Bool) → has_begun e ≡ t → line_count e ≡ if t then e.lines + 1 else e.lines
line_count-at e t is = ap (λ t. if t then e.lines + 1 else e.lines) is

-- where a line didn't end, and where all did, they are past the limits just where there are too many, or one is too long
pub over-begun : (bytes : List ℕ) (e : Extent) → Measures bytes e → has_begun e ≡ true → e.bytes ≤ 4096 → (200000 ≤ e.lines) ↔ ArePastLimits bytes
over-begun bytes e m begun short = (
  λ many. past-many bytes e m (omega (arith, many, line_count-at e true begun)),
  λ past. decide (cases_Bool (ltb e.lines 200000)) past,
)
  where
    decide : (ltb e.lines 200000 ≡ true) ⊎ (ltb e.lines 200000 ≡ false) → ArePastLimits bytes → 200000 ≤ e.lines
    decide (inl few) past = absurd (within bytes e m short (omega (arith, ltb-true e.lines 200000 few, line_count-at e true begun)) past)
    decide (inr many) past = ltb-false e.lines 200000 many

pub over-ended : (bytes : List ℕ) (e : Extent) → Measures bytes e → has_begun e ≡ false → e.bytes ≤ 4096 → (200000 < e.lines) ↔ ArePastLimits bytes
over-ended bytes e m begun short = (
  λ many. past-many bytes e m (omega (arith, many, line_count-at e false begun)),
  λ past. decide (cases_Bool (ltb e.lines 200001)) past,
)
  where
    decide : (ltb e.lines 200001 ≡ true) ⊎ (ltb e.lines 200001 ≡ false) → ArePastLimits bytes → 200000 < e.lines
    decide (inl few) past = absurd (within bytes e m short (omega (arith, ltb-true e.lines 200001 few, line_count-at e false begun)) past)
    decide (inr many) past = omega (arith, ltb-false e.lines 200001 many)

-- a newline ends the last line
pub measured-newline : (bytes : List ℕ) (e after : Extent) (byte : ℕ) → Measures bytes e → e.bytes ≤ 4096 → byte ≡ 10
    → after.lines ≡ e.lines + 1 → after.bytes ≡ 0 → after.has_return ≡ false → Measures (bytes ++ byte ∷ []) after
measured-newline bytes e after byte m long is lines none return =
    let line = without_return m.last in
    let at : (rest : List ℕ) → cut_lines ((bytes ++ byte ∷ []) ++ rest) ≡ cut_lines m.ended ++ (line ∷ cut_lines rest) =
    (λ rest. ap cut_lines (append_assoc bytes (byte ∷ []) rest ∙ ap (λ b. bytes ++ b ∷ rest) is)
    ∙ cut-whole bytes m.ended m.last (10 ∷ rest) m.whole m.cut
    ∙ ap (λ ls. cut_lines m.ended ++ ls) (cut-ended m.last rest m.is_line)) in
    let alone : cut_lines (bytes ++ byte ∷ []) ≡ cut_lines m.ended ++ (line ∷ []) = ap cut_lines (sym (append-nil (bytes ++ byte ∷ []))) ∙ at [] in
    record {
      ended = bytes ++ byte ∷ [];
      last = [];
      whole = sym (append-nil (bytes ++ byte ∷ []));
      cut = λ rest. at rest ∙ sym (append_assoc (cut_lines m.ended) (line ∷ []) (cut_lines rest)) ∙ ap (λ ls. ls ++ cut_lines rest) (sym alone);
      lines = ap length alone ∙ length-append (cut_lines m.ended) (line ∷ []) ∙ ap (λ n. n + 1) m.lines ∙ sym lines;
      short = subst (All (λ line. length line ≤ 4096)) (sym alone)
          (All-append (λ line. length line ≤ 4096) (cut_lines m.ended) (line ∷ []) m.short
          (All-cons (λ line. length line ≤ 4096) line [] (omega (arith, m.line, long)) (All-nil (λ line. length line ≤ 4096))));
      is_line = All-nil (λ b. b ≢ 10);
      line = sym none;
      return = sym return;
    }

-- a byte more is one of the line's but where it is a carriage return at the end; one before it is one of them then
without_return-push : (last : List ℕ) (b : ℕ) → length (without_return (last ++ b ∷ [])) ≡ length (without_return last) + ((if ends_in_return last then 1 else 0) + (if b == 13 then 0 else 1))
without_return-push [] b = at (b == 13)
  where
    at : (t : Bool) → length (if t then [] else b ∷ []) ≡ 0 + (0 + (if t then 0 else 1))
    at true = refl
    at false = refl
without_return-push (c ∷ []) b = at (c == 13) (b == 13)
  where
    at : (s t : Bool) → length (c ∷ (if t then [] else b ∷ [])) ≡ length (if s then [] else c ∷ []) + ((if s then 1 else 0) + (if t then 0 else 1))
    at true true = refl
    at true false = refl
    at false true = refl
    at false false = refl
without_return-push (c ∷ d ∷ bs) b = omega (arith, without_return-push (d ∷ bs) b)

ends_in_return-push : (last : List ℕ) (b : ℕ) → ends_in_return (last ++ b ∷ []) ≡ (b == 13)
ends_in_return-push [] b = refl
ends_in_return-push (c ∷ []) b = refl
ends_in_return-push (c ∷ d ∷ bs) b = ends_in_return-push (d ∷ bs) b

-- another byte goes on with it
pub measured-other : (bytes : List ℕ) (e after : Extent) (byte : ℕ) → Measures bytes e → byte ≢ 10
    → after.lines ≡ e.lines → after.bytes ≡ e.bytes + ((if e.has_return then 1 else 0) + (if byte == 13 then 0 else 1)) → after.has_return ≡ (byte == 13)
    → Measures (bytes ++ byte ∷ []) after
measured-other bytes e after byte m other lines size return =
    record {
      ended = m.ended;
      last = m.last ++ byte ∷ [];
      whole = ap (λ b. b ++ byte ∷ []) m.whole ∙ append_assoc m.ended m.last (byte ∷ []);
      cut = m.cut;
      lines = m.lines ∙ sym lines;
      short = m.short;
      is_line = All-append (λ b. b ≢ 10) m.last (byte ∷ []) m.is_line (All-cons (λ b. b ≢ 10) byte [] other (All-nil (λ b. b ≢ 10)));
      line =
          without_return-push m.last byte
          ∙ ap (λ n. n + ((if ends_in_return m.last then 1 else 0) + (if byte == 13 then 0 else 1))) m.line
          ∙ ap (λ t. e.bytes + ((if t then 1 else 0) + (if byte == 13 then 0 else 1))) m.return
          ∙ sym size;
      return = ends_in_return-push m.last byte ∙ sym return;
    }

-- so many bytes of a line there are with a byte more, where there was a carriage return, and where there was none
pub size-more : (had : Bool) (n bytes byte is : ℕ) → ((had ≡ true) × (n ≡ bytes + 1)) ⊎ ((had ≡ false) × (n ≡ bytes))
    → is ≡ (if byte == 13 then 0 else 1) → n + is ≡ bytes + ((if had then 1 else 0) + (if byte == 13 then 0 else 1))
size-more had n bytes byte is (inl (had_one, more)) at =
    let one : ◌≡◌ {A = ℕ} (if had then 1 else 0) 1 = cond-true had 1 0 had_one in
    omega (arith, more, at, one)
size-more had n bytes byte is (inr (none, same)) at =
    let zero_more : ◌≡◌ {A = ℕ} (if had then 1 else 0) 0 = cond-false had 1 0 none in
    omega (arith, same, at, zero_more)

pub no-return : (byte : ℕ) → byte ≢ 13 → ◌≡◌ {A = ℕ} 1 (if byte == 13 then 0 else 1)
no-return byte other = ap (λ t. if t then 0 else 1) (sym (ne_eqb byte 13 other))

pub a-return : (byte : ℕ) → byte ≡ 13 → ◌≡◌ {A = ℕ} 0 (if byte == 13 then 0 else 1)
a-return byte is = ap (λ b. if b == 13 then 0 else 1) (sym is)

-- what was consumed, one after the other
pub consumed-more : (first mid last : Option (List ℕ)) (xs ys : List ℕ) → Consumes first mid xs → Consumes mid last ys → Consumes first last (xs ++ ys)
consumed-more None mid last xs ys a b = tt
consumed-more (Some x) None last xs ys a b = absurd a
consumed-more (Some x) (Some y) None xs ys a b = absurd b
consumed-more (Some x) (Some y) (Some z) xs ys a b = a ∙ ap (λ l. xs ++ l) b ∙ sym (append_assoc xs ys z)

pub consumed-none : (first mid last : Option (List ℕ)) (xs ys : List ℕ) (n : ℕ) → Consumes first mid xs → Consumes mid last (take n ys) → n ≡ 0 → Consumes first last xs
consumed-none first mid last xs ys n a b none =
    subst (Consumes first last) (append-nil xs)
    (consumed-more first mid last xs [] a (subst (λ k. Consumes mid last (take k ys)) none b))

-- bytes none of which is past the limits are read whole
whole-read : (bytes : List ℕ) → ((n : ℕ) → n ≤ length bytes → ArePastLimits (take n bytes) → ⊥) → AreUpToLimits bytes bytes
whole-read bytes none = record {
  begin = take_all (length bytes) bytes (omega arith);
  end = inl refl;
  first = λ n less. none n (omega (arith, less));
}

-- no byte is left
pub all-read : (first last : Option (List ℕ)) (bytes text : List ℕ) → Consumes first last bytes → IsAtEnd last
    → ((n : ℕ) → n ≤ length bytes → ArePastLimits (take n bytes) → ⊥) → text ≡ without_mark bytes → IfSome first (λ all. IsTextOf all text)
all-read None last bytes text a end none is = tt
all-read (Some all) None bytes text a end none is = absurd a
all-read (Some all) (Some rest) bytes text a end none is =
    let same : bytes ≡ all = sym (a ∙ ap (λ l. bytes ++ l) end ∙ append-nil bytes) in
    inl (subst (λ (l : List ℕ). AreUpToLimits l l) same (whole-read bytes none), is ∙ ap without_mark same)

-- the limits are passed
pub past-read : (first : Option (List ℕ)) (bytes : List ℕ) → ArePastLimits bytes → IfSome first (λ all. AreUpToLimits all bytes) → IfSome first (λ all. IsTextOf all bytes)
past-read None bytes past are = tt
past-read (Some all) bytes past are = inr (are, past)

-- none of the first bytes is past the limits, where part of a piece comes behind
pub none-before : (bytes part got : List ℕ) (w : ℕ) → got ≡ take w part → w ≤ length part
    → ((n : ℕ) → n ≤ length bytes → ArePastLimits (take n bytes) → ⊥) → ((n : ℕ) → n < w → ArePastLimits (bytes ++ take n part) → ⊥)
    → (n : ℕ) → n < length bytes + w → ArePastLimits (take n (bytes ++ got)) → ⊥
none-before bytes part got w is inside none first n less past = at (cases_Bool (ltb n (length bytes)))
  where
    at : (ltb n (length bytes) ≡ true) ⊎ (ltb n (length bytes) ≡ false) → ⊥
    at (inl before) =
        let early = ltb-true n (length bytes) before in
        none n (omega (arith, early)) (subst ArePastLimits (take-append-le n bytes got (omega (arith, early))) past)
    at (inr behind) =
        let late = ltb-false n (length bytes) behind in
        let k = n - length bytes in
        let sum : n ≡ length bytes + k = omega (arith, late) in
        let front : take n (bytes ++ got) ≡ bytes ++ take k part =
        ap (λ j. take j (bytes ++ got)) sum ∙ take-append-add bytes got k
        ∙ ap (λ l. bytes ++ take k l) is ∙ ap (λ l. bytes ++ l) (take-take k w part (omega (arith, less, sum))) in
        first k (omega (arith, less, sum)) (subst ArePastLimits front past)

pub length-got : (bytes part got : List ℕ) (w : ℕ) → got ≡ take w part → w ≤ length part → length (bytes ++ got) ≡ length bytes + w
length-got bytes part got w is inside = omega (arith, length-append bytes got, ap length is, length-take w part, inside)

-- where they aren't passed, none of the bytes is past them
pub none-behind : (bytes part got : List ℕ) (w : ℕ) → got ≡ take w part → w ≤ length part
    → ((n : ℕ) → n ≤ length bytes → ArePastLimits (take n bytes) → ⊥) → ((n : ℕ) → n < w → ArePastLimits (bytes ++ take n part) → ⊥)
    → (ArePastLimits (bytes ++ got) → ⊥) → (n : ℕ) → n ≤ length (bytes ++ got) → ArePastLimits (take n (bytes ++ got)) → ⊥
none-behind bytes part got w is inside none first whole n less past = at (cases_Bool (ltb n (length (bytes ++ got))))
  where
    at : (ltb n (length (bytes ++ got)) ≡ true) ⊎ (ltb n (length (bytes ++ got)) ≡ false) → ⊥
    at (inl before) = none-before bytes part got w is inside none first n (omega (arith, ltb-true n (length (bytes ++ got)) before, length-got bytes part got w is inside)) past
    at (inr behind) = whole (subst ArePastLimits (take_all n (bytes ++ got) (omega (arith, ltb-false n (length (bytes ++ got)) behind))) past)

-- the limits are passed within a piece
pub limit-passed : (first last : Option (List ℕ)) (bytes part got : List ℕ) (w : ℕ) → Consumes first last (bytes ++ part) → got ≡ take w part → w ≤ length part
    → ArePastLimits (bytes ++ got) → ((n : ℕ) → n ≤ length bytes → ArePastLimits (take n bytes) → ⊥) → ((n : ℕ) → n < w → ArePastLimits (bytes ++ take n part) → ⊥)
    → IfSome first (λ all. AreUpToLimits all (bytes ++ got))
limit-passed None last bytes part got w a is inside past none before = tt
limit-passed (Some all) None bytes part got w a is inside past none before = absurd a
limit-passed (Some all) (Some rest) bytes part got w a is inside past none before =
    record {
      begin =
          ap (λ n. take n all) (length-got bytes part got w is inside)
          ∙ ap (take (length bytes + w)) (a ∙ append_assoc bytes part rest)
          ∙ take-append-add bytes (part ++ rest) w
          ∙ ap (λ l. bytes ++ l) (take-append-le w part rest inside ∙ sym is);
      end = inr past;
      first = λ n less. none-before bytes part got w is inside none before n (omega (arith, less, length-got bytes part got w is inside));
    }

-- the bytes of a piece that came behind are the first ones of what was read
pub got-of : (bytes piece new : List ℕ) (count w : ℕ) → new ≡ bytes ++ take w piece → w ≤ length (take count piece)
    → new ≡ bytes ++ take w (take count piece)
got-of bytes piece new count w is inside =
    is ∙ ap (λ l. bytes ++ l) (sym (take-take w count piece (omega (arith, inside, length-take count piece))))

pub passed-in : (first mid last : Option (List ℕ)) (bytes piece new : List ℕ) (count w : ℕ)
    → Consumes first mid bytes → Consumes mid last (take count piece) → new ≡ bytes ++ take w (take count piece) → w ≤ length (take count piece)
    → ArePastLimits new → ((n : ℕ) → n ≤ length bytes → ArePastLimits (take n bytes) → ⊥)
    → ((n : ℕ) → n < w → ArePastLimits (bytes ++ take n (take count piece)) → ⊥)
    → IfSome first (λ all. AreUpToLimits all new)
passed-in first mid last bytes piece new count w a b is inside past none before =
    subst (λ l. IfSome first (λ all. AreUpToLimits all l)) (sym is)
    (limit-passed first last bytes (take count piece) (take w (take count piece)) w (consumed-more first mid last bytes (take count piece) a b) refl inside
    (subst ArePastLimits is past) none before)

pub goes-on-in : (first mid last : Option (List ℕ)) (bytes piece new : List ℕ) (count w : ℕ)
    → Consumes first mid bytes → Consumes mid last (take count piece) → new ≡ bytes ++ take w (take count piece)
    → (w ≡ length (take count piece)) ⊎ ArePastLimits (bytes ++ take w (take count piece)) → (ArePastLimits new → ⊥) → Consumes first last new
goes-on-in first mid last bytes piece new count w a b is (inl all) not_past =
    subst (Consumes first last) (sym (is ∙ ap (λ l. bytes ++ l) (take_all w (take count piece) (omega (arith, all)))))
    (consumed-more first mid last bytes (take count piece) a b)
goes-on-in first mid last bytes piece new count w a b is (inr past) not_past = absurd (not_past (subst ArePastLimits (sym is) past))

pub none-in : (bytes piece new : List ℕ) (count w : ℕ) → new ≡ bytes ++ take w (take count piece) → w ≤ length (take count piece)
    → (ArePastLimits new → ⊥) → ((n : ℕ) → n ≤ length bytes → ArePastLimits (take n bytes) → ⊥)
    → ((n : ℕ) → n < w → ArePastLimits (bytes ++ take n (take count piece)) → ⊥)
    → (n : ℕ) → n ≤ length new → ArePastLimits (take n new) → ⊥
none-in bytes piece new count w is inside not_past none before =
    subst (λ l. (n : ℕ) → n ≤ length l → ArePastLimits (take n l) → ⊥) (sym is)
    (none-behind bytes (take count piece) (take w (take count piece)) w refl inside none before (λ past. not_past (subst ArePastLimits (sym is) past)))
