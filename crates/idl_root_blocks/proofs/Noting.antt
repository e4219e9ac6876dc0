-- What open blocks note, entry by entry, and behind more of the facts.
use Rattle.std.proofs.Common.{◌≡◌, ◌<◌, ◌≤◌, ◌+◌, ◌-◌, ◌⊎◌, inl, inr, ℕ, Bool, true, false, cond, ◌||◌, List, [], ◌∷◌, ◌++◌, Option, arith, length, map, max, refl, sym, ap, subst, ◌∙◌}
use Rattle.std.specs.List.{All, filter}
use Rattle.std.proofs.Math.Nat.{le-max_left, le-max_right, max-le}
use Rattle.std.proofs.lemmas.List.{length-append}
use Rattle.std.proofs.lemmas.List.Elements.{All-cons, All-head, All-map, All-nil, All-push, All-tail, All-weaker}
use Rattle.idl_env.specs.Facts.{UnitFacts, World, after, answers, first_world}
use Rattle.idl_env.specs.Written.{last_from, last_written, writes_at, written_from}
use Rattle.idl_env.specs.declared.answering.answer.Answer.{Answer}
use Rattle.idl_env.specs.declared.keys.key.Key.{Key}
use Rattle.idl_env.specs.keys.Key.{key_eq}
use Rattle.idl_memo.specs.Query.{is_logged, noted_all}
use Rattle.idl_root_blocks.specs.Asking.{AreNoted, AreOrdered, IsNoted, OpenBlock, Opened, asked_at, with_asked, with_dated}
use Rattle.idl_root_blocks.specs.Outer.{Log, is_unwritten}
use Rattle.idl_root_blocks.specs.declared.text.BlockPart.{BlockPart}
use Rattle.idl_root_blocks.proofs.Dates.{dated-block, noted-block, passed-block}

abbrev Entry : Type 0
Entry = Key × Option Answer

-- ---- entries one after another

-- an entry is asked first, and the rest behind it
asked-cons : (facts : List UnitFacts) (e : Entry) (rest : Log) (block : OpenBlock)
    → with_asked facts (e ∷ rest) block ≡ with_asked facts rest (with_asked facts (e ∷ []) block)
asked-cons facts e rest block = λ i. record block { log = by (is_unwritten facts block.start e.0) i }
  where
    keys : List Key
    keys = filter (is_unwritten facts block.start) (map (λ f. f.0) rest)

    bank : Key → Option Answer
    bank = answers facts

    by : (b : Bool) → noted_all key_eq bank block.log (cond b (e.0 ∷ keys) keys) ≡ noted_all key_eq bank (noted_all key_eq bank block.log (cond b (e.0 ∷ []) [])) keys
    by true = refl
    by false = refl

pub all-cons : (facts : List UnitFacts) (e : Entry) (rest : Log) (blocks : List OpenBlock)
    → map (with_asked facts (e ∷ rest)) blocks ≡ map (with_asked facts rest) (map (with_asked facts (e ∷ [])) blocks)
all-cons facts e rest [] = refl
all-cons facts e rest (b ∷ blocks) = λ i. asked-cons facts e rest b i ∷ all-cons facts e rest blocks i

-- no entry is asked
pub all-nil : (facts : List UnitFacts) (blocks : List OpenBlock) → map (with_asked facts []) blocks ≡ blocks
all-nil facts [] = refl
all-nil facts (b ∷ blocks) = ap (λ bs. b ∷ bs) (all-nil facts blocks)

-- ---- all open blocks

same-all : (f g : OpenBlock → OpenBlock) (blocks : List OpenBlock) → All (λ b. f b ≡ g b) blocks → map f blocks ≡ map g blocks
same-all f g [] all = refl
same-all f g (b ∷ blocks) all = λ i. All-head (λ c. f c ≡ g c) b blocks all i ∷ same-all f g blocks (All-tail (λ c. f c ≡ g c) b blocks all) i

same-none : (f : OpenBlock → OpenBlock) (blocks : List OpenBlock) → All (λ b. f b ≡ b) blocks → map f blocks ≡ blocks
same-none f [] all = refl
same-none f (b ∷ blocks) all = λ i. All-head (λ c. f c ≡ c) b blocks all i ∷ same-none f blocks (All-tail (λ c. f c ≡ c) b blocks all) i

-- what is true of each by two facts
by-both : (P Q R : OpenBlock → Type 0) → ((b : OpenBlock) → P b → Q b → R b) → (blocks : List OpenBlock) → All P blocks → All Q blocks → All R blocks
by-both P Q R f blocks ps qs = λ i d less. f _ (ps i d less) (qs i d less)

-- the innermost was entered last
pub innermost : (others : List OpenBlock) (block : OpenBlock) → AreOrdered (others ++ block ∷ []) → All (λ b. b.start ≤ block.start) (others ++ block ∷ [])
innermost [] block ordered = All-cons (λ b. b.start ≤ block.start) block [] (omega arith) (All-nil (λ b. b.start ≤ block.start))
innermost (x ∷ others) block ordered =
    All-cons (λ b. b.start ≤ block.start) x (others ++ block ∷ []) (last others ordered.0) (innermost others block ordered.1)
  where
    last : (inside : List OpenBlock) → All (λ b. x.start ≤ b.start) (inside ++ block ∷ []) → x.start ≤ block.start
    last [] all = All-head (λ b. x.start ≤ b.start) block [] all
    last (y ∷ inside) all = last inside (All-tail (λ b. x.start ≤ b.start) y (inside ++ block ∷ []) all)

module _ (facts : List UnitFacts) (opened : Opened) (right : AreNoted facts opened) (k : Key) (v : Option Answer) where
  abbrev asks : OpenBlock → OpenBlock
  asks = with_asked facts ((k, v) ∷ [])

  -- what was asked or written since the innermost was entered is not noted again
  pub all-passed : (inner : ℕ) → All (λ b. b.start ≤ inner) opened.blocks → (inner ≤ last_written facts k) ⊎ (inner ≤ asked_at opened.asked k) → map asks opened.blocks ≡ opened.blocks
  all-passed inner within since =
      same-none asks opened.blocks
      (by-both (λ b. b.start ≤ inner) (IsNoted opened.asked facts) (λ b. asks b ≡ b) (λ b below is. passed-block opened.asked facts b is k (by b below since) v) opened.blocks within right.each)
    where
      by : (b : OpenBlock) → b.start ≤ inner → (inner ≤ last_written facts k) ⊎ (inner ≤ asked_at opened.asked k) → (b.start ≤ last_written facts k) ⊎ (b.start ≤ asked_at opened.asked k)
      by b below (inl written) = inl (omega (arith, below, written))
      by b below (inr was) = inr (omega (arith, below, was))

  -- an entry with the later of the numbers at which its key was written and asked goes where it is to be noted
  pub all-dated : v ≡ answers facts k → (d : ℕ) → d ≡ max (last_written facts k) (asked_at opened.asked k)
      → map (with_dated (record { key = k; answer = v; date = d })) opened.blocks ≡ map asks opened.blocks
  all-dated held d latest =
      same-all (with_dated (record { key = k; answer = v; date = d })) asks opened.blocks
      (All-weaker (IsNoted opened.asked facts) (λ b. with_dated (record { key = k; answer = v; date = d }) b ≡ asks b)
      (λ b is. dated-block opened.asked facts b is k v held d late_asked late_written least) opened.blocks right.each)
    where
      late_written : last_written facts k ≤ d
      late_written = subst (λ n. last_written facts k ≤ n) (sym latest) (le-max_left (last_written facts k) (asked_at opened.asked k))

      late_asked : asked_at opened.asked k ≤ d
      late_asked = subst (λ n. asked_at opened.asked k ≤ n) (sym latest) (le-max_right (last_written facts k) (asked_at opened.asked k))

      least : (s : ℕ) → asked_at opened.asked k < s → last_written facts k < s → d < s
      least s asked written =
          let most : max (last_written facts k) (asked_at opened.asked k) ≤ s - 1 = max-le (omega (arith, written)) (omega (arith, asked)) in
          subst (λ n. n < s) (sym latest) (omega (arith, most, written))

  asks-ordered : (blocks : List OpenBlock) → AreOrdered blocks → AreOrdered (map asks blocks)
  asks-ordered [] ordered = tt
  asks-ordered (b ∷ blocks) ordered = (All-map (λ c. b.start ≤ c.start) asks blocks ordered.0, asks-ordered blocks ordered.1)

  -- and they have noted rightly behind it
  pub all-noted : (later : List (Key × ℕ)) → ((q : Key) → asked_at later q ≡ cond (key_eq q k) (length facts) (asked_at opened.asked q))
      → AreNoted facts (record { blocks = map asks opened.blocks; asked = later })
  all-noted later is_now = record {
    entered = All-map (λ b. b.start ≤ length facts) asks opened.blocks right.entered;
    ordered = asks-ordered opened.blocks right.ordered;
    asked = λ q. subst (λ n. n ≤ length facts) (sym (is_now q)) (within q (key_eq q k));
    each = All-map (IsNoted later facts) asks opened.blocks
        (by-both (λ b. b.start ≤ length facts) (IsNoted opened.asked facts) (λ b. IsNoted later facts (asks b))
        (λ b below is. noted-block opened.asked facts b is k (length facts) below later is_now v) opened.blocks right.entered right.each);
  }
    where
      within : (q : Key) (c : Bool) → cond c (length facts) (asked_at opened.asked q) ≤ length facts
      within q true = omega arith
      within q false = right.asked q

-- ---- more of the facts

written-more : (facts : List UnitFacts) (f : UnitFacts) (w : World) (k : Key) → written_from w facts k ≡ true → written_from w (facts ++ f ∷ []) k ≡ true
written-more [] f w k h = absurd (let z : false ≡ true = h in cc)
written-more (g ∷ facts) f w k h = by (writes_at w g k) (written_from (after w g) facts k) h (written-more facts f (after w g) k)
  where
    by : (p q : Bool) → (p || q) ≡ true → (q ≡ true → written_from (after w g) (facts ++ f ∷ []) k ≡ true) → (p || written_from (after w g) (facts ++ f ∷ []) k) ≡ true
    by true q h rest = refl
    by false q h rest = rest h

last-grows : (facts : List UnitFacts) (f : UnitFacts) (w : World) (k : Key) → last_from w facts k ≤ last_from w (facts ++ f ∷ []) k
last-grows [] f w k = omega arith
last-grows (g ∷ facts) f w k = by (last-grows facts f (after w g) k) (writes_at w g k) (written_from (after w g) facts k) refl (written_from (after w g) (facts ++ f ∷ []) k) refl
  where
    by : last_from (after w g) facts k ≤ last_from (after w g) (facts ++ f ∷ []) k
        → (p q : Bool) → written_from (after w g) facts k ≡ q → (r : Bool) → written_from (after w g) (facts ++ f ∷ []) k ≡ r
        → cond q (last_from (after w g) facts k + 1) (cond p 1 0) ≤ cond r (last_from (after w g) (facts ++ f ∷ []) k + 1) (cond p 1 0)
    by rest p true was true is = omega (arith, rest)
    by rest p true was false is =
        let more : written_from (after w g) (facts ++ f ∷ []) k ≡ true = written-more facts f (after w g) k was in
        absurd (let z : false ≡ true = sym is ∙ more in cc)
    by rest true false was true is = omega arith
    by rest false false was true is = omega arith
    by rest true false was false is = omega arith
    by rest false false was false is = omega arith

-- what has been noted rightly stays so
pub noted-on : (facts : List UnitFacts) (more : UnitFacts) (opened : Opened) → AreNoted facts opened → AreNoted (facts ++ more ∷ []) opened
noted-on facts more opened right = record {
  entered = All-weaker (λ b. b.start ≤ length facts) (λ b. b.start ≤ length all) (λ b below. omega (arith, below, longer)) opened.blocks right.entered;
  ordered = right.ordered;
  asked = λ k. (let below = right.asked k in omega (arith, below, longer));
  each = All-weaker (IsNoted opened.asked facts) (IsNoted opened.asked all) on opened.blocks right.each;
}
  where
    all : List UnitFacts
    all = facts ++ more ∷ []

    longer : length all ≡ length facts + 1
    longer = length-append facts (more ∷ [])

    on : (b : OpenBlock) → IsNoted opened.asked facts b → IsNoted opened.asked all b
    on b is = record {
      logged = is.logged;
      asked_since = λ k since. by k (is.asked_since k since);
    }
      where
        by : (k : Key) → (is_logged key_eq b.log k ≡ true) ⊎ (b.start ≤ last_written facts k) → (is_logged key_eq b.log k ≡ true) ⊎ (b.start ≤ last_written all k)
        by k (inl there) = inl there
        by k (inr written) = let grows : last_written facts k ≤ last_written all k = last-grows facts more first_world k in inr (omega (arith, written, grows))

-- ---- blocks that are entered and left

ordered-push : (blocks : List OpenBlock) (block : OpenBlock) → AreOrdered blocks → All (λ b. b.start ≤ block.start) blocks → AreOrdered (blocks ++ block ∷ [])
ordered-push [] block ordered within = (All-nil (λ c. block.start ≤ c.start), tt)
ordered-push (b ∷ blocks) block ordered within =
    let first : b.start ≤ block.start = All-head (λ c. c.start ≤ block.start) b blocks within in (
      All-push (λ c. b.start ≤ c.start) blocks block ordered.0 first,
      ordered-push blocks block ordered.1 (All-tail (λ c. c.start ≤ block.start) b blocks within),
    )

-- a block is entered by the last of the facts
pub entered-noted : (before : List UnitFacts) (f : UnitFacts) (opened : Opened) → AreNoted before opened → (text : List BlockPart)
    → AreNoted (before ++ f ∷ [])
    (record { blocks = opened.blocks ++ record { text = text; start = length (before ++ f ∷ []); log = [] } ∷ []; asked = opened.asked })
entered-noted before f opened right text = record {
  entered = All-push (λ b. b.start ≤ length all) opened.blocks block now.entered (omega arith);
  ordered = ordered-push opened.blocks block right.ordered now.entered;
  asked = now.asked;
  each = All-push (IsNoted opened.asked all) opened.blocks block now.each none;
}
  where
    all : List UnitFacts
    all = before ++ f ∷ []

    block : OpenBlock
    block = record { text = text; start = length all; log = [] }

    now : AreNoted all opened
    now = noted-on before f opened right

    longer : length all ≡ length before + 1
    longer = length-append before (f ∷ [])

    none : IsNoted opened.asked all block
    none = record {
      logged = λ k h. absurd (let z : false ≡ true = h in cc);
      asked_since = λ k since. (let below = right.asked k in absurd (omega (arith, since, below, longer)));
    }

-- what is true of each is so of each but the innermost
front : (block : OpenBlock) (P : OpenBlock → Type 0) (bs : List OpenBlock) → All P (bs ++ block ∷ []) → All P bs
front block P [] all = All-nil P
front block P (c ∷ bs) all = All-cons P c bs (All-head P c (bs ++ block ∷ []) all) (front block P bs (All-tail P c (bs ++ block ∷ []) all))

ordered-front : (blocks : List OpenBlock) (block : OpenBlock) → AreOrdered (blocks ++ block ∷ []) → AreOrdered blocks
ordered-front [] block ordered = tt
ordered-front (b ∷ blocks) block ordered = (front block (λ c. b.start ≤ c.start) blocks ordered.0, ordered-front blocks block ordered.1)

-- the innermost is left
pub left-noted : (facts : List UnitFacts) (old : Opened) → AreNoted facts old → (blocks : List OpenBlock) (block : OpenBlock) → old.blocks ≡ blocks ++ block ∷ []
    → AreNoted facts (record { blocks = blocks; asked = old.asked })
left-noted facts old right blocks block are = record {
  entered = front block (λ b. b.start ≤ length facts) blocks (subst (All (λ b. b.start ≤ length facts)) are right.entered);
  ordered = ordered-front blocks block (subst AreOrdered are right.ordered);
  asked = right.asked;
  each = front block (IsNoted old.asked facts) blocks (subst (All (IsNoted old.asked facts)) are right.each);
}

-- the same are open
pub same-noted : (facts : List UnitFacts) (old new : Opened) → new.blocks ≡ old.blocks → new.asked ≡ old.asked → AreNoted facts old → AreNoted facts new
same-noted facts old new blocks asked right = subst (AreNoted facts) (sym (λ i. record { blocks = blocks i; asked = asked i })) right

-- a block is entered, where those around it have noted rightly
pub entered-all : (facts before : List UnitFacts) (f : UnitFacts) → facts ≡ before ++ f ∷ [] → (old new : Opened) → AreNoted before old → (text : List BlockPart)
    → new.blocks ≡ old.blocks ++ record { text = text; start = length facts; log = [] } ∷ [] → new.asked ≡ old.asked → AreNoted facts new
entered-all facts before f behind old new right text are =
    let all : (fs : List UnitFacts) → fs ≡ before ++ f ∷ [] → new.blocks ≡ old.blocks ++ record { text = text; start = length fs; log = [] } ∷ [] → new.asked ≡ old.asked → AreNoted fs new =
    λ fs is blocks asked. subst (λ gs. AreNoted gs new) (sym is)
    (same-noted (before ++ f ∷ []) (record { blocks = old.blocks ++ record { text = text; start = length (before ++ f ∷ []); log = [] } ∷ []; asked = old.asked }) new
    (blocks ∙ ap (λ gs. old.blocks ++ record { text = text; start = length gs; log = [] } ∷ []) is) asked (entered-noted before f old right text)) in
    all facts behind are

-- an entry is noted
pub asked-noted : (facts : List UnitFacts) (old new : Opened) → AreNoted facts old → (k : Key) (v : Option Answer) → new.blocks ≡ map (with_asked facts ((k, v) ∷ [])) old.blocks
    → ((q : Key) → asked_at new.asked q ≡ cond (key_eq q k) (length facts) (asked_at old.asked q)) → AreNoted facts new
asked-noted facts old new right k v blocks asked =
    same-noted facts (record { blocks = map (with_asked facts ((k, v) ∷ [])) old.blocks; asked = new.asked }) new blocks refl (all-noted facts old right k v new.asked asked)

-- where it was asked or written since the entering of the innermost
pub passed-asks : (facts : List UnitFacts) (opened : Opened) → AreNoted facts opened → (k : Key) (v : Option Answer) (inner : ℕ)
    → (around : List OpenBlock) (block : OpenBlock) → opened.blocks ≡ around ++ block ∷ [] → block.start ≡ inner
    → (inner ≤ last_written facts k) ⊎ (inner ≤ asked_at opened.asked k) → opened.blocks ≡ map (with_asked facts ((k, v) ∷ [])) opened.blocks
passed-asks facts opened right k v inner around block are start since = sym (all-passed facts opened right k v inner within since)
  where
    within : All (λ b. b.start ≤ inner) opened.blocks
    within = subst (All (λ b. b.start ≤ inner)) (sym are) (subst (λ n. All (λ b. b.start ≤ n) (around ++ block ∷ [])) start (innermost around block (subst AreOrdered are right.ordered)))

-- the innermost is left, and what was asked stays
pub left-all : (facts : List UnitFacts) (old new : Opened) → AreNoted facts old → (block : OpenBlock) → old.blocks ≡ new.blocks ++ block ∷ [] → new.asked ≡ old.asked → AreNoted facts new
left-all facts old new right block are asked = same-noted facts (record { blocks = new.blocks; asked = old.asked }) new refl asked (left-noted facts old right new.blocks block are)
