-- Answers that are kept with the numbers of the facts that wrote them.
use Rattle.std.proofs.Common.{◌≡◌, ℕ, ◌+◌, ◌<◌, ◌≤◌, Bool, true, false, cond, List, [], ◌∷◌, ◌++◌, Option, Some, length, refl, sym, ap, ◌∙◌, arith}
use Rattle.std.specs.Prelude.{◌||◌, ◌↔◌, IsTrue, IsFalse, is_some}
use Rattle.std.specs.Map.{lookup}
use Rattle.idl_base.proofs.Bools.{or-false}
use Rattle.idl_env.specs.Facts.{UnitFacts, World, addition_at, after, after_all, answer_of, first_world, key_of, world}
use Rattle.idl_env.specs.Held.{IsAmongOthers}
use Rattle.idl_env.specs.Stamps.{Stamped, Stamps, answer_in, stamped, stamped_over, stamps_of, with_one_more, with_stamped, writer_in}
use Rattle.idl_env.specs.Written.{is_added, last_from, last_written, writes_at, written_from}
use Rattle.idl_env.specs.keys.Key.{key_eq}
use Rattle.idl_env.specs.declared.additions.addition.Addition.{Addition}
use Rattle.idl_env.specs.declared.answering.answer.Answer.{Answer}
use Rattle.idl_env.specs.declared.keys.key.Key.{Key}
use Rattle.idl_env.specs.declared.keys.key.Key.TheVariants.{Cursor, Prefix as PrefixKey}
use Rattle.idl_env.proofs.AnswerLaws.AnswerLemmas.{over-cons, over-last}
use Rattle.idl_env.proofs.AnswerLaws.CountLemmas.{world-is}

-- ---- keys at which the last facts write, once and again

twice : (n old : ℕ) (p q : Bool) → cond q n (cond p n old) ≡ cond (p || q) n old
twice n old true true = refl
twice n old true false = refl
twice n old false q = refl

pub stamped-twice : (p q : Key → Bool) (s : Stamps) → stamped q (stamped p s) ≡ stamped (λ k. p k || q k) s
stamped-twice p q s = λ i. record { count = s.count; last = λ k. twice s.count (s.last k) (p k) (q k) i }

over_twice : (n old : ℕ) (p q : Bool) → cond q n (cond p n old) ≡ cond (q || p) n old
over_twice n old p true = refl
over_twice n old p false = refl

pub stamped-over : (p q : Key → Bool) (s : Stamps) → stamped q (stamped p s) ≡ stamped (λ k. q k || p k) s
stamped-over p q s = λ i. record { count = s.count; last = λ k. over_twice s.count (s.last k) (p k) (q k) i }

-- ---- additions

added-cons : (a : Addition) (additions : List Addition) (k : Key) → is_added (a ∷ additions) k ≡ (key_eq k (key_of a) || is_added additions k)
added-cons a additions k = by (key_eq k (key_of a))
  where
    by : (b : Bool) → is_some (cond b (Some a) (addition_at additions k)) ≡ (b || is_added additions k)
    by true = refl
    by false = refl

added-last : (additions : List Addition) (a : Addition) (k : Key) → is_added (additions ++ a ∷ []) k ≡ (key_eq k (key_of a) || is_added additions k)
added-last [] a k = added-cons a [] k
added-last (b ∷ additions) a k =
    added-cons b (additions ++ a ∷ []) k
    ∙ ap (λ t. key_eq k (key_of b) || t) (added-last additions a k)
    ∙ swapped (key_eq k (key_of b)) (key_eq k (key_of a)) (is_added additions k)
    ∙ sym (ap (λ t. key_eq k (key_of a) || t) (added-cons b additions k))
  where
    swapped : (x y z : Bool) → (x || (y || z)) ≡ (y || (x || z))
    swapped true true z = refl
    swapped true false z = refl
    swapped false y z = refl

-- of which this is the first
pub stamped_over-cons : (a : Addition) (additions : List Addition) (kept : Stamped)
    → stamped_over (a ∷ additions) kept ≡ with_stamped (key_of a) (answer_of a) (stamped_over additions kept)
stamped_over-cons a additions kept =
    let stamps : stamped (is_added (a ∷ additions)) kept.stamps ≡ stamped (λ k. key_eq k (key_of a)) (stamped (is_added additions) kept.stamps) =
    (λ i. stamped (λ k. added-cons a additions k i) kept.stamps)
    ∙ sym (stamped-over (is_added additions) (λ k. key_eq k (key_of a)) kept.stamps) in
    λ i. record { at = λ k. over-cons a additions k (kept.at k) i; stamps = stamps i }

-- and of which it is the last
pub stamped_over-last : (additions : List Addition) (a : Addition) (kept : Stamped)
    → stamped_over (additions ++ a ∷ []) kept ≡ stamped_over additions (with_stamped (key_of a) (answer_of a) kept)
stamped_over-last additions a kept =
    let stamps : stamped (is_added (additions ++ a ∷ [])) kept.stamps ≡ stamped (is_added additions) (stamped (λ k. key_eq k (key_of a)) kept.stamps) =
    (λ i. stamped (λ k. added-last additions a k i) kept.stamps)
    ∙ sym (stamped-twice (λ k. key_eq k (key_of a)) (is_added additions) kept.stamps) in
    λ i. record { at = λ k. over-last additions a k (kept.at k) i; stamps = stamps i }

-- ---- the last facts that write at a key

written-push : (facts : List UnitFacts) (f : UnitFacts) (w : World) (k : Key) → written_from w (facts ++ f ∷ []) k ≡ (written_from w facts k || writes_at (after_all w facts) f k)
written-push [] f w k = or-false (writes_at w f k)
written-push (g ∷ facts) f w k =
    ap (λ b. writes_at w g k || b) (written-push facts f (after w g) k)
    ∙ sym (or_joined (writes_at w g k) (written_from (after w g) facts k) (writes_at (after_all (after w g) facts) f k))
  where
    or_joined : (x y z : Bool) → ((x || y) || z) ≡ (x || (y || z))
    or_joined true y z = refl
    or_joined false y z = refl

last-push : (facts : List UnitFacts) (f : UnitFacts) (w : World) (k : Key)
    → last_from w (facts ++ f ∷ []) k ≡ cond (writes_at (after_all w facts) f k) (length facts + 1) (last_from w facts k)
last-push [] f w k = refl
last-push (g ∷ facts) f w k =
    (λ i. cond (written-push facts f (after w g) k i) (last-push facts f (after w g) k i + 1) (cond (writes_at w g k) 1 0))
    ∙ by (written_from (after w g) facts k) (writes_at (after_all (after w g) facts) f k) (last_from (after w g) facts k)
  where
    by : (p q : Bool) (last : ℕ) → cond (p || q) (cond q (length facts + 1) last + 1) (cond (writes_at w g k) 1 0) ≡ cond q (length (g ∷ facts) + 1) (cond p (last + 1) (cond (writes_at w g k) 1 0))
    by true true last = omega arith
    by true false last = refl
    by false true last = omega arith
    by false false last = refl

-- the stamps of facts, with one fact more
pub stamps-push : (facts : List UnitFacts) (f : UnitFacts) → stamps_of (facts ++ f ∷ []) ≡ stamped (writes_at (world facts) f) (with_one_more (stamps_of facts))
stamps-push facts f =
    let many : length (facts ++ f ∷ []) ≡ length facts + 1 = one_longer facts in
    λ i. record { count = many i; last = λ k. (last-push facts f first_world k ∙ ap (λ w. cond (writes_at w f k) (length facts + 1) (last_written facts k)) (sym (world-is facts))) i }
  where
    one_longer : (xs : List UnitFacts) → length (xs ++ f ∷ []) ≡ length xs + 1
    one_longer [] = refl
    one_longer (x ∷ xs) = let rest = one_longer xs in omega arith

-- it is past so many facts where one behind them writes there, and else not
module _ (behind : List UnitFacts) (k : Key) where
  some : (p q : Bool) → IsTrue q → IsTrue (p || q)
  some true q h = refl
  some false q h = h

  -- what is written is written by a fact from the first on
  from_first : (facts : List UnitFacts) (w : World) → IsTrue (written_from w facts k) → 0 < last_from w facts k
  from_first [] w h = absurd (let z : false ≡ true = h in cc)
  from_first (f ∷ facts) w h = by (writes_at w f k) (written_from (after w f) facts k) h
    where
      by : (p q : Bool) → IsTrue (p || q) → 0 < cond q (last_from (after w f) facts k + 1) (cond p 1 0)
      by p true j = omega arith
      by true false j = omega arith
      by false false j = absurd (let z : false ≡ true = j in cc)

  by_none : (facts : List UnitFacts) (w : World) → IsFalse (written_from w facts k) → last_from w facts k ≤ 0
  by_none [] w h = omega arith
  by_none (f ∷ facts) w h = by (writes_at w f k) (written_from (after w f) facts k) h
    where
      by : (p q : Bool) → IsFalse (p || q) → cond q (last_from (after w f) facts k + 1) (cond p 1 0) ≤ 0
      by true q j = absurd (let z : true ≡ false = j in cc)
      by false true j = absurd (let z : true ≡ false = j in cc)
      by false false j = omega arith

  written-joined : (facts : List UnitFacts) (w : World) → IsTrue (written_from (after_all w facts) behind k) → IsTrue (written_from w (facts ++ behind) k)
  written-joined [] w h = h
  written-joined (f ∷ facts) w h = some (writes_at w f k) _ (written-joined facts (after w f) h)

  last-past : (facts : List UnitFacts) (w : World) → IsTrue (written_from (after_all w facts) behind k) → length facts < last_from w (facts ++ behind) k
  last-past [] w h = from_first behind w h
  last-past (f ∷ facts) w h = by (written_from (after w f) (facts ++ behind) k) (written-joined facts (after w f) h) (last-past facts (after w f) h)
    where
      by : (q : Bool) → IsTrue q → length facts < last_from (after w f) (facts ++ behind) k
          → length (f ∷ facts) < cond q (last_from (after w f) (facts ++ behind) k + 1) (cond (writes_at w f k) 1 0)
      by true j rest = omega (rest, arith)
      by false j rest = absurd (let z : false ≡ true = j in cc)

  last-within : (facts : List UnitFacts) (w : World) → IsFalse (written_from (after_all w facts) behind k) → last_from w (facts ++ behind) k ≤ length facts
  last-within [] w h = by_none behind w h
  last-within (f ∷ facts) w h = by (writes_at w f k) (written_from (after w f) (facts ++ behind) k) (last-within facts (after w f) h)
    where
      by : (p q : Bool) → last_from (after w f) (facts ++ behind) k ≤ length facts → cond q (last_from (after w f) (facts ++ behind) k + 1) (cond p 1 0) ≤ length (f ∷ facts)
      by p true rest = omega (rest, arith)
      by true false rest = omega arith
      by false false rest = omega arith

  pub last-behind : (facts : List UnitFacts) (w : World) → (last_from w (facts ++ behind) k ≤ length facts) ↔ IsFalse (written_from (after_all w facts) behind k)
  last-behind facts w = (λ within. by (written_from (after_all w facts) behind k) refl within, last-within facts w)
    where
      by : (b : Bool) → written_from (after_all w facts) behind k ≡ b → last_from w (facts ++ behind) k ≤ length facts → IsFalse b
      by true h within = absurd (let past = last-past facts w h in let none : ⊥ = omega (past, within, arith) in none)
      by false h within = refl

-- ---- answers that are kept

-- what stands apart and the others, with what wrote them
abbrev pub all_kept : Answer × ℕ → Answer × ℕ → List (Key × (Answer × ℕ)) → ℕ → Stamped
all_kept cursor prefix others count =
    let entries = (Cursor, cursor) ∷ (PrefixKey, prefix) ∷ others in
    record {
      at = λ k. answer_in (lookup (key_eq k) entries);
      stamps = record { count = count; last = λ k. writer_in (lookup (key_eq k) entries) };
    }

answer_at : (b : Bool) (a : Answer) (n : ℕ) (o : Option (Answer × ℕ)) → answer_in (cond b (Some (a, n)) o) ≡ cond b (Some a) (answer_in o)
answer_at true a n o = refl
answer_at false a n o = refl

writer_at : (b : Bool) (a : Answer) (n : ℕ) (o : Option (Answer × ℕ)) → writer_in (cond b (Some (a, n)) o) ≡ cond b n (writer_in o)
writer_at true a n o = refl
writer_at false a n o = refl

-- other scopes are open
pub kept-cursor : (old prefix : Answer × ℕ) (others : List (Key × (Answer × ℕ))) (count : ℕ) (a : Answer)
    → all_kept (a, count) prefix others count ≡ with_stamped Cursor a (all_kept old prefix others count)
kept-cursor old prefix others count a =
    λ i. record { at = λ k. at k i; stamps = record { count = count; last = λ k. last k i } }
  where
    rest : Key → Option (Answer × ℕ)
    rest k = lookup (key_eq k) ((PrefixKey, prefix) ∷ others)

    at : (k : Key) → answer_in (cond (key_eq k Cursor) (Some (a, count)) (rest k)) ≡ cond (key_eq k Cursor) (Some a) (answer_in (cond (key_eq k Cursor) (Some old) (rest k)))
    at k = by (key_eq k Cursor)
      where
        by : (b : Bool) → answer_in (cond b (Some (a, count)) (rest k)) ≡ cond b (Some a) (answer_in (cond b (Some old) (rest k)))
        by true = refl
        by false = refl

    last : (k : Key) → writer_in (cond (key_eq k Cursor) (Some (a, count)) (rest k)) ≡ cond (key_eq k Cursor) count (writer_in (cond (key_eq k Cursor) (Some old) (rest k)))
    last k = by (key_eq k Cursor)
      where
        by : (b : Bool) → writer_in (cond b (Some (a, count)) (rest k)) ≡ cond b count (writer_in (cond b (Some old) (rest k)))
        by true = refl
        by false = refl

-- another prefix is in force
pub kept-prefix : (cursor old : Answer × ℕ) (others : List (Key × (Answer × ℕ))) (count : ℕ) (a : Answer)
    → all_kept cursor (a, count) others count ≡ with_stamped PrefixKey a (all_kept cursor old others count)
kept-prefix cursor old others count a =
    λ i. record { at = λ k. at k i; stamps = record { count = count; last = λ k. last k i } }
  where
    at : (k : Key) → (all_kept cursor (a, count) others count).at k ≡ (with_stamped PrefixKey a (all_kept cursor old others count)).at k
    at Cursor = refl
    at PrefixKey = refl
    at other = refl

    last : (k : Key) → (all_kept cursor (a, count) others count).stamps.last k ≡ (with_stamped PrefixKey a (all_kept cursor old others count)).stamps.last k
    last Cursor = refl
    last PrefixKey = refl
    last other = refl

-- another answer at one of the others' keys
pub kept-insert : (cursor prefix : Answer × ℕ) (old new : List (Key × (Answer × ℕ))) (count : ℕ) (key : Key) (a : Answer) → IsAmongOthers key
    → ((k : Key) → lookup (key_eq k) new ≡ cond (key_eq k key) (Some (a, count)) (lookup (key_eq k) old))
    → all_kept cursor prefix new count ≡ with_stamped key a (all_kept cursor prefix old count)
kept-insert cursor prefix old new count key a among put =
    λ i. record { at = λ k. at k i; stamps = record { count = count; last = λ k. last k i } }
  where
    neither : (key : Key) → IsAmongOthers key → (key_eq Cursor key ≡ false) × (key_eq PrefixKey key ≡ false)
    neither Cursor h = absurd h
    neither PrefixKey h = absurd h
    neither other h = (refl, refl)

    at : (k : Key) → (all_kept cursor prefix new count).at k ≡ cond (key_eq k key) (Some a) ((all_kept cursor prefix old count).at k)
    at Cursor = ap (λ b. cond b (Some a) (Some cursor.0)) (sym (neither key among).0)
    at PrefixKey = ap (λ b. cond b (Some a) (Some prefix.0)) (sym (neither key among).1)
    at other = ap answer_in (put other) ∙ answer_at (key_eq other key) a count (lookup (key_eq other) old)

    last : (k : Key) → (all_kept cursor prefix new count).stamps.last k ≡ cond (key_eq k key) count ((all_kept cursor prefix old count).stamps.last k)
    last Cursor = ap (λ b. cond b count cursor.1) (sym (neither key among).0)
    last PrefixKey = ap (λ b. cond b count prefix.1) (sym (neither key among).1)
    last other = ap writer_in (put other) ∙ writer_at (key_eq other key) a count (lookup (key_eq other) old)
