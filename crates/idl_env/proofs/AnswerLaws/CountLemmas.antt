-- No count is greater than the number of units.
use Rattle.std.proofs.Common.{◌≡◌, ℕ, suc, ◌+◌, ◌≤◌, Bool, true, false, cond, List, [], ◌∷◌, ◌++◌, Option, Some, None, length, refl, arith}
use Rattle.idl_env.specs.Facts.{UnitFacts, World, addition_at, after, after_all, after_closing, after_nameless, after_opening, after_step, answer_of, closing, count_in, first_world, given_back, nameless, next_body, over, path_around, scopes_in, unstopped, with_additions, with_answer, with_prefix, world}
use Rattle.idl_entity.specs.Identity.{no_prefix}
use Rattle.idl_env.specs.keys.Key.{key_eq}
use Rattle.idl_env.specs.declared.additions.addition.Addition.{Addition}
use Rattle.idl_env.specs.declared.additions.addition.Addition.TheVariants.{Declares, Uses, UsesFurther, Appears, Identifies, TypePrefixes}
use Rattle.idl_env.specs.declared.additions.addition.Step.{Step}
use Rattle.idl_env.specs.declared.additions.addition.Step.TheVariants.{Stays, Opens, OpensNameless, Closes, Prefixes, Enters, Leaves}
use Rattle.idl_env.specs.declared.answering.answer.Answer.{Answer}
use Rattle.idl_env.specs.declared.answering.answer.Answer.TheVariants.{Open, Count, InForce}
use Rattle.idl_env.specs.declared.answering.answer.Scope.{Scope}
use Rattle.idl_entity.specs.declared.identity.Prefix.{Prefix}
use Rattle.idl_env.specs.declared.keys.key.Key.{Key}
use Rattle.idl_env.specs.declared.keys.key.Key.TheVariants.{Cursor, Opened, Nameless, Prefix as PrefixKey}

-- additions count nothing
over_counts : (before : Option Answer) (n : ℕ) → count_in before ≤ n → (o : Option Addition) → count_in (elim o [ None ↦ before | Some a ↦ Some (answer_of a) ]) ≤ n
over_counts before n h None = h
over_counts before n h (Some (Declares e)) = omega arith
over_counts before n h (Some (Uses m path body)) = omega arith
over_counts before n h (Some (UsesFurther m path further)) = omega arith
over_counts before n h (Some (Appears path prefix)) = omega arith
over_counts before n h (Some (Identifies path identity)) = omega arith
over_counts before n h (Some (TypePrefixes path text)) = omega arith

-- nor does more than that of one answer
with_counts : (a : Answer) (o : Option Answer) (n : ℕ) → count_in (Some a) ≤ n → count_in o ≤ n → (b : Bool) → count_in (cond b (Some a) o) ≤ n
with_counts a o n h g true = h
with_counts a o n h g false = g

-- counts of at most n
abbrev pub AtMost : World → ℕ → Type 0
AtMost w n = (k : Key) → count_in (w.answers k) ≤ n

AtMost-with_additions : (w : World) (n : ℕ) (additions : List Addition) → AtMost w n → AtMost (with_additions additions w) n
AtMost-with_additions w n additions h k = over_counts (w.answers k) n (h k) (addition_at (unstopped w.answers additions) k)

AtMost-more : (w : World) (n : ℕ) → AtMost w n → AtMost w (suc n)
AtMost-more w n h k = let at = h k in omega arith

AtMost-opening : (w : World) (n : ℕ) (s : Scope) → s.body ≤ n → AtMost w n → AtMost (after_opening w s) n
AtMost-opening w n s h g k =
    let none : 0 ≤ n = omega arith in
    with_counts (Open (s ∷ scopes_in (w.answers Cursor))) _ n none
    (with_counts (Count s.body) (w.answers k) n h (g k) (key_eq k (Opened s.path))) (key_eq k Cursor)

AtMost-nameless : (w : World) (n : ℕ) → AtMost w n → AtMost (after_nameless w) (suc n)
AtMost-nameless w n h k =
    let one : count_in (w.answers Nameless) + 1 ≤ suc n = (let at = h Nameless in omega arith) in
    with_counts (Count (count_in (w.answers Nameless) + 1)) (w.answers k) (suc n) one (AtMost-more w n h k) (key_eq k Nameless)

-- a prefix counts nothing
prefix_counts : (prefix : Prefix) (answers : Key → Option Answer) (n : ℕ) (k : Key) → count_in (answers k) ≤ n → count_in (with_prefix prefix answers k) ≤ n
prefix_counts prefix answers n k h =
    let none : 0 ≤ n = omega arith in
    with_counts (InForce prefix) (answers k) n none h (key_eq k PrefixKey)

AtMost-closing : (w : World) (n : ℕ) (scopes : List Scope) → AtMost w n → AtMost (after_closing w scopes) n
AtMost-closing w n [] h k = h k
AtMost-closing w n (s ∷ []) h k = h k
AtMost-closing w n (s ∷ t ∷ outer) h k =
    let none : 0 ≤ n = omega arith in
    prefix_counts (given_back w.before.opened) (with_answer Cursor (Open (t ∷ outer)) (λ q. over (closing w s) q (w.answers q))) n k
    (with_counts (Open (t ∷ outer)) (over (closing w s) k (w.answers k)) n none (over_counts (w.answers k) n (h k) (addition_at (closing w s) k)) (key_eq k Cursor))

AtMost-step : (w : World) (n : ℕ) (step : Step) → AtMost w n → AtMost (after_step w step) (suc n)
AtMost-step w n Stays h = AtMost-more w n h
AtMost-step w n (Opens path kind) h =
    let body : next_body w path ≤ suc n = (let at = h (Opened path) in omega arith) in
    AtMost-opening w (suc n) (record { path = path; kind = kind; body = next_body w path }) body (AtMost-more w n h)
AtMost-step w n (OpensNameless kind) h =
    let path = nameless (count_in (w.answers Nameless)) ∷ path_around (scopes_in (w.answers Cursor)) in
    let body : next_body w path ≤ suc n = (let at = h (Opened path) in omega arith) in
    AtMost-opening (after_nameless w) (suc n) (record { path = path; kind = kind; body = next_body w path }) body (AtMost-nameless w n h)
AtMost-step w n Closes h = AtMost-more (after_closing w (scopes_in (w.answers Cursor))) n (AtMost-closing w n (scopes_in (w.answers Cursor)) h)
AtMost-step w n (Prefixes text) h =
    let prefix : Prefix = record { text = text; scope = path_around (scopes_in (w.answers Cursor)) } in
    λ k. prefix_counts prefix w.answers (suc n) k (AtMost-more w n h k)
AtMost-step w n Enters h = λ k. prefix_counts no_prefix w.answers (suc n) k (AtMost-more w n h k)
AtMost-step w n Leaves h = λ k. prefix_counts (given_back w.before.entered) w.answers (suc n) k (AtMost-more w n h k)

AtMost-after_all : (facts : List UnitFacts) (w : World) (n : ℕ) → AtMost w n → AtMost (after_all w facts) (n + length facts)
AtMost-after_all [] w n h k = let at = h k in omega arith
AtMost-after_all (f ∷ facts) w n h k =
    let rest = AtMost-after_all facts (after w f) (suc n) (AtMost-step (with_additions f.additions w) n f.step (AtMost-with_additions w n f.additions h)) k in
    omega arith

first_counts : AtMost first_world 0
first_counts Cursor = omega arith
first_counts other = omega arith

count-after_all : (facts : List UnitFacts) (k : Key) → count_in ((after_all first_world facts).answers k) ≤ length facts
count-after_all facts k = let at = AtMost-after_all facts first_world 0 first_counts k in omega arith

pub world-is : (facts : List UnitFacts) → world facts ≡ after_all first_world facts
unfolding world
world-is facts = refl

-- a count is at most the number of units
pub count-world : (facts : List UnitFacts) (k : Key) → count_in ((world facts).answers k) ≤ length facts
count-world facts k = rw (world-is facts) (count-after_all facts k)

pub after_all-push : (facts : List UnitFacts) (f : UnitFacts) (w : World) → after_all w (facts ++ f ∷ []) ≡ after (after_all w facts) f
after_all-push [] f w = refl
after_all-push (g ∷ facts) f w = after_all-push facts f (after w g)

-- what one unit more comes to
pub world-push : (facts : List UnitFacts) (f : UnitFacts) → world (facts ++ f ∷ []) ≡ after (world facts) f
unfolding world
world-push facts f = after_all-push facts f first_world

-- what none come to
pub world-none : world [] ≡ first_world
unfolding world
world-none = refl
