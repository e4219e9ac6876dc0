-- Findings in the order of their events: a stable sort gives them, since two lists in order are one where each event has the
-- same findings in both.
use Rattle.std.proofs.Common.{◌≡◌, ℕ, zero, suc, ◌<◌, ◌≤◌, Bool, true, false, cond, not, ◌&&◌, List, [], ◌∷◌, None, length, get_or, drop, filter, ◌==◌, Less, Equal, Greater, nat_cmp, is_lt, nat_eq, nat_lt, nat_le, refl, sym, ap, ◌∙◌, arith, tests}
use Rattle.std.specs.List.Sorted.{IsNonDecreasingBy, IsStableByKey}
use Rattle.idl_fault.specs.declared.code.Code.TheVariants.{OpenScope}
use Rattle.idl_finding.specs.Findings.{among, found_at, in_order}
use Rattle.idl_finding.specs.declared.finding.EventFinding.{EventFinding}

-- those of an event
abbrev pub at : ℕ → List EventFinding → List EventFinding
at n found = filter (λ f. nat_eq n f.event) found

-- none names an event before this one
abbrev AreFrom : ℕ → List EventFinding → Type 0
AreFrom n [] = Unit {0}
AreFrom n (f ∷ found) = (n ≤ f.event) × AreFrom n found

-- none names an event before that of an earlier one
abbrev AreOrdered : List EventFinding → Type 0
AreOrdered [] = Unit {0}
AreOrdered (f ∷ found) = AreFrom f.event found × AreOrdered found

from-all : (n : ℕ) (found : List EventFinding) → ((k : ℕ) (d : EventFinding) → k < length found → n ≤ (get_or found k d).event) → AreFrom n found
from-all n [] h = tt
from-all n (f ∷ found) h = (h 0 f (omega arith), from-all n found (λ k d lt. h (suc k) d (omega arith)))

ordered-all : (found : List EventFinding) → IsNonDecreasingBy (λ f. f.event) found → AreOrdered found
ordered-all [] h = tt
ordered-all (f ∷ found) h =
    (from-all f.event found (λ k d lt. h 0 (suc k) d (omega arith) (omega arith)), ordered-all found (λ i j d le lt. h (suc i) (suc j) d (omega arith) (omega arith)))

from-less : (m n : ℕ) (found : List EventFinding) → m ≤ n → AreFrom n found → AreFrom m found
from-less m n [] le h = tt
from-less m n (f ∷ found) le h = (omega (arith, h.0), from-less m n found le h.1)

-- no finding of an event before all of them
at-before : (n : ℕ) (found : List EventFinding) → AreFrom (suc n) found → at n found ≡ []
at-before n [] h = refl
at-before n (f ∷ found) h =
    let other : nat_eq n f.event ≡ false = grind (arith, tests, h.0) in
    ap (λ b. cond b (f ∷ at n found) (at n found)) other ∙ at-before n found h.1

-- what is left of two equal lists whose first items are both there, or both not
left : (b : Bool) (f g : EventFinding) (l m : List EventFinding) → cond b (f ∷ l) l ≡ cond b (g ∷ m) m → l ≡ m
left true f g l m h = ap (drop 1) h
left false f g l m h = h

-- two lists in order are one, where each event has the same findings in both
ordered-once : (a b : List EventFinding) → AreOrdered a → AreOrdered b → ((n : ℕ) → at n a ≡ at n b) → a ≡ b
ordered-once [] [] p q same = refl
ordered-once [] (g ∷ b) p q same =
    let is : nat_eq g.event g.event ≡ true = grind (arith, tests) in
    let there : [] ≡ g ∷ at g.event b = same g.event ∙ ap (λ t. cond t (g ∷ at g.event b) (at g.event b)) is in
    absurd (cc)
ordered-once (f ∷ a) [] p q same =
    let is : nat_eq f.event f.event ≡ true = grind (arith, tests) in
    let there : [] ≡ f ∷ at f.event a = sym (same f.event) ∙ ap (λ t. cond t (f ∷ at f.event a) (at f.event a)) is in
    absurd (cc)
ordered-once (f ∷ a) (g ∷ b) p q same = by (nat_lt f.event g.event) (nat_lt g.event f.event) refl refl (ordered-once a b p.1 q.1)
  where
    here : nat_eq f.event f.event ≡ true
    here = grind (arith, tests)

    there : nat_eq g.event g.event ≡ true
    there = grind (arith, tests)

    by : (below above : Bool) → nat_lt f.event g.event ≡ below → nat_lt g.event f.event ≡ above
        → (((n : ℕ) → at n a ≡ at n b) → a ≡ b) → f ∷ a ≡ g ∷ b
    by true above h k next =
        let before : f.event < g.event = grind (arith, tests) in
        let none : at f.event (g ∷ b) ≡ [] = at-before f.event (g ∷ b) (omega (arith, before), from-less (suc f.event) g.event b (omega (arith, before)) q.0) in
        let some : f ∷ at f.event a ≡ [] = sym (ap (λ t. cond t (f ∷ at f.event a) (at f.event a)) here) ∙ same f.event ∙ none in
        absurd (cc)
    by false true h k next =
        let before : g.event < f.event = grind (arith, tests) in
        let none : at g.event (f ∷ a) ≡ [] = at-before g.event (f ∷ a) (omega (arith, before), from-less (suc g.event) f.event a (omega (arith, before)) p.0) in
        let some : g ∷ at g.event b ≡ [] = sym (ap (λ t. cond t (g ∷ at g.event b) (at g.event b)) there) ∙ sym (same g.event) ∙ none in
        absurd (cc)
    by false false h k next =
        let one : g.event ≡ f.event = grind (arith, tests) in
        let both : (n : ℕ) → cond (nat_eq n f.event) (f ∷ at n a) (at n a) ≡ cond (nat_eq n f.event) (g ∷ at n b) (at n b) = λ n. same n ∙ ap (λ e. cond (nat_eq n e) (g ∷ at n b) (at n b)) one in
        let firsts : f ∷ at f.event a ≡ g ∷ at f.event b =
        sym (ap (λ t. cond t (f ∷ at f.event a) (at f.event a)) here) ∙ both f.event ∙ ap (λ t. cond t (g ∷ at f.event b) (at f.event b)) here in
        let first : f ≡ g = ap (λ l. get_or l 0 f) firsts in
        let rest : a ≡ b = next (λ n. left (nat_eq n f.event) f g (at n a) (at n b) (both n)) in
        λ i. first i ∷ rest i

-- two findings of different events are found in either order
passed : (p q : Bool) (f g : EventFinding) (l : List EventFinding) → (p ≡ true → q ≡ false)
    → cond q (g ∷ cond p (f ∷ l) l) (cond p (f ∷ l) l) ≡ cond p (f ∷ cond q (g ∷ l) l) (cond q (g ∷ l) l)
passed true true f g l h = absurd (cc (h refl))
passed true false f g l h = refl
passed false true f g l h = refl
passed false false f g l h = refl

at-among : (n : ℕ) (f : EventFinding) (found : List EventFinding) → at n (among f found) ≡ at n (f ∷ found)
at-among n f [] = refl
at-among n f (g ∷ found) = by (nat_le f.event g.event) refl (at-among n f found)
  where
    by : (b : Bool) → nat_le f.event g.event ≡ b → at n (among f found) ≡ at n (f ∷ found)
        → at n (cond b (f ∷ g ∷ found) (g ∷ among f found)) ≡ at n (f ∷ g ∷ found)
    by true h next = refl
    by false h next =
        ap (λ l. cond (nat_eq n g.event) (g ∷ l) l) next
        ∙ passed (nat_eq n f.event) (nat_eq n g.event) f g (at n found) (λ t. grind (arith, tests, t, h))

from-among : (n : ℕ) (f : EventFinding) (found : List EventFinding) → n ≤ f.event → AreFrom n found → AreFrom n (among f found)
from-among n f [] le h = (le, tt)
from-among n f (g ∷ found) le h = by (nat_le f.event g.event) (from-among n f found le h.1)
  where
    by : (b : Bool) → AreFrom n (among f found) → AreFrom n (cond b (f ∷ g ∷ found) (g ∷ among f found))
    by true next = (le, h)
    by false next = (h.0, next)

ordered-among : (f : EventFinding) (found : List EventFinding) → AreOrdered found → AreOrdered (among f found)
ordered-among f [] h = (tt, tt)
ordered-among f (g ∷ found) h = by (nat_le f.event g.event) refl (ordered-among f found h.1)
  where
    by : (b : Bool) → nat_le f.event g.event ≡ b → AreOrdered (among f found) → AreOrdered (cond b (f ∷ g ∷ found) (g ∷ among f found))
    by true e next =
        let le : f.event ≤ g.event = grind (arith, tests, e) in
        ((le, from-less f.event g.event found le h.0), h)
    by false e next =
        let le : g.event ≤ f.event = grind (arith, tests, e) in
        (from-among g.event f found le h.0, next)

pub at-in_order : (n : ℕ) (found : List EventFinding) → at n (in_order found) ≡ at n found
at-in_order n [] = refl
at-in_order n (f ∷ found) =
    at-among n f (in_order found) ∙ ap (λ l. cond (nat_eq n f.event) (f ∷ l) l) (at-in_order n found)

ordered-in_order : (found : List EventFinding) → AreOrdered (in_order found)
ordered-in_order [] = tt
ordered-in_order (f ∷ found) = ordered-among f (in_order found) (ordered-in_order found)

less : (a b : ℕ) → is_lt (nat_cmp a b) ≡ nat_lt a b
less a b = by (nat_lt a b) (a == b)
  where
    by : (p q : Bool) → is_lt (cond p Less (cond q Equal Greater)) ≡ p
    by true q = refl
    by false true = refl
    by false false = refl

at_least-from : (n : ℕ) (found : List EventFinding) (k : ℕ) (d : EventFinding) → AreFrom n found → k < length found → n ≤ (get_or found k d).event
at_least-from n [] k d h lt = absurd (omega arith)
at_least-from n (f ∷ found) zero d h lt = h.0
at_least-from n (f ∷ found) (suc k) d h lt = at_least-from n found k d h.1 (omega arith)

rises-ordered : (found : List EventFinding) → AreOrdered found → IsNonDecreasingBy (λ f. f.event) found
rises-ordered [] h i j d le lt = absurd (omega arith)
rises-ordered (f ∷ found) h zero zero d le lt = omega arith
rises-ordered (f ∷ found) h zero (suc j) d le lt = at_least-from f.event found j d h.0 (omega arith)
rises-ordered (f ∷ found) h (suc i) zero d le lt = absurd (omega arith)
rises-ordered (f ∷ found) h (suc i) (suc j) d le lt = rises-ordered found h.1 i j d (omega arith) (omega arith)

pub in_order-rises : (found : List EventFinding) → IsNonDecreasingBy (λ f. f.event) (in_order found)
in_order-rises found = rises-ordered (in_order found) (ordered-in_order found)

-- numbers that tie are one
tied : (a b : ℕ) → not (is_lt (nat_cmp a b)) && not (is_lt (nat_cmp b a)) ≡ nat_eq a b
tied a b = (λ i. not (less a b i) && not (less b a i)) ∙ grind (arith, tests)

-- what a stable sort by the event gives
pub in_order-sorted : (found sorted : List EventFinding) → IsNonDecreasingBy (λ f. f.event) sorted → IsStableByKey (λ f. f.event) nat_cmp found sorted → sorted ≡ in_order found
in_order-sorted found sorted up stable =
    ordered-once sorted (in_order found) (ordered-all sorted up) (ordered-in_order found) (λ n. kept n sorted found (stable (of n)) ∙ sym (at-in_order n found))
  where
    of : ℕ → EventFinding
    of n = found_at n (record { file = []; line = 0 }) OpenScope None

    kept : (n : ℕ) (a b : List EventFinding) → filter (λ g. not (is_lt (nat_cmp n g.event)) && not (is_lt (nat_cmp g.event n))) a ≡ filter (λ g. not (is_lt (nat_cmp n g.event)) && not (is_lt (nat_cmp g.event n))) b → at n a ≡ at n b
    kept n a b h = (sym (λ i. filter (λ g. tied n g.event i) a)) ∙ h ∙ (λ i. filter (λ g. tied n g.event i) b)
