-- Findings in the order of lines, each once.
use Rattle.std.proofs.Common.{◌≡◌, ◌∙◌, ◌+◌, ◌<◌, ◌≤◌, ◌&&◌, ◌||◌, ◌==◌, ℕ, zero, suc, Bool, true, false, cond, not, List, [], ◌∷◌, ◌++◌, None, Less, Equal, Greater, nat_cmp, is_lt, nat_eq, nat_lt, filter, length, get_or, map, take, ap, arith, refl, sym, tests}
use Rattle.std.proofs.lemmas.Bool.{not-false, not-true}
use Rattle.std.proofs.lemmas.List.{map-append, take_more}
use Rattle.std.proofs.lemmas.List.Sums.{fold-append}
use Rattle.std.specs.List.{list_any}
use Rattle.std.specs.List.Sorted.{IsNonDecreasingBy, IsStableByKey}
use Rattle.std.specs.Option.{option_eq}
use Rattle.std.specs.Prelude.{if◌then◌else◌}
use Rattle.std.specs.Str.{bytes_eq}
use Rattle.indexmap.specs.IndexSet.{insert_key}
use Rattle.idl_fault.specs.Code.{number_of}
use Rattle.idl_fault.specs.declared.code.Code.TheVariants.{OpenScope}
use Rattle.idl_finding.specs.declared.finding.Finding.{Finding}
use Rattle.idl_editor.specs.contracts.told.found.FindingKeyPartialEq.TheImpl.{ghosts}
use Rattle.idl_editor.specs.declared.told.found.FindingKey.{FindingKey}
use Rattle.idl_editor.specs.declared.told.found.RootFinding.{RootFinding}
use Rattle.idl_editor.specs.told.Found.{AreFrom, AreInOrder, each_once, findings_in, is_on, is_same, key_of, with_one}

-- ---- each once

same-key : (x f : Finding) → ghosts.eq (key_of x) (key_of f) ≡ is_same x f
same-key x f =
    nested (nat_eq x.place.line f.place.line) (nat_eq (number_of x.code) (number_of f.code)) (option_eq bytes_eq x.text f.text) (option_eq nat_eq x.number f.number)
  where
    nested : (a b c d : Bool) → a && (b && (c && d)) ≡ (a && b) && (c && d)
    nested true true c d = refl
    nested true false c d = refl
    nested false b c d = refl

any-key : (x : Finding) (fs : List Finding) → list_any (ghosts.eq (key_of x)) (map key_of fs) ≡ list_any (is_same x) fs
any-key x [] = refl
any-key x (f ∷ fs) = λ i. same-key x f i || any-key x fs i

module _ (found : List RootFinding) (i : ℕ) (one : RootFinding) (once : List RootFinding) (keys : List FindingKey) (key : FindingKey) (b : Bool)
    (within : i < length found) (is : one ≡ get_or found i one) (are : keys ≡ map key_of (findings_in once)) (so : findings_in once ≡ each_once (findings_in (take i found)))
    (of : key ≡ key_of one.finding.now) (added : b ≡ not (list_any (ghosts.eq key) keys)) where
  any-told : list_any (ghosts.eq key) keys ≡ list_any (is_same one.finding.now) (findings_in once)
  any-told = (λ j. list_any (ghosts.eq (of j)) (are j)) ∙ any-key one.finding.now (findings_in once)

  each-next : each_once (findings_in (take (i + 1) found)) ≡ with_one (findings_in once) one.finding.now
  each-next =
      ap (λ (rs : List RootFinding). each_once (findings_in rs)) (take_more found i one within ∙ ap (λ (y : RootFinding). take i found ++ y ∷ []) (sym is))
      ∙ ap each_once (map-append (λ (r : RootFinding). r.finding.now) (take i found) (one ∷ []))
      ∙ fold-append with_one [] (findings_in (take i found)) (one.finding.now ∷ [])
      ∙ ap (λ (fs : List Finding). with_one fs one.finding.now) (sym so)

  -- one that tells another thing goes last
  pub once-new : (next : List FindingKey) (after : List RootFinding) → b ≡ true → next ≡ insert_key ghosts.eq keys key → after ≡ once ++ one ∷ []
      → (next ≡ map key_of (findings_in after)) × (findings_in after ≡ each_once (findings_in (take (i + 1) found)))
  once-new next after new inserted pushed =
      let none : list_any (ghosts.eq key) keys ≡ false = not-true _ (sym added ∙ new) in
      let more : findings_in after ≡ findings_in once ++ one.finding.now ∷ [] = ap findings_in pushed ∙ map-append (λ (r : RootFinding). r.finding.now) once (one ∷ []) in (
        inserted ∙ ap (λ (c : Bool). if c then keys else keys ++ key ∷ []) none ∙ (λ j. are j ++ of j ∷ [])
            ∙ sym (map-append key_of (findings_in once) (one.finding.now ∷ [])) ∙ ap (map key_of) (sym more),
        more ∙ sym (ap (λ (c : Bool). if c then findings_in once else findings_in once ++ one.finding.now ∷ []) (sym any-told ∙ none)) ∙ sym each-next,
      )

  -- one that tells the same is left out
  pub once-old : (next : List FindingKey) → b ≡ false → next ≡ insert_key ghosts.eq keys key
      → (next ≡ map key_of (findings_in once)) × (findings_in once ≡ each_once (findings_in (take (i + 1) found)))
  once-old next old inserted =
      let some : list_any (ghosts.eq key) keys ≡ true = not-false _ (sym added ∙ old) in (
        inserted ∙ ap (λ (c : Bool). if c then keys else keys ++ key ∷ []) some ∙ are,
        sym (ap (λ (c : Bool). if c then findings_in once else findings_in once ++ one.finding.now ∷ []) (sym any-told ∙ some)) ∙ sym each-next,
      )

-- ---- the order of lines

-- where a finding of a root stands
abbrev pub line_of : RootFinding → ℕ
line_of one = one.finding.now.place.line

rises-from : (line : ℕ) (found : List RootFinding) → ((k : ℕ) (d : RootFinding) → k < length found → line ≤ line_of (get_or found k d)) → IsNonDecreasingBy line_of found
    → AreFrom line (findings_in found)
rises-from line [] from up = tt
rises-from line (f ∷ found) from up =
    (from 0 f (omega arith), rises-from (line_of f) found (λ k d lt. up 0 (suc k) d (omega arith) (omega arith)) (λ i j d le lt. up (suc i) (suc j) d (omega arith) (omega arith)))

filter-findings : (p : Finding → Bool) (found : List RootFinding) → filter p (findings_in found) ≡ findings_in (filter (λ (r : RootFinding). p r.finding.now) found)
filter-findings p [] = refl
filter-findings p (f ∷ found) = by (p f.finding.now) (filter-findings p found)
  where
    by : (b : Bool) → filter p (findings_in found) ≡ findings_in (filter (λ (r : RootFinding). p r.finding.now) found)
        → cond b (f.finding.now ∷ filter p (findings_in found)) (filter p (findings_in found))
        ≡ findings_in (cond b (f ∷ filter (λ (r : RootFinding). p r.finding.now) found) (filter (λ (r : RootFinding). p r.finding.now) found))
    by true rest = ap (λ (fs : List Finding). f.finding.now ∷ fs) rest
    by false rest = rest

less : (a b : ℕ) → is_lt (nat_cmp a b) ≡ nat_lt a b
less a b = by (nat_lt a b) (a == b)
  where
    by : (p q : Bool) → is_lt (cond p Less (cond q Equal Greater)) ≡ p
    by true q = refl
    by false true = refl
    by false false = refl

-- numbers that tie are one
tied : (a b : ℕ) → not (is_lt (nat_cmp a b)) && not (is_lt (nat_cmp b a)) ≡ nat_eq a b
tied a b = (λ i. not (less a b i) && not (less b a i)) ∙ grind (arith, tests)

-- what a stable sort by the line gives
pub in-order : (found once ordered : List RootFinding) → findings_in once ≡ each_once (findings_in found) → IsNonDecreasingBy line_of ordered → IsStableByKey line_of nat_cmp once ordered
    → AreInOrder (each_once (findings_in found)) (findings_in ordered)
in-order found once ordered so up stable = record {
  lines = rises-from 0 ordered (λ k d lt. omega arith) up;
  same = λ line.
      filter-findings (is_on line) ordered ∙ ap findings_in (on line ordered once (stable (of line))) ∙ sym (filter-findings (is_on line) once) ∙ ap (filter (is_on line)) so;
}
  where
    of : ℕ → RootFinding
    of line = record {
      root = 0;
      index = 0;
      finding = record { ref_ptr = (0, 0); now = record { place = record { file = []; line = line }; code = OpenScope; text = None; number = None } };
    }

    on : (line : ℕ) (a b : List RootFinding)
        → filter (λ g. not (is_lt (nat_cmp line (line_of g))) && not (is_lt (nat_cmp (line_of g) line))) a ≡ filter (λ g. not (is_lt (nat_cmp line (line_of g))) && not (is_lt (nat_cmp (line_of g) line))) b
        → filter (λ (g : RootFinding). is_on line g.finding.now) a ≡ filter (λ (g : RootFinding). is_on line g.finding.now) b
    on line a b h = (sym (λ i. filter (λ g. tied line (line_of g) i) a)) ∙ h ∙ (λ i. filter (λ g. tied line (line_of g) i) b)

-- ---- the first ones

pub findings-take : (n : ℕ) (found : List RootFinding) → findings_in (take n found) ≡ take n (findings_in found)
findings-take zero found = refl
findings-take (suc n) [] = refl
findings-take (suc n) (first ∷ found) = ap (λ gs. first.finding.now ∷ gs) (findings-take n found)
