-- A name that is cut: where a fault is known at its first token, what is wrong behind that doesn't count.
use Rattle.std.proofs.Common.{◌≡◌, ◌∙◌, ℕ, ◌<◌, ◌≤◌, Bool, true, false, cond, List, [], ◌∷◌, length, Option, Some, Result, Ok, Err, refl, sym, ap, subst, arith}
use Rattle.std.proofs.lemmas.List.Elements.{All-cons, All-nil}
use Rattle.idl_check.specs.tables.Codes.{codes_in}
use Rattle.idl_tree.specs.NameParts.{last_at, part_at}
use Rattle.idl_check.specs.told.Types.{looked_through}
use Rattle.idl_check.specs.tables.Using.{name_code, used_table}
use Rattle.idl_check.specs.walk.Walk.{Visit, Walk, head_faults, head_of, head_visit, noted, used, used_visit, turns_at}
use Rattle.idl_fault.specs.declared.code.Code.TheVariants.{NoScope}
use Rattle.idl_lex.specs.kinds.Keywords.{folded}
use Rattle.idl_memo.proofs.QueryLaws.{outcome-and_then}
use Rattle.idl_memo.specs.Query.{Done, and_then, outcome}
use Rattle.idl_scope.proofs.FactsLaws.{outcome-under}
use Rattle.idl_env.specs.Facts.{over}
use Rattle.idl_entity.specs.Kind.{is_scope}
use Rattle.idl_scope.specs.Lookup.{Lookup, denoted, first_part, found_as, further, has, part_of, reach_of, under}
use Rattle.idl_env.specs.declared.answering.answer.Answer.{Answer}
use Rattle.idl_env.specs.declared.answering.answer.Scope.{Scope}
use Rattle.idl_entity.specs.declared.entity.Entity.{Entity}
use Rattle.idl_scope.specs.declared.fault.NameCode.TheVariants as why
use Rattle.idl_scope.specs.declared.fault.NameFault.{NameFault}
use Rattle.idl_scope.specs.declared.fault.NameFault.TheVariants.{At, Memory}
use Rattle.idl_scope.specs.declared.found.Found.{Found}
use Rattle.idl_env.specs.declared.keys.key.Key.{Key}
use Rattle.idl_parts.specs.Part.{Part as item}
use Rattle.idl_parts.specs.declared.part.Use.{Use}
use Rattle.idl_tree.proofs.NameLemmas.{behind_name}
use Rattle.idl_tree.specs.declared.name.ScopedName.{ScopedName}
use Rattle.idl_unit.specs.TokenRules.{fault_at}
use Rattle.idl_unit.specs.declared.fault.Fault.{Fault}
use Rattle.idl_check.proofs.Faults.FaultOrder.{all-at}
use Rattle.idl_check.proofs.Faults.NotedLemmas.{IsLater, noted-later}
use Rattle.idl_check.proofs.PartLemmas.{IsUpTo, StandsAt, behind, behind-at, first_part-at, found_as-at, from_first, further-at, part_of-at}
use Rattle.idl_check.proofs.Visits.SiteLaws.{IsPlaced, denoted-up, plain-placed, used-begins, used_by}
use Rattle.idl_check.proofs.Visits.VisitLemmas.{cut_by}

-- ---- faults behind a token

-- a fault stands at no earlier part than this one
abbrev pub IsFromPart : {A : Type 0} → ℕ → Result A NameFault → Type 0
IsFromPart from r = StandsAt (λ part. from ≤ part) r

from-first : {A : Type 0} (n : ℕ) (r : Result A NameFault) → IsUpTo n r → IsFromPart 0 r
from-first n (Ok a) up = tt
from-first n (Err Memory) up = up
from-first n (Err (At code part)) up = omega arith

-- how many tokens stand before the first part of a name
abbrev leading : Bool → ℕ
leading b = cond b 1 0

-- where a part of a name stands that begins with no `::`
part-zero : (name : ScopedName) (at part : ℕ) → name.is_global ≡ false → part ≤ 0 → part_at at name part ≡ at
part-zero name at part local le = let h : leading name.is_global ≡ 0 = ap leading local in omega (arith, h, le)

-- and one that does, or a later part
part-global : (name : ScopedName) (at part : ℕ) → name.is_global ≡ true → at < part_at at name part
part-global name at part is_global = let h : leading name.is_global ≡ 1 = ap leading is_global in omega (arith, h)

part-later : (name : ScopedName) (at part : ℕ) → 1 ≤ part → at < part_at at name part
part-later name at part le = omega (arith, le)

module _ (turns : ℕ) (bank : Key → Option Answer) where
  -- behind a scope
  inside-from : (names : List (List ℕ)) (next : Lookup (Result Entity NameFault)) → IsFromPart 1 (outcome next bank) → (b : Bool) → b ≡ true
      → IsFromPart 1 (outcome (cond b (and_then next (behind turns bank 1 names)) (Done (Err (At why.NoScope 0)))) bank)
  inside-from names next up true h =
      rw (outcome-and_then next (behind turns bank 1 names) bank)
      (behind-at turns bank (λ part. 1 ≤ part) 1 names (λ f. further-at turns bank (λ part. 1 ≤ part) 1 f names (λ k from to. from)) (outcome next bank) up)
  inside-from names next up false h = cc

  scope-from : (e : Entity) (name : List ℕ) (names : List (List ℕ)) → is_scope e.kind ≡ true → IsFromPart 1 (outcome (further turns 0 e (name ∷ names)) bank)
  scope-from e name names h =
      inside-from names (part_of 1 name (has turns e.kind e.path (folded name)))
      (part_of-at turns bank (λ part. 1 ≤ part) 1 name (has turns e.kind e.path (folded name)) (omega arith)) (is_scope e.kind) h

  other-is : (e : Entity) (name : List ℕ) (names : List (List ℕ)) → is_scope e.kind ≡ false → outcome (further turns 0 e (name ∷ names)) bank ≡ Err (At why.NoScope 0)
  other-is e name names h =
      ap (λ b. outcome (cond b (and_then (part_of 1 name (has turns e.kind e.path (folded name))) (behind turns bank 1 names)) (Done (Err (At why.NoScope 0)))) bank) h

  abbrev first_of : List Scope → ScopedName → Result Entity NameFault
  first_of cursor name = (outcome (first_part turns cursor name) bank).0

  -- how many scopes are inside the one that decides it
  abbrev inside_of : List Scope → ScopedName → ℕ
  inside_of cursor name = (outcome (first_part turns cursor name) bank).1

  denoted-is : (cursor : List Scope) (name : ScopedName) → outcome (denoted turns cursor name) bank ≡ outcome (from_first turns bank cursor name (inside_of cursor name) (first_of cursor name)) bank
  denoted-is cursor name = outcome-and_then (first_part turns cursor name) (λ r. from_first turns bank cursor name r.1 r.0) bank

  first-is : (cursor : List Scope) (name : ScopedName) (inside : ℕ) (e : Entity)
      → outcome (from_first turns bank cursor name inside (Ok e)) bank ≡ found_as (reach_of name cursor inside e) (outcome (further turns 0 e name.rest) bank)
  first-is cursor name inside e = outcome-and_then (further turns 0 e name.rest) (λ last. Done (found_as (reach_of name cursor inside e) last)) bank

-- ---- the faults of the name, and of its first part

module _ (turns : ℕ) (answers : Key → Option Answer) (way : Use) (name : ScopedName) (w : Walk) where
  abbrev bank : Key → Option Answer
  bank k = over w.own k (answers k)

  -- by what it denotes
  abbrev faults_of : Result Found NameFault → List Fault
  faults_of r = (outcome (used_by turns answers way name w r) answers).faults

  faults-later : (from : ℕ) → ((part : ℕ) → from ≤ part → w.at < part_at w.at name part) → from ≤ length name.rest → (r : Result Found NameFault) → IsFromPart from r → IsLater w.at (faults_of r)
  faults-later from later le (Ok found) h =
      let query = under w.own (looked_through (turns_at turns w) way found.entity) in
      subst (λ (v : Visit). IsLater w.at v.faults) (sym (outcome-and_then query (λ behind. Done (used_visit w way name found behind)) answers))
      (all-at (λ f. w.at < f.index) (last_at w.at name) (λ c. later (length name.rest) le) (codes_in (used_table way w.bases found.entity (outcome query answers))))
  faults-later from later le (Err (At code part)) h = All-cons (λ f. w.at < f.index) (fault_at (part_at w.at name part) (name_code code)) [] (later part h) (All-nil (λ f. w.at < f.index))
  faults-later from later le (Err Memory) h = absurd h

  -- the whole name
  abbrev pub named : Visit
  named = outcome (used turns way name w) answers

  named-is : named ≡ outcome (used_by turns answers way name w (outcome (under w.own (denoted (turns_at turns w) w.cursor name)) answers)) answers
  unfolding used
  named-is = outcome-and_then (under w.own (denoted (turns_at turns w) w.cursor name)) (used_by turns answers way name w) answers

  -- and what is looked at of it
  abbrev pub cut : Bool → List (List ℕ) → Visit
  cut is_global parts = outcome (cut_by turns way name w is_global parts) answers

  abbrev head : Lookup (Result Found NameFault)
  head = under w.own (denoted (turns_at turns w) w.cursor (head_of name))

  -- a fault that is known by its first token
  module _ (f : Fault) (known : f.index ≤ w.at) where
    scoped-same : (inside : ℕ) (e : Entity) (part : List ℕ) (parts : List (List ℕ)) → name.is_global ≡ false → name.rest ≡ part ∷ parts → (b : Bool) → is_scope e.kind ≡ b
        → noted (Some f) (cond b [] (fault_at w.at NoScope ∷ [])) ≡ noted (Some f) (faults_of (outcome (from_first (turns_at turns w) bank w.cursor name inside (Ok e)) bank))
    scoped-same inside e part parts local rest true scope =
        let r = outcome (from_first (turns_at turns w) bank w.cursor name inside (Ok e)) bank in
        let later : IsFromPart 1 (outcome (further (turns_at turns w) 0 e name.rest) bank) = subst (λ names. IsFromPart 1 (outcome (further (turns_at turns w) 0 e names) bank)) (sym rest) (scope-from (turns_at turns w) bank e part parts scope) in
        let up : IsFromPart 1 r = subst (IsFromPart 1) (sym (first-is (turns_at turns w) bank w.cursor name inside e)) (found_as-at (λ part. 1 ≤ part) (reach_of name w.cursor inside e) (outcome (further (turns_at turns w) 0 e name.rest) bank) later) in
        let some : 1 ≤ length name.rest = omega (arith, ap length rest) in
        sym (noted-later f w.at (faults_of r) known (faults-later 1 (λ p le. part-later name w.at p le) some r up))
    scoped-same inside e part parts local rest false scope =
        let none : outcome (further (turns_at turns w) 0 e name.rest) bank ≡ Err (At why.NoScope 0) = ap (λ names. outcome (further (turns_at turns w) 0 e names) bank) rest ∙ other-is (turns_at turns w) bank e part parts scope in
        let is : outcome (from_first (turns_at turns w) bank w.cursor name inside (Ok e)) bank ≡ Err (At why.NoScope 0) = first-is (turns_at turns w) bank w.cursor name inside e ∙ ap (found_as (reach_of name w.cursor inside e)) none in
        ap (λ n. noted (Some f) (fault_at n NoScope ∷ [])) (sym (part-zero name w.at 0 local (omega arith)))
        ∙ ap (λ r. noted (Some f) (faults_of r)) (sym is)

    parts-same : (inside : ℕ) (part : List ℕ) (parts : List (List ℕ)) → name.is_global ≡ false → name.rest ≡ part ∷ parts → (p : Result Entity NameFault) → IsUpTo 0 p
        → noted (Some f) (head_faults w.at (outcome (from_first (turns_at turns w) bank w.cursor (head_of name) inside p) bank)) ≡ noted (Some f) (faults_of (outcome (from_first (turns_at turns w) bank w.cursor name inside p) bank))
    parts-same inside part parts local rest (Ok e) up = scoped-same inside e part parts local rest (is_scope e.kind) refl
    parts-same inside part parts local rest (Err (At code n)) up = ap (λ m. noted (Some f) (fault_at m (name_code code) ∷ [])) (sym (part-zero name w.at n local up))
    parts-same inside part parts local rest (Err Memory) up = absurd up

    -- what counts stands there
    pub cut-same : (is_global : Bool) (parts : List (List ℕ)) → name.is_global ≡ is_global → name.rest ≡ parts → noted (Some f) (cut is_global parts).faults ≡ noted (Some f) named.faults
    cut-same true parts global rest =
        let r = outcome (under w.own (denoted (turns_at turns w) w.cursor name)) answers in
        let later = faults-later 0 (λ p le. part-global name w.at p global) (omega arith) r (from-first (length name.rest) r (denoted-up turns answers name w)) in
        sym (noted-later f w.at named.faults known (subst (λ (v : Visit). IsLater w.at v.faults) (sym named-is) later))
    cut-same false [] local rest = refl
    cut-same false (part ∷ parts) local rest =
        let up = first_part-at (turns_at turns w) bank (λ part. part ≤ 0) w.cursor name (omega arith) in
        ap (λ (v : Visit). noted (Some f) v.faults) (outcome-and_then head (λ r. Done (head_visit name w r)) answers)
        ∙ ap (λ r. noted (Some f) (head_faults w.at r)) (outcome-under w.own answers (denoted (turns_at turns w) w.cursor (head_of name)) ∙ denoted-is (turns_at turns w) bank w.cursor (head_of name))
        ∙ parts-same (inside_of (turns_at turns w) bank w.cursor name) part parts local rest (first_of (turns_at turns w) bank w.cursor name) up
        ∙ ap (λ r. noted (Some f) (faults_of r)) (sym (outcome-under w.own answers (denoted (turns_at turns w) w.cursor name) ∙ denoted-is (turns_at turns w) bank w.cursor name))
        ∙ ap (λ (v : Visit). noted (Some f) v.faults) (sym named-is)

  -- ---- behind the name

  -- a walk is past its first token, and in no other expression than before
  abbrev pub IsPast : Visit → Type 0
  IsPast v = (w.at < v.after.at) × (v.after.values.begin ≡ w.values.begin)

  pub named-past : IsPast named
  named-past =
      let p : IsPlaced (item.Uses way name) w named = plain-placed turns answers way name w in
      (omega (arith, p.passes, behind_name w.at name), used-begins turns answers way name w)

  pub cut-past : (is_global : Bool) (parts : List (List ℕ)) → IsPast (cut is_global parts)
  cut-past true parts = (omega (arith, behind_name w.at name), refl)
  cut-past false [] = named-past
  cut-past false (part ∷ parts) =
      subst IsPast (sym (outcome-and_then head (λ r. Done (head_visit name w r)) answers)) (omega (arith, behind_name w.at name), refl)
