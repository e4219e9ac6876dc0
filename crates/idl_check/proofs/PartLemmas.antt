-- The faults of names stand at their parts.
use Rattle.std.proofs.Common.{◌≡◌, ℕ, ◌+◌, ◌≤◌, Bool, true, false, cond, List, [], ◌∷◌, Result, Ok, Err, length, subst, sym, ap, ◌∙◌, arith}
use Rattle.idl_lex.specs.kinds.Keywords.{folded}
use Rattle.idl_memo.specs.Query.{Done, and_then, outcome, run}
use Rattle.idl_memo.proofs.QueryLaws.{outcome-and_then}
use Rattle.idl_entity.specs.Kind.{is_scope}
use Rattle.idl_scope.specs.Lookup.{Lookup, by_result, decided, denoted, first_part, found_as, further, has, judged, part_of, placed, reach_of, searched, under}
use Rattle.idl_env.specs.declared.answering.answer.Answer.{Answer}
use Rattle.idl_env.specs.declared.answering.answer.Scope.{Scope}
use Rattle.idl_entity.specs.declared.entity.Entity.{Entity}
use Rattle.idl_scope.specs.declared.fault.NameCode.{NameCode}
use Rattle.idl_scope.specs.declared.fault.NameCode.TheVariants.{NoScope}
use Rattle.idl_scope.specs.declared.fault.NameFault.{NameFault}
use Rattle.idl_scope.specs.declared.fault.NameFault.TheVariants.{At, Memory}
use Rattle.idl_scope.specs.declared.found.Found.{Found}
use Rattle.idl_scope.specs.declared.found.Reach.{Reach}
use Rattle.idl_env.specs.declared.keys.key.Key.{Key}
use Rattle.idl_tree.specs.declared.name.ScopedName.{ScopedName}
use Rattle.std.specs.Prelude.{Option}
use Rattle.idl_env.specs.Facts.{over}
use Rattle.idl_env.specs.keys.Key.{key_eq}
use Rattle.idl_env.specs.declared.additions.addition.Addition.{Addition}
use Rattle.idl_scope.proofs.FactsLaws.{outcome-under}

-- a fault stands at a part of which this holds, and is no want of memory
abbrev pub StandsAt : {A : Type 0} → (ℕ → Type 0) → Result A NameFault → Type 0
StandsAt P (Ok a) = Unit {0}
StandsAt P (Err Memory) = ⊥
StandsAt P (Err (At code part)) = P part

-- it stands at no later part than this one
abbrev pub IsUpTo : {A : Type 0} → ℕ → Result A NameFault → Type 0
IsUpTo last r = StandsAt (λ part. part ≤ last) r

module _ (P : ℕ → Type 0) where
  placed-at : (part : ℕ) (r : Result Entity NameCode) → P part → StandsAt P (placed part r)
  placed-at part (Ok e) h = tt
  placed-at part (Err code) h = h

  pub found_as-at : (reach : Reach) (r : Result Entity NameFault) → StandsAt P r → StandsAt P (found_as reach r)
  found_as-at reach (Ok e) h = tt
  found_as-at reach (Err Memory) h = h
  found_as-at reach (Err (At code part)) h = h

module _ (turns : ℕ) (bank : Key → Option Answer) where
  -- the rest of a name, behind a part that denotes this or has a fault
  abbrev pub behind : ℕ → List (List ℕ) → Result Entity NameFault → Lookup (Result Entity NameFault)
  behind part names r = by_result r (λ f. further turns part f names) (λ fault. Done (Err fault))

  -- what a name comes to from its first part
  abbrev pub from_first : List Scope → ScopedName → ℕ → Result Entity NameFault → Lookup (Result Found NameFault)
  from_first cursor name inside r =
      by_result r (λ first. and_then (further turns 0 first name.rest) (λ last. Done (found_as (reach_of name cursor inside first) last))) (λ fault. Done (Err fault))

  module _ (P : ℕ → Type 0) where
    pub part_of-at : (part : ℕ) (name : List ℕ) (there : Lookup (List Entity)) → P part → StandsAt P (outcome (part_of part name there) bank)
    part_of-at part name there h =
        rw (outcome-and_then there (λ found. Done (placed part (judged name found))) bank)
        (placed-at P part (judged name (outcome there bank)) h)

    pub behind-at : (part : ℕ) (names : List (List ℕ)) → ((f : Entity) → StandsAt P (outcome (further turns part f names) bank))
        → (r : Result Entity NameFault) → StandsAt P r → StandsAt P (outcome (behind part names r) bank)
    behind-at part names each (Ok f) h = each f
    behind-at part names each (Err fault) h = h

    scoped-at : (part : ℕ) (names : List (List ℕ)) (next : Lookup (Result Entity NameFault))
        → ((f : Entity) → StandsAt P (outcome (further turns (part + 1) f names) bank)) → StandsAt P (outcome next bank) → P part
        → (b : Bool) → StandsAt P (outcome (cond b (and_then next (behind (part + 1) names)) (Done (Err (At NoScope part)))) bank)
    scoped-at part names next each up h true =
        rw (outcome-and_then next (behind (part + 1) names) bank) (behind-at (part + 1) names each (outcome next bank) up)
    scoped-at part names next each up h false = h

    pub further-at : (part : ℕ) (e : Entity) (names : List (List ℕ)) → ((k : ℕ) → part ≤ k → k ≤ part + length names → P k)
        → StandsAt P (outcome (further turns part e names) bank)
    further-at part e [] h = tt
    further-at part e (name ∷ names) h =
        scoped-at part names (part_of (part + 1) name (has turns e.kind e.path (folded name)))
        (λ f. further-at (part + 1) f names (λ k from to. h k (omega (arith, from)) (omega (arith, to))))
        (part_of-at (part + 1) name (has turns e.kind e.path (folded name)) (h (part + 1) (omega arith) (omega arith)))
        (h part (omega arith) (omega arith)) (is_scope e.kind)

  -- the first part's
  pub first_part-at : (P : ℕ → Type 0) (cursor : List Scope) (name : ScopedName) → P 0 → StandsAt P (outcome (first_part turns cursor name) bank).0
  first_part-at P cursor name h =
      rw (outcome-and_then {B = Result Entity NameFault × ℕ} (decided turns 0 (searched name.is_global cursor) (folded name.first)) (λ d. Done (placed 0 (judged name.first d.0), d.1)) bank)
      (placed-at P 0 (judged name.first (outcome (decided turns 0 (searched name.is_global cursor) (folded name.first)) bank).0) h)

  from_first-IsUpTo : (cursor : List Scope) (name : ScopedName) (inside : ℕ) (r : Result Entity NameFault) → IsUpTo 0 r → IsUpTo (length name.rest) (outcome (from_first cursor name inside r) bank)
  from_first-IsUpTo cursor name inside (Ok first) h =
      rw (outcome-and_then (further turns 0 first name.rest) (λ last. Done (found_as (reach_of name cursor inside first) last)) bank)
      (found_as-at (λ part. part ≤ length name.rest) (reach_of name cursor inside first) (outcome (further turns 0 first name.rest) bank)
      (further-at (λ part. part ≤ length name.rest) 0 first name.rest (λ k from to. omega (arith, to))))
  from_first-IsUpTo cursor name inside (Err Memory) h = h
  from_first-IsUpTo cursor name inside (Err (At code part)) h = omega arith

  -- a name's fault stands at one of its parts
  pub denoted-IsUpTo : (cursor : List Scope) (name : ScopedName) → IsUpTo (length name.rest) (outcome (denoted turns cursor name) bank)
  denoted-IsUpTo cursor name =
      let first = outcome (first_part turns cursor name) bank in
      rw (outcome-and_then (first_part turns cursor name) (λ r. from_first cursor name r.1 r.0) bank)
      (from_first-IsUpTo cursor name first.1 first.0 (first_part-at (λ part. part ≤ 0) cursor name (omega arith)))

-- the part of a name's fault, as a run of its lookup tells it
pub part-within : (own : List Addition) (bank : Key → Option Answer) (turns : ℕ) (cursor : List Scope) (name : ScopedName) (log after : List (Key × Option Answer)) (code : NameCode) (part : ℕ)
    → (Err (At code part), after) ≡ run key_eq (under own (denoted turns cursor name)) bank log → part ≤ length name.rest
part-within own bank turns cursor name log after code part h =
    let same = ap (λ (p : Result Found NameFault × List (Key × Option Answer)). p.0) h ∙ outcome-under own bank (denoted turns cursor name) in
    subst (IsUpTo (length name.rest)) (sym same) (denoted-IsUpTo turns (λ k. over own k (bank k)) cursor name)
