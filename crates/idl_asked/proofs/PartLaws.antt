-- Where a name has a fault at one of its parts, nothing is asked of a later one.
use Rattle.std.proofs.Common.{◌≡◌, ℕ, zero, suc, ◌+◌, ◌≤◌, ◌<◌, Bool, true, false, cond, List, [], ◌∷◌, length, Option, Result, Ok, Err, ap, ◌∙◌, sym, subst, arith}
use Rattle.idl_asked.proofs.NameLaws.{first-Ok, first-is, part-Ok, part-is, part_and_on}
use Rattle.idl_asked.specs.Names.{AsksFurther, AsksName}
use Rattle.idl_check_laws.proofs.IdlCheck.PartLemmas.{StandsAt, behind, behind-at, denoted-IsUpTo, found_as-at, from_first, further-at, part_of-at}
use Rattle.idl_entity.specs.Kind.{is_scope}
use Rattle.idl_entity.specs.declared.entity.Entity.{Entity}
use Rattle.idl_entity.specs.idl_tree.declared.name.ScopedName.{ScopedName}
use Rattle.idl_env.specs.declared.answering.answer.Answer.{Answer}
use Rattle.idl_env.specs.declared.answering.answer.Scope.{Scope}
use Rattle.idl_env.specs.declared.keys.key.Key.{Key}
use Rattle.idl_lex.specs.kinds.Keywords.{folded}
use Rattle.idl_memo.proofs.QueryLaws.{outcome-and_then}
use Rattle.idl_memo.specs.Query.{Done, outcome}
use Rattle.idl_scope.proofs.Worlds.{AreGrounded}
use Rattle.idl_scope.specs.Lookup.{denoted, first_part, found_as, further, has, part_of, placed, reach_of}
use Rattle.idl_scope.specs.declared.fault.NameCode.TheVariants.{NoScope}
use Rattle.idl_scope.specs.declared.fault.NameFault.{NameFault}
use Rattle.idl_scope.specs.declared.fault.NameFault.TheVariants.{At, Memory}

stands-weaker : {A : Type 0} (P Q : ℕ → Type 0) → ((q : ℕ) → P q → Q q) → (r : Result A NameFault) → StandsAt P r → StandsAt Q r
stands-weaker P Q f (Ok a) h = tt
stands-weaker P Q f (Err Memory) h = h
stands-weaker P Q f (Err (At code part)) h = f part h

module _ (bank : Key → Option Answer) where
  -- a part that is asked is there
  further-within : (e : Entity) (names : List (List ℕ)) (p : ℕ) (k : Key) → AsksFurther bank e names p k → p < length names
  further-within e [] p k a = absurd a
  further-within e (name ∷ names) zero k a = omega arith
  further-within e (name ∷ names) (suc p) k a = let rest = further-within a.1 names p k a.3 in omega (arith, rest)

  pub name-within : (cursor : List Scope) (name : ScopedName) (p : ℕ) (k : Key) → AsksName bank cursor name p k → p ≤ length name.rest
  name-within cursor name zero k a = omega arith
  name-within cursor name (suc p) k a = let rest = further-within a.0 name.rest p k a.2 in omega (arith, rest)

module _ (places : List (List (List ℕ))) (bank : Key → Option Answer) (g : AreGrounded places bank) (turns : ℕ) (enough : length places ≤ turns) where
  -- a part in what another denotes, where that is a scope
  scope-till : (P : ℕ → Type 0) (part : ℕ) (e : Entity) (name : List ℕ) (names : List (List ℕ)) → is_scope e.kind ≡ true
      → StandsAt P (outcome (part_and_on places bank g turns enough (part + 1) e name names) bank) → StandsAt P (outcome (further turns part e (name ∷ names)) bank)
  scope-till P part e name names is h = by_kind (is_scope e.kind) is
    where
      by_kind : (b : Bool) → b ≡ true → StandsAt P (outcome (cond b (part_and_on places bank g turns enough (part + 1) e name names) (Done (Err (At NoScope part)))) bank)
      by_kind true is = h
      by_kind false is = absurd (let no : false ≡ true = is in cc)

  first-till : (P : ℕ → Type 0) (part : ℕ) (e : Entity) (name : List ℕ) (names : List (List ℕ)) → ((q : ℕ) → part + 1 ≤ q → P q)
      → StandsAt P (outcome (part_and_on places bank g turns enough (part + 1) e name names) bank)
  first-till P part e name names later =
      let there = has turns e.kind e.path (folded name) in
      subst (StandsAt P) (sym (outcome-and_then (part_of (part + 1) name there) (behind turns bank (part + 1) names) bank))
      (behind-at turns bank P (part + 1) names (λ f. further-at turns bank P (part + 1) f names (λ q from to. later q from))
      (outcome (part_of (part + 1) name there) bank) (part_of-at turns bank P (part + 1) name there (later (part + 1) (omega arith))))

  further-till : (part : ℕ) (e : Entity) (names : List (List ℕ)) (p : ℕ) (k : Key) → AsksFurther bank e names p k → StandsAt (λ q. part + 1 + p ≤ q) (outcome (further turns part e names) bank)
  further-till part e [] p k a = absurd a
  further-till part e (name ∷ names) zero k a =
      scope-till (λ q. part + 1 + 0 ≤ q) part e name names a.0 (first-till (λ q. part + 1 + 0 ≤ q) part e name names (λ q le. omega (arith, le)))
  further-till part e (name ∷ names) (suc p) k a =
      let P : ℕ → Type 0 = λ q. part + 1 + suc p ≤ q in
      let there = has turns e.kind e.path (folded name) in
      let f = a.1 in
      let is : outcome (part_and_on places bank g turns enough (part + 1) e name names) bank ≡ outcome (further turns (part + 1) f names) bank =
      outcome-and_then (part_of (part + 1) name there) (behind turns bank (part + 1) names) bank
      ∙ ap (λ r. outcome (behind turns bank (part + 1) names r) bank) (part-is places bank g turns enough (part + 1) e name ∙ ap (placed (part + 1)) (part-Ok places bank g turns enough e name f a.2)) in
      scope-till P part e name names a.0
      (subst (StandsAt P) (sym is)
      (stands-weaker (λ q. part + 1 + 1 + p ≤ q) P (λ q le. omega (arith, le)) (outcome (further turns (part + 1) f names) bank) (further-till (part + 1) f names p k a.3)))

  pub denoted-till : (cursor : List Scope) (name : ScopedName) (p : ℕ) (k : Key) → AsksName bank cursor name p k → StandsAt (λ q. p ≤ q) (outcome (denoted turns cursor name) bank)
  denoted-till cursor name zero k a = stands-weaker (λ q. q ≤ length name.rest) (λ q. 0 ≤ q) (λ q le. omega arith) (outcome (denoted turns cursor name) bank) (denoted-IsUpTo turns bank cursor name)
  denoted-till cursor name (suc p) k a =
      let e = a.0 in
      let P : ℕ → Type 0 = λ q. suc p ≤ q in
      let inside = (outcome (first_part turns cursor name) bank).1 in
      let first : (outcome (first_part turns cursor name) bank).0 ≡ Ok e = ap (λ (d : Result Entity NameFault × ℕ). d.0) (first-is places bank g turns enough cursor name) ∙ ap (placed 0) (first-Ok places bank g turns enough cursor name e a.1) in
      let is : outcome (denoted turns cursor name) bank ≡ found_as (reach_of name cursor inside e) (outcome (further turns 0 e name.rest) bank) =
      outcome-and_then (first_part turns cursor name) (λ r. from_first turns bank cursor name r.1 r.0) bank
      ∙ ap (λ r. outcome (from_first turns bank cursor name inside r) bank) first
      ∙ outcome-and_then (further turns 0 e name.rest) (λ last. Done (found_as (reach_of name cursor inside e) last)) bank in
      subst (StandsAt P) (sym is)
      (found_as-at P (reach_of name cursor inside e) (outcome (further turns 0 e name.rest) bank)
      (stands-weaker (λ q. 0 + 1 + p ≤ q) P (λ q le. omega (arith, le)) (outcome (further turns 0 e name.rest) bank) (further-till 0 e name.rest p k a.2)))
