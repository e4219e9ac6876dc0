-- That an operation or attribute, or anything, is reached under the name of an entity is what the scoping rules say.
use Rattle.std.proofs.Common.{◌≡◌, ◌∙◌, ℕ, ◌≤◌, Bool, true, false, cond, List, [], ◌∷◌, Option, is_some, sym, ap, arith, refl}
use Rattle.std.specs.Prelude.{◌↔◌, Contains}
use Rattle.std.specs.List.{list_any}
use Rattle.std.proofs.lemmas.Bool.{false≢true}
use Rattle.std.proofs.lemmas.List.Folds.{Any-from_list_any, list_any-from_Any}
use Rattle.idl_memo.proofs.QueryLaws.{outcome-and_then}
use Rattle.idl_memo.specs.Query.{Ask, Done, and_then, outcome}
use Rattle.idl_check.proofs.Visits.VisitLemmas.{turns-here}
use Rattle.idl_check.specs.tables.Declaring.{inherited, is_any, standing}
use Rattle.idl_check.specs.ids.Identifying.{ids_of}
use Rattle.idl_check.specs.walk.Walk.{Walk, turns_at}
use Rattle.idl_check.specs.declared.ids.identifying.Ids.{Ids}
use Rattle.idl_check.specs.declared.tables.standing.Standing.{Standing}
use Rattle.idl_lex.specs.kinds.Keywords.{folded}
use Rattle.idl_scope.proofs.FactsLaws.{outcome-under}
use Rattle.idl_scope.proofs.LookupLaws.LookupLaws.{through-all}
use Rattle.idl_entity.specs.Entity.{is_operation}
use Rattle.idl_env.specs.Facts.{UnitFacts, answers, entity_in, entity_key}
use Rattle.idl_entity.specs.Kind.{inherits}
use Rattle.idl_scope.specs.Lookup.{bases_of, reached, under}
use Rattle.idl_scope.specs.Meaning.{InheritsOperation, Through, bases_at, seen}
use Rattle.idl_entity.specs.Path.{name_of}
use Rattle.idl_env.specs.Turns.{turns_for}
use Rattle.idl_env.specs.declared.answering.answer.Answer.{Answer}
use Rattle.idl_env.specs.declared.answering.answer.Scope.{Scope}
use Rattle.idl_entity.specs.declared.entity.Entity.{Entity}
use Rattle.idl_env.specs.declared.keys.key.Key.{Key}
use Rattle.idl_env.specs.declared.keys.key.Key.TheVariants.{Declared, Introduced}

module _ (bank : Key → Option Answer) (turns : ℕ) (s : Scope) where
  -- what is told of inheriting is whether an operation or attribute is among what is inherited
  told-inherited : (e : Entity) → (outcome (standing turns s e) bank).brings_operation ≡ list_any is_operation (outcome (inherited turns s (folded (name_of e.path))) bank)
  told-inherited e =
      let n = folded (name_of e.path) in
      let there = entity_in (bank (Declared n s.path)) in
      let told : List Entity → Option Ids → Standing = λ found ids. record {
        there = there;
        is_used = is_some (bank (Introduced n s.path s.body));
        brings_operation = list_any is_operation found;
        is_reached = is_any found;
        ids = ids;
      } in
      ap (λ (x : Standing). x.brings_operation) (outcome-and_then (inherited turns s n) (λ found. and_then (ids_of there e) (λ ids. Done (told found ids))) bank)
      ∙ ap (λ (x : Standing). x.brings_operation) (outcome-and_then (ids_of there e) (λ ids. Done (told (outcome (inherited turns s n) bank) ids)) bank)

  -- and that is one that is reached through the bases of an interface
  any-inherited : (n : List ℕ) → ((f : Entity) → Contains (outcome (reached turns n (bases_at bank s.path)) bank) f ↔ Through bank n (bases_at bank s.path) f)
      → (list_any is_operation (outcome (inherited turns s n) bank) ≡ true) ↔ ((f : Entity) × InheritsOperation bank s n f)
  any-inherited n through = by_kind (inherits s.kind) refl
    where
      found : List Entity
      found = outcome (reached turns n (bases_at bank s.path)) bank

      by_kind : (b : Bool) → inherits s.kind ≡ b
          → (list_any is_operation (outcome (cond b (Ask (entity_key s.path) (λ scope. reached turns n (bases_of (entity_in scope)))) (Done [])) bank) ≡ true) ↔ ((f : Entity) × InheritsOperation bank s n f)
      by_kind true k = (
        λ h. let r = Any-from_list_any is_operation found h in (r.1, (k, ((through r.1).0 (r.0, r.2, r.3), r.4))),
        λ p. let c = (through p.0).1 p.1.1.0 in list_any-from_Any is_operation found (c.0, p.0, c.1, c.2, p.1.1.1),
      )
      by_kind false k = (λ h. absurd (false≢true h), λ p. absurd (false≢true (sym k ∙ p.1.0)))

  -- the same of whether anything is
  told-reached : (e : Entity) → (outcome (standing turns s e) bank).is_reached ≡ is_any (outcome (inherited turns s (folded (name_of e.path))) bank)
  told-reached e =
      let n = folded (name_of e.path) in
      let there = entity_in (bank (Declared n s.path)) in
      let told : List Entity → Option Ids → Standing = λ found ids. record {
        there = there;
        is_used = is_some (bank (Introduced n s.path s.body));
        brings_operation = list_any is_operation found;
        is_reached = is_any found;
        ids = ids;
      } in
      ap (λ (x : Standing). x.is_reached) (outcome-and_then (inherited turns s n) (λ found. and_then (ids_of there e) (λ ids. Done (told found ids))) bank)
      ∙ ap (λ (x : Standing). x.is_reached) (outcome-and_then (ids_of there e) (λ ids. Done (told (outcome (inherited turns s n) bank) ids)) bank)

  any-some : (found : List Entity) → is_any found ≡ true → (f : Entity) × Contains found f
  any-some [] h = absurd (false≢true h)
  any-some (f ∷ found) h = (f, (0, omega arith, refl))

  some-any : (found : List Entity) (f : Entity) → Contains found f → is_any found ≡ true
  some-any [] f c = absurd (let none : ⊥ = omega (arith, c.1) in none)
  some-any (g ∷ found) f c = refl

  any-reached : (n : List ℕ) → ((f : Entity) → Contains (outcome (reached turns n (bases_at bank s.path)) bank) f ↔ Through bank n (bases_at bank s.path) f)
      → (is_any (outcome (inherited turns s n) bank) ≡ true) ↔ ((f : Entity) × (inherits s.kind ≡ true) × Through bank n (bases_at bank s.path) f)
  any-reached n through = by_kind (inherits s.kind) refl
    where
      found : List Entity
      found = outcome (reached turns n (bases_at bank s.path)) bank

      by_kind : (b : Bool) → inherits s.kind ≡ b
          → (is_any (outcome (cond b (Ask (entity_key s.path) (λ scope. reached turns n (bases_of (entity_in scope)))) (Done [])) bank) ≡ true) ↔ ((f : Entity) × (inherits s.kind ≡ true) × Through bank n (bases_at bank s.path) f)
      by_kind true k = (
        λ h. let r = any-some found h in (r.0, k, (through r.0).0 r.1),
        λ p. some-any found p.0 ((through p.0).1 p.2),
      )
      by_kind false k = (λ h. absurd (false≢true h), λ p. absurd (false≢true (sym k ∙ p.1)))

-- over the facts before a unit and what its earlier tokens add
pub standing-inherited : (facts : List UnitFacts) (turns : ℕ) (w : Walk) (s : Scope) (e : Entity) → turns_for facts ≤ turns
    → ((outcome (under w.own (standing (turns_at turns w) s e)) (answers facts)).brings_operation ≡ true)
    ↔ ((f : Entity) × InheritsOperation (seen w.own facts) s (folded (name_of e.path)) f)
standing-inherited facts turns w s e enough =
    let n = folded (name_of e.path) in
    let more = turns_at turns w in
    let is : (outcome (under w.own (standing more s e)) (answers facts)).brings_operation ≡ list_any is_operation (outcome (inherited more s n) (seen w.own facts)) =
    ap (λ (x : Standing). x.brings_operation) (outcome-under w.own (answers facts) (standing more s e)) ∙ told-inherited (seen w.own facts) more s e in
    let all = any-inherited (seen w.own facts) more s n (through-all facts w.own more (turns-here facts w.own turns enough) s.path n) in
    (λ h. all.0 (sym is ∙ h), λ p. is ∙ all.1 p)

pub standing-reached : (facts : List UnitFacts) (turns : ℕ) (w : Walk) (s : Scope) (e : Entity) → turns_for facts ≤ turns
    → ((outcome (under w.own (standing (turns_at turns w) s e)) (answers facts)).is_reached ≡ true)
    ↔ ((f : Entity) × (inherits s.kind ≡ true) × Through (seen w.own facts) (folded (name_of e.path)) (bases_at (seen w.own facts) s.path) f)
standing-reached facts turns w s e enough =
    let n = folded (name_of e.path) in
    let more = turns_at turns w in
    let is : (outcome (under w.own (standing more s e)) (answers facts)).is_reached ≡ is_any (outcome (inherited more s n) (seen w.own facts)) =
    ap (λ (x : Standing). x.is_reached) (outcome-under w.own (answers facts) (standing more s e)) ∙ told-reached (seen w.own facts) more s e in
    let all = any-reached (seen w.own facts) more s n (through-all facts w.own more (turns-here facts w.own turns enough) s.path n) in
    (λ h. all.0 (sym is ∙ h), λ p. is ∙ all.1 p)
