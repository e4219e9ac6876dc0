-- What facts write, on another world.
use Rattle.std.proofs.Common.{◌≡◌, Bool, true, false, cond, ◌||◌, List, [], ◌∷◌, Option, Some, None, refl, sym, ap, ◌∙◌}
use Rattle.std.specs.Prelude.{◌≤◌, ◌++◌, ◌↔◌, IsFalse, is_some, length}
use Rattle.idl_entity.specs.Kind.{kind_eq}
use Rattle.idl_entity.specs.declared.entity.Entity.{Entity}
use Rattle.idl_entity.specs.declared.kind.Kind.TheVariants.{Interface}
use Rattle.idl_env.proofs.AnswerLaws.CountLemmas.{world-is}
use Rattle.idl_env.proofs.StampLemmas.{last-behind}
use Rattle.idl_env.proofs.WriteLemmas.{unwritten-behind}
use Rattle.idl_env.specs.Facts.{UnitFacts, World, after, answers, closed, entity_in, entity_key, first_world, scopes_in, with_additions, world}
use Rattle.idl_env.specs.Written.{adds_at, closes_at, is_added, last_written, steps_at, writes_at, written_from}
use Rattle.idl_env.specs.declared.additions.addition.Addition.{Addition}
use Rattle.idl_env.specs.declared.additions.addition.Addition.TheVariants.{Declares}
use Rattle.idl_env.specs.declared.additions.addition.Step.{Step}
use Rattle.idl_env.specs.declared.additions.addition.Step.TheVariants.{Stays, Opens, OpensNameless, Closes, Prefixes, Enters, Leaves}
use Rattle.idl_env.specs.declared.answering.answer.Scope.{Scope}
use Rattle.idl_env.specs.declared.keys.key.Key.{Key}
use Rattle.idl_env.specs.declared.keys.key.Key.TheVariants.{Cursor, Prefix as PrefixKey}
use Rattle.idl_env.specs.keys.Key.{key_eq}
use Rattle.idl_block.specs.facts.Beneath.{IsThere, StayWithin, onto, start}
use Rattle.idl_block.specs.facts.Written.{is_written}
use Rattle.idl_block.proofs.FactLaws.BeneathLaws.{additions-onto, after-onto, start-onto, there-after}

-- what a closing adds stands at a key that the answers tell
adds-beside : (v w : World) (k : Key) (b : Bool) (o : Option Entity)
    → is_added (cond b (elim o as (λ _. List Addition) [ None ↦ [] | Some e ↦ Declares (closed v e) ∷ [] ]) []) k
    ≡ is_added (cond b (elim o as (λ _. List Addition) [ None ↦ [] | Some e ↦ Declares (closed w e) ∷ [] ]) []) k
adds-beside v w k false o = refl
adds-beside v w k true None = refl
adds-beside v w k true (Some e) = by (key_eq k (entity_key e.path))
  where
    by : (t : Bool) → is_some (cond t (Some (Declares (closed v e))) None) ≡ is_some (cond t (Some (Declares (closed w e))) None)
    by true = refl
    by false = refl

closes-onto : (v beneath : World) (scopes : List Scope) (k : Key) → closes_at (onto v beneath) scopes k ≡ closes_at v scopes k
closes-onto v beneath [] k = refl
closes-onto v beneath (s ∷ []) k = refl
closes-onto v beneath (s ∷ t ∷ outer) k =
    ap (λ b. key_eq k PrefixKey || (key_eq k Cursor || b))
    (adds-beside (onto v beneath) v k (kind_eq s.kind Interface) (entity_in (v.answers (entity_key s.path))))

-- a step writes by the answers alone
steps-onto : (v beneath : World) (step : Step) (k : Key) → steps_at (onto v beneath) step k ≡ steps_at v step k
steps-onto v beneath Stays k = refl
steps-onto v beneath (Opens path kind) k = refl
steps-onto v beneath (OpensNameless kind) k = refl
steps-onto v beneath Closes k = closes-onto v beneath (scopes_in (v.answers Cursor)) k
steps-onto v beneath (Prefixes text) k = refl
steps-onto v beneath Enters k = refl
steps-onto v beneath Leaves k = refl

writes-onto : (v beneath : World) (f : UnitFacts) (k : Key) → IsThere v.inside → writes_at (onto v beneath) f k ≡ writes_at v f k
writes-onto v beneath f k there =
    ap (λ w. adds_at v f k || steps_at w f.step k) (additions-onto v beneath f.additions there)
    ∙ ap (λ b. adds_at v f k || b) (steps-onto (with_additions f.additions v) beneath f.step k)

pub written-onto : (v beneath : World) (facts : List UnitFacts) (k : Key) → IsThere v.inside → StayWithin v facts → written_from (onto v beneath) facts k ≡ written_from v facts k
written-onto v beneath [] k there within = refl
written-onto v beneath (f ∷ facts) k there within =
    ap (λ b. b || written_from (after (onto v beneath) f) facts k) (writes-onto v beneath f k there)
    ∙ ap (λ w. writes_at v f k || written_from w facts k) (after-onto v beneath f there within.0)
    ∙ ap (λ b. writes_at v f k || b) (written-onto (after v f) beneath facts k (there-after v f there within.0) within.1)

-- behind others they write where they write over the answers alone
pub written-behind : (before facts : List UnitFacts) (k : Key) → StayWithin (start (answers before)) facts → written_from (world before) facts k ≡ is_written facts (answers before) k
written-behind before facts k within =
    ap (λ w. written_from w facts k) (sym (start-onto (world before)))
    ∙ written-onto (start (answers before)) (world before) facts k tt within

-- so which of them wrote last at a key tells whether they wrote there
pub last-among : (before facts : List UnitFacts) (k : Key) → StayWithin (start (answers before)) facts → (last_written (before ++ facts) k ≤ length before) ↔ IsFalse (is_written facts (answers before) k)
last-among before facts k within = rw (sym (written-behind before facts k within)) (rw (world-is before) (last-behind facts k before first_world))

pub answered-among : (before facts : List UnitFacts) (k : Key) → StayWithin (start (answers before)) facts → IsFalse (is_written facts (answers before) k) → answers (before ++ facts) k ≡ answers before k
answered-among before facts k within unwritten = unwritten-behind before facts k (written-behind before facts k within ∙ unwritten)
