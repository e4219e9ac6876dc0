-- Runs of what is asked of a name that is declared.
use Rattle.std.proofs.Common.{◌≡◌, ℕ, Bool, true, cond, List, [], Option, None, Some, is_some, refl, sym, ap, ◌∙◌}
use Rattle.std.specs.List.{list_any}
use Rattle.idl_memo.specs.Query.{Ask, Done, and_then, noted}
use Rattle.idl_check.specs.tables.Declaring.{inherited, is_any, standing}
use Rattle.idl_check.specs.ids.Identifying.{id_before, ids_of}
use Rattle.idl_check.specs.tables.Rules.{has_id}
use Rattle.idl_check.specs.declared.ids.identifying.Ids.{Ids}
use Rattle.idl_check.specs.declared.tables.standing.Standing.{Standing}
use Rattle.idl_lex.specs.kinds.Keywords.{folded}
use Rattle.idl_scope.proofs.LookupLaws.RunLemmas.{runs, runs-and_then, seen_at}
use Rattle.idl_entity.specs.Entity.{is_operation}
use Rattle.idl_env.specs.Facts.{entity_in, entity_key, prefix_in}
use Rattle.idl_env.specs.keys.Key.{key_eq}
use Rattle.idl_entity.specs.Kind.{inherits}
use Rattle.idl_scope.specs.Lookup.{Lookup, bases_of, reached}
use Rattle.idl_entity.specs.Path.{name_of}
use Rattle.idl_env.specs.declared.additions.addition.Addition.{Addition}
use Rattle.idl_env.specs.declared.answering.answer.Answer.{Answer}
use Rattle.idl_env.specs.declared.answering.answer.Scope.{Scope}
use Rattle.idl_entity.specs.declared.entity.Entity.{Entity}
use Rattle.idl_entity.specs.declared.identity.Identity.{Identity}
use Rattle.idl_env.specs.declared.keys.key.Key.{Key}
use Rattle.idl_env.specs.declared.keys.key.Key.TheVariants.{Declared, Introduced, Prefix as PrefixKey}

-- whether an operation or attribute is reached, and whether anything is
abbrev pub brought_in : List Entity → Bool × Bool
brought_in found = (list_any is_operation found, is_any found)

abbrev pub counted : List Entity → Lookup (Bool × Bool)
counted found = Done (brought_in found)

module _ (own : List Addition) (bank : Key → Option Answer) where
  -- what follows on an outcome, by what is made of it first
  made_of : {A B C : Type 0} (q : Lookup A) (f : A → B) (g : B → Lookup C) (log : List (Key × Option Answer)) (b : B) (after : List (Key × Option Answer))
      → (b, after) ≡ runs own bank (and_then q (λ a. Done (f a))) log
      → runs own bank (and_then q (λ a. g (f a))) log ≡ runs own bank (g b) after
  made_of {A} {B} {C} q f g log b after h =
      runs-and_then own bank q (λ a. g (f a)) log (runs own bank q log).0 (runs own bank q log).1 refl
      ∙ ap (λ (p : B × List (Key × Option Answer)). runs own bank (g p.0) p.1)
      (sym (h ∙ runs-and_then own bank q (λ a. Done (f a)) log (runs own bank q log).0 (runs own bank q log).1 refl))

  -- and one that has what its bases have
  pub inherited_some : (turns : ℕ) (s : Scope) (n : List ℕ) (log : List (Key × Option Answer)) (found : List Entity) (after : List (Key × Option Answer)) → inherits s.kind ≡ true
      → (found, after) ≡ runs own bank (reached turns n (bases_of (entity_in (seen_at own bank (entity_key s.path))))) (noted key_eq bank log (entity_key s.path))
      → runs own bank (and_then (inherited turns s n) counted) log ≡ (brought_in found, after)
  inherited_some turns s n log found after h gives =
      ap (λ b. runs own bank (and_then (cond b (Ask (entity_key s.path) (λ scope. reached turns n (bases_of (entity_in scope)))) (Done [])) counted) log) h
      ∙ runs-and_then own bank (reached turns n (bases_of (entity_in (seen_at own bank (entity_key s.path))))) counted (noted key_eq bank log (entity_key s.path)) found after gives

  abbrev ids_with : Option Answer → Option Identity → Option Ids
  ids_with answer before = Some (record { prefix = prefix_in answer; before = before })

  abbrev ids_if : Option Entity → Entity → Bool → Lookup (Option Ids)
  ids_if there e b = cond b (Ask PrefixKey (λ answer. and_then (id_before there) (λ before. Done (ids_with answer before)))) (Done None)

  -- what an entity that has an id is told of ids
  pub ids_by : (there : Option Entity) (e : Entity) (log : List (Key × Option Answer)) (before : Option Identity) (after : List (Key × Option Answer)) → has_id e.kind ≡ true
      → (before, after) ≡ runs own bank (id_before there) (noted key_eq bank log PrefixKey)
      → runs own bank (ids_of there e) log ≡ (ids_with (seen_at own bank PrefixKey) before, after)
  ids_by there e log before after h gives =
      ap (λ b. runs own bank (ids_if there e b) log) h
      ∙ runs-and_then own bank (id_before there) (λ before. Done (ids_with (seen_at own bank PrefixKey) before)) (noted key_eq bank log PrefixKey) before after gives

  -- all that stands under the name of an entity
  pub standing_by : (turns : ℕ) (s : Scope) (e : Entity) (log : List (Key × Option Answer)) (b : Bool × Bool) (middle : List (Key × Option Answer)) (ids : Option Ids) (after : List (Key × Option Answer))
      → (b, middle) ≡ runs own bank (and_then (inherited turns s (folded (name_of e.path))) counted) (noted key_eq bank (noted key_eq bank log (Declared (folded (name_of e.path)) s.path)) (Introduced (folded (name_of e.path)) s.path s.body))
      → (ids, after) ≡ runs own bank (ids_of (entity_in (seen_at own bank (Declared (folded (name_of e.path)) s.path))) e) middle
      → runs own bank (standing turns s e) log
      ≡ (
        record {
          there = entity_in (seen_at own bank (Declared (folded (name_of e.path)) s.path));
          is_used = is_some (seen_at own bank (Introduced (folded (name_of e.path)) s.path s.body));
          brings_operation = b.0;
          is_reached = b.1;
          ids = ids;
        },
        after,
      )
  standing_by turns s e log b middle ids after h told =
      let n = folded (name_of e.path) in
      let there = entity_in (seen_at own bank (Declared n s.path)) in
      let found : Bool × Bool → Option Ids → Standing = λ brought ids. record {
        there = there;
        is_used = is_some (seen_at own bank (Introduced n s.path s.body));
        brings_operation = brought.0;
        is_reached = brought.1;
        ids = ids;
      } in
      made_of (inherited turns s n) brought_in (λ brought. and_then (ids_of there e) (λ ids. Done (found brought ids)))
      (noted key_eq bank (noted key_eq bank log (Declared n s.path)) (Introduced n s.path s.body)) b middle h
      ∙ runs-and_then own bank (ids_of there e) (λ ids. Done (found b ids)) middle ids after told
