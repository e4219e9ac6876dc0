-- A unit that declares a module, or a name ahead, fits the facts before it.
use Rattle.std.proofs.Common.{◌≡◌, ◌∙◌, ℕ, ◌≤◌, Bool, true, false, cond, List, [], ◌∷◌, ◌++◌, Option, Some, None, refl, sym, ap, subst, inl, inr}
use Rattle.std.specs.Prelude.{◌≢◌, ◌&&◌, ◌||◌}
use Rattle.idl_check_laws.proofs.Fits.ClosingLaws.{IsFitting, IsSettled, added-names, cursor-kept, under-around}
use Rattle.idl_check_laws.proofs.Fits.GrowingLaws.{once-with, declares-one}
use Rattle.idl_check_laws.proofs.Fits.OpeningLaws.{identity-found}
use Rattle.idl_check_laws.proofs.Fits.ReachedLaws.{Names, Place, own, there}
use Rattle.idl_check_laws.proofs.Fits.SettledLaws.{Added, AreAdded, IsAdded, IsFound, IsNamed, IsOpened, IsPlace, IsUnder, Once, Stood, Was, is_nameless, over, path_same, name_same, stood}
use Rattle.idl_check.proofs.Visits.SiteLaws.{declared_by, visited}
use Rattle.idl_check.proofs.Faults.VisitFaults.{visit_faults}
use Rattle.idl_check.proofs.Visits.WalkLaws.{none-append}
use Rattle.idl_check_laws.proofs.Fits.WalkedLaws.{additions_of, first-walks}
use Rattle.idl_check_laws.proofs.Fits.WalkingLaws.{D, IsAllowed, Walks, allowed, apart-here, at_scope, beside-here, inner-here, place-here, scopes, there-follows, told-there}
use Rattle.idl_check_laws.proofs.Nests.Scenes.{Scene}
use Rattle.std.proofs.lemmas.Bool.{and_parts}
use Rattle.std.specs.Cmp.Lexicographic.{bytes_decides}
use Rattle.std.specs.Str.{bytes_eq}
use Rattle.idl_check.specs.told.Bodies.{raises, raising}
use Rattle.idl_check.specs.tables.Declaring.{entity_of, finished, standing, stays, with_finished}
use Rattle.idl_check.specs.ids.Identifying.{with_identity}
use Rattle.idl_check.specs.walk.Judging.{walked}
use Rattle.idl_check.specs.tables.Rules.{are_modules, come_ahead, is_ahead, may_be_ahead, may_follow}
use Rattle.idl_check.specs.walk.Walk.{Visit, Walk, declared_visit, first_walk, is_begun, passed, turns_at, visit}
use Rattle.idl_check.specs.declared.ids.identifying.Ids.{Ids}
use Rattle.idl_check.specs.declared.tables.standing.Standing.{Standing}
use Rattle.idl_lex.specs.kinds.Keywords.{folded}
use Rattle.idl_memo.proofs.QueryLaws.{outcome-and_then}
use Rattle.idl_memo.specs.Query.{Done, outcome}
use Rattle.idl_scope.proofs.Constructors.{some_same, none_some}
use Rattle.idl_env.proofs.FirstLemmas.{addition_at-with_addition}
use Rattle.idl_entity.specs.Entity.{is_operation}
use Rattle.idl_env.specs.Facts.{UnitFacts, addition_at, answer_of, answers, entity_in, entity_key, next_body, path_around, scopes_in, unstopped, with_addition, with_additions, world}
use Rattle.idl_env.specs.keys.Key.{key_eq}
use Rattle.idl_env.specs.keys.Digested.{key_equiv}
use Rattle.idl_entity.specs.Kind.{kind_eq, same_kind}
use Rattle.idl_scope.specs.Lookup.{under}
use Rattle.idl_entity.specs.Path.{name_of, scope_of}
use Rattle.idl_env.specs.Turns.{turns_for}
use Rattle.idl_env.specs.declared.additions.addition.Addition.{Addition}
use Rattle.idl_env.specs.declared.additions.addition.Addition.TheVariants.{Declares, Appears}
use Rattle.idl_env.specs.declared.additions.addition.Step.TheVariants.{Opens, Stays}
use Rattle.idl_env.specs.declared.answering.answer.Answer.{Answer}
use Rattle.idl_env.specs.declared.answering.answer.Scope.{Scope}
use Rattle.idl_entity.specs.declared.entity.Entity.{Entity}
use Rattle.idl_env.specs.declared.keys.key.Key.TheVariants.{Cursor}
use Rattle.idl_entity.specs.declared.kind.Kind.TheVariants as kind
use Rattle.idl_entity.specs.declared.kind.Stage.TheVariants.{Ahead, Complete}
use Rattle.idl_parts.specs.Part.{Part as item}
use Rattle.idl_parts.specs.declared.part.Declaration.{Declaration}
use Rattle.idl_unit.specs.TokenRules.{first}

-- it stays where it is declared already, and is finished by no unit's end
pub record IsLone (e : Entity) : Type 0 where
  pub stays_where : (kind_eq e.kind kind.Module || is_ahead e) ≡ true
  pub begun : is_begun e ≡ false
  pub raising : kind_eq e.kind kind.Attribute ≡ false
  pub operation : is_operation e ≡ false
  pub unclosed : e.kind ≡ kind.Interface → e.stage ≢ Complete
  pub module_there : e.kind ≡ kind.Module → e.stage ≢ Ahead

and-no : (a b : Bool) → a ≡ false → (a && b) ≡ false
and-no true b h = cc
and-no false b h = refl

and-second-no : (a b : Bool) → b ≡ false → (a && b) ≡ false
and-second-no true b h = h
and-second-no false b h = refl

and-true : (a b : Bool) → a ≡ true → b ≡ true → (a && b) ≡ true
and-true true b h g = g
and-true false b h g = cc

module _ (facts : List UnitFacts) (k : IsSettled (world facts)) (turns : ℕ) (enough : turns_for facts ≤ turns) where
  abbrev names : Names
  names = D facts k turns enough

  abbrev around : List Scope
  around = scopes facts k turns enough

  abbrev scene : Scene
  scene = record { level = 0; last = None }

  begin-walks : (n : ℕ) → Walks facts k turns enough (passed n (first_walk around)) scene
  begin-walks n = let h = first-walks facts k turns enough in record {
    grown = h.grown;
    begun = h.begun;
    last = h.last;
    named = h.named;
    bodies = h.bodies;
    cursor = h.cursor;
    bases = h.bases;
  }

  module _ (n : ℕ) (way : Declaration) (name : List ℕ) (s : Scope) (outer : List Scope) (is : around ≡ s ∷ outer) (named : is_nameless name ≡ false)
      (lone : IsLone (entity_of (passed n (first_walk around)).written way name s.path)) where
    abbrev w : Walk
    w = passed n (first_walk around)

    abbrev e : Entity
    e = entity_of w.written way name s.path

    abbrev st : Standing
    st = outcome (under w.own (standing (turns_at turns w) s e)) (answers facts)

    -- what stands there is told
    there-is : st.there ≡ there names e.path
    there-is = told-there facts k turns enough w scene (begin-walks n) s outer is way name

    abbrev xs : Option Entity → Option Ids → List Addition
    xs o ids = with_identity o ids e []

    abbrev all : Option Entity → Option Ids → List Addition
    all o ids = cond (stays o e) (xs o ids) (with_addition (xs o ids) (Declares e))

    module _ (ok : IsAllowed s st e) where
      -- a new one
      new-added : (ids : Option Ids) → there names e.path ≡ None → AreAdded names around (with_addition (xs None ids) (Declares e))
      new-added ids nothing x h = subst (IsAdded names around (with_addition (xs None ids) (Declares e))) (by_key (key_eq (entity_key x.path) (entity_key e.path)) (sym (addition_at-with_addition (xs None ids) (Declares e) (entity_key x.path)) ∙ h)) (record {
        named = named;
        fresh = λ y g. absurd (none_some (sym nothing ∙ g));
        unclosed = lone.unclosed;
        module_there = lone.module_there;
        place = by_place (place-here facts k turns enough w scene (begin-walks n) s outer is way name (at_scope facts k turns enough w scene (begin-walks n) s outer is way name));
        inner = inner-here facts k turns enough w scene (begin-walks n) s outer is way name (at_scope facts k turns enough w scene (begin-walks n) s outer is way name);
        level = λ operation. let z : true ≡ false = sym operation ∙ lone.operation in cc;
        beside = beside-here facts k turns enough w scene (begin-walks n) s outer is way name (at_scope facts k turns enough w scene (begin-walks n) s outer is way name);
        apart = apart-here facts k turns enough w scene (begin-walks n) s outer is way name ok.inherited (at_scope facts k turns enough w scene (begin-walks n) s outer is way name);
      })
        where
          by_key : (t : Bool) → cond t (Some (Declares e)) (addition_at (with_identity None ids e []) (entity_key x.path)) ≡ Some (Declares x) → e ≡ x
          by_key true g = declares-one e x g
          by_key false g = absurd (identity-found facts k turns enough None ids e x g)

          by_other : (y : Entity) → IsFound (with_addition (with_identity None ids e []) (Declares e)) y → e ≡ y
          by_other y f = at_key (key_eq (entity_key y.path) (entity_key e.path)) (sym (addition_at-with_addition (with_identity None ids e []) (Declares e) (entity_key y.path)) ∙ f)
            where
              at_key : (t : Bool) → cond t (Some (Declares e)) (addition_at (with_identity None ids e []) (entity_key y.path)) ≡ Some (Declares y) → e ≡ y
              at_key true g = declares-one e y g
              at_key false g = absurd (identity-found facts k turns enough None ids e y g)

          by_place : IsPlace names s.path → IsPlace (over (with_addition (with_identity None ids e []) (Declares e)) names) s.path
          by_place (inl global) = inl global
          by_place (inr (inl less)) = inr (inl less)
          by_place (inr (inr y)) = by_stood (stood names (with_addition (with_identity None ids e []) (Declares e)) (folded (name_of s.path)) (scope_of s.path))
            where
              by_stood : Stood names (with_addition (with_identity None ids e []) (Declares e)) (folded (name_of s.path)) (scope_of s.path) → IsPlace (over (with_addition (with_identity None ids e []) (Declares e)) names) s.path
              by_stood (Was same) = inr (inr (y.0, same ∙ y.1, y.2, y.3))
              by_stood (Added z f key now) =
                  let one = by_other z f in
                  let n_is = name_same (folded (name_of s.path)) (folded (name_of z.path)) (scope_of s.path) (scope_of z.path) key in
                  let p_is = path_same (folded (name_of s.path)) (folded (name_of z.path)) (scope_of s.path) (scope_of z.path) key in
                  let at_z : there names s.path ≡ there names z.path = λ i. own names (n_is i) (p_is i) in
                  absurd (none_some (sym nothing ∙ ap (λ (q : Entity). there names q.path) one ∙ sym at_z ∙ y.1))

      new-once : (ids : Option Ids) → Once (with_addition (xs None ids) (Declares e))
      new-once None = once-with [] (Declares e) tt
      new-once (Some ids) = once-with (Appears e.path ids.prefix ∷ []) (Declares e) (refl, tt)

      lone-added : (o : Option Entity) (ids : Option Ids) → st.there ≡ o → AreAdded names around (all o ids) × Once (all o ids)
      lone-added None ids h = (new-added ids (sym there-is ∙ h), new-once ids)
      lone-added (Some old) ids h =
          let kept : stays (Some old) e ≡ true = and-true (may_follow old e) (kind_eq e.kind kind.Module || is_ahead e) (there-follows st.there e old ok.declared h) lone.stays_where in
          subst (λ b. AreAdded names around (cond b [] (with_addition [] (Declares e))) × Once (cond b [] (with_addition [] (Declares e)))) (sym kept) (λ x g. absurd (none_some g), tt)

    here : outcome (declared_by turns (answers facts) way name w (first around)) (answers facts) ≡ declared_visit w way s e st
    here =
        ap (λ ss. outcome (declared_by turns (answers facts) way name w (first ss)) (answers facts)) is
        ∙ outcome-and_then (under w.own (standing (turns_at turns w) s e)) (λ there. Done (declared_visit w way s e there)) (answers facts)

    module _ (m : ℕ) (none : visit_faults turns (answers facts) (item.Plain n ∷ item.Declares way name ∷ item.Plain m ∷ []) (first_walk around) ≡ []) where
      abbrev end : Walk
      end = walked turns (answers facts) (item.Plain n ∷ item.Declares way name ∷ item.Plain m ∷ []) (first_walk around)

      is-allowed : IsAllowed s st e
      unfolding visit
      is-allowed =
          let v = visited turns (answers facts) (item.Declares way name) w in
          allowed w.at s st e (ap (λ (u : Visit). u.faults) (sym here) ∙ (none-append v.faults (visit_faults turns (answers facts) (item.Plain m ∷ []) v.after) none).0)

      ends : additions_of facts k turns enough end ≡ all st.there st.ids
      unfolding visit
      ends =
          let after = (declared_visit w way s e st).after in
          let finish = finished after.bases.paths after.values.constant after.clauses in
          ap (λ (v : Visit). additions_of facts k turns enough (passed m v.after)) here
          ∙ ap (λ b. with_finished finish after.own (cond b (e ∷ []) [] ++ raising (Some e) after.clauses)) lone.begun
          ∙ ap (λ b. with_finished finish after.own (cond (b && raises after.clauses) (e ∷ []) [])) lone.raising

      -- what it adds
      pub lone-grown : AreAdded names around (additions_of facts k turns enough end) × Once (additions_of facts k turns enough end)
      lone-grown = let g = lone-added is-allowed st.there st.ids refl in (subst (AreAdded names around) (sym ends) g.0, subst Once (sym ends) g.1)

      -- a name ahead opens nothing
      pub ahead-lone : IsFitting (world facts) (record { additions = additions_of facts k turns enough end; step = Stays })
      ahead-lone = record { once = lone-grown.1; added = lone-grown.0; step = tt }

      -- a module stands there
      module _ (of_module : e.kind ≡ kind.Module) where
        abbrev IsThere : List Addition → Type 0
        IsThere ys = (y : Entity) × (there (over ys names) (name ∷ s.path) ≡ Some y) × (y.path ≡ name ∷ s.path) × (y.kind ≡ kind.Module) × (y.stage ≢ Ahead)

        spelled : (p : Place) → IsNamed p → name_of p ≡ name → s.path ≡ scope_of p → p ≡ name ∷ s.path
        spelled [] h a b = absurd h
        spelled (c ∷ q) h a b = λ i. a i ∷ sym b i

        old-module : (old : Entity) → may_follow old e ≡ true → (name_of old.path ≡ name) × (old.kind ≡ kind.Module)
        old-module old h =
            let parts = and_parts (bytes_eq (name_of old.path) name) (are_modules old e || come_ahead old e) h in (
              (bytes_decides (name_of old.path) name).0 parts.0,
              by_modules (are_modules old e) (come_ahead old e) refl no-ahead parts.1,
            )
          where
            no-ahead : come_ahead old e ≡ false
            no-ahead = and-no (may_be_ahead old.kind && may_be_ahead e.kind) (is_ahead old || is_ahead e) (and-second-no (may_be_ahead old.kind) (may_be_ahead e.kind) (ap may_be_ahead of_module))

            by_modules : (a b : Bool) → are_modules old e ≡ a → b ≡ false → (a || b) ≡ true → old.kind ≡ kind.Module
            by_modules true b h g r = same_kind old.kind kind.Module (and_parts (kind_eq old.kind kind.Module) (kind_eq e.kind kind.Module) h).0
            by_modules false b h g r = let z : false ≡ true = sym g ∙ r in cc

        module-there : (o : Option Entity) → st.there ≡ o → IsThere (all o st.ids)
        module-there None h = (
          e,
          ap (λ x. entity_in (elim x as (λ _. Option Answer) [ None ↦ names (folded name) s.path | Some a ↦ Some (answer_of a) ]))
              (addition_at-with_addition (xs None st.ids) (Declares e) (entity_key e.path) ∙ ap (λ t. cond t (Some (Declares e)) (addition_at (xs None st.ids) (entity_key e.path))) (key_equiv.refl (entity_key e.path))),
          refl,
          of_module,
          lone.module_there of_module,
        )
        module-there (Some old) h =
            let follows = there-follows st.there e old is-allowed.declared h in
            let kept : stays (Some old) e ≡ true = and-true (may_follow old e) (kind_eq e.kind kind.Module || is_ahead e) follows lone.stays_where in
            let there_old : there names e.path ≡ Some old = sym there-is ∙ h in
            let key = k.named (folded name) s.path old there_old in
            let old_is = old-module old follows in
            let found : IsThere [] = (old, there_old, spelled old.path key.0 old_is.0 key.2, old_is.1, k.modules (folded name) s.path old there_old old_is.1) in
            subst (λ b. IsThere (cond b [] (with_addition [] (Declares e)))) (sym kept) found

        opened : (body : ℕ) → IsOpened (over (all st.there st.ids) names) (record { path = name ∷ s.path; kind = kind.Module; body = body }) []
        opened body =
            let y = module-there st.there refl in
            record {
              place = inr (inr (y.0, y.1, y.2, (y.4, λ interface. let z : kind.Module ≡ kind.Interface = sym y.3 ∙ interface in cc)));
              kind = λ g h at. ap (λ (x : Entity). x.kind) (sym (some_same (sym y.1 ∙ h))) ∙ y.3;
              held = λ g h at interface. absurd (let z : kind.Module ≡ kind.Interface = sym y.3 ∙ ap (λ (x : Entity). x.kind) (some_same (sym y.1 ∙ h)) ∙ interface in cc);
            }

        pub module-lone : IsFitting (world facts) (record { additions = additions_of facts k turns enough end; step = Opens (name ∷ path_around around) kind.Module })
        module-lone =
            let ys = additions_of facts k turns enough end in
            let u = with_additions ys (world facts) in
            let same : u.answers Cursor ≡ answers facts Cursor = ap (λ o. elim o as (λ _. Option Answer) [ None ↦ answers facts Cursor | Some a ↦ Some (answer_of a) ]) (cursor-kept (unstopped (answers facts) ys)) in
            let path : s.path ≡ path_around around = sym (ap path_around is) in
            let body = next_body u (name ∷ path_around around) in
            record {
              once = lone-grown.1;
              added = lone-grown.0;
              step = (
                subst (λ ns. IsOpened ns (record { path = name ∷ path_around around; kind = kind.Module; body = body }) []) (sym (added-names (world facts) ys))
                    (subst (λ zs. IsOpened (over zs names) (record { path = name ∷ path_around around; kind = kind.Module; body = body }) []) (sym ends)
                    (subst (λ q. IsOpened (over (all st.there st.ids) names) (record { path = name ∷ q; kind = kind.Module; body = body }) []) path (opened body))),
                subst (λ o. IsUnder (record { path = name ∷ path_around around; kind = kind.Module; body = body }) (scopes_in o)) (sym same) (under-around name kind.Module body around),
              );
            }
