-- An asked world behind a closing, and behind any step.
use Rattle.std.proofs.Common.{◌≡◌, ℕ, Bool, true, false, cond, ◌&&◌, not, List, [], ◌∷◌, Option, Some, None, refl, sym, ap, ◌∙◌, subst}
use Rattle.std.specs.Prelude.{drop, is_some}
use Rattle.idl_entity.specs.Kind.{kind_eq}
use Rattle.idl_entity.specs.declared.entity.Entity.{Entity}
use Rattle.idl_entity.specs.declared.kind.Kind.TheVariants.{Interface}
use Rattle.idl_env.proofs.AnswerLaws.AnswerLemmas.{over-cons}
use Rattle.idl_env.specs.Facts.{World, after_closing, after_step, closed, closing, entity_in, entity_key, given_back, over, path_around, scopes_in}
use Rattle.idl_env.specs.SameKey.{same_key}
use Rattle.idl_env.specs.declared.additions.addition.Addition.{Addition}
use Rattle.idl_env.specs.declared.additions.addition.Addition.TheVariants.{Declares}
use Rattle.idl_env.specs.declared.additions.addition.Step.{Step}
use Rattle.idl_env.specs.declared.additions.addition.Step.TheVariants.{Stays, Opens, OpensNameless, Closes, Prefixes, Enters, Leaves}
use Rattle.idl_env.specs.declared.answering.answer.Answer.{Answer}
use Rattle.idl_env.specs.declared.answering.answer.Answer.TheVariants.{InForce, Known, Open}
use Rattle.idl_env.specs.declared.answering.answer.Scope.{Scope}
use Rattle.idl_env.specs.declared.keys.key.Key.{Key}
use Rattle.idl_env.specs.declared.keys.key.Key.TheVariants.{Cursor, Declared, Introduced, Opened, Nameless, Prefix as PrefixKey, IdOf, Typeprefix}
use Rattle.idl_env.specs.keys.Key.{key_eq}
use Rattle.idl_memo.specs.Query.{and_then, outcome}
use Rattle.idl_block.specs.facts.Answered.{AreNamed, AreNamedAt, AskedWorld, IsClosing, answered_closing, completed, declared_closing, is_nameless, stepped}
use Rattle.idl_block.proofs.FactLaws.StandingLaws.{Stands, coming-back, completed-none, completed-some, mapped_is, nameless-stands, opening-stands, outcomes-drop, prefix-stands, then_is}

module _ (bank : Key → Option Answer) (a : AskedWorld) (w : World) (s : Stands bank a w) where
  -- ---- a scope that closes

  module _ (named : AreNamed w.answers) (here next : Scope) (outer : List Scope) (is : scopes_in (w.answers Cursor) ≡ here ∷ next ∷ outer) where
    -- what the closing adds, by whether it is that of an interface, and by its entity
    abbrev added : Bool → Option Entity → List Addition
    added b o = cond b (elim o as (λ _. List Addition) [ None ↦ [] | Some e ↦ Declares (closed w e) ∷ [] ]) []

    -- at the key of the scope's entity
    at_key : (k : Key) (o : Option Entity) → k ≡ entity_key here.path → entity_in (w.answers (entity_key here.path)) ≡ o → key_eq k (entity_key here.path) ≡ true
        → outcome (and_then (a.answers k) (λ answer. completed a answer)) bank ≡ over (added true o) k (w.answers k)
    at_key k None same there t =
        then_is bank (a.answers k) (λ answer. completed a answer) (w.answers k) (s.answers k)
        ∙ completed-none bank a w s (w.answers k) (ap (λ q. entity_in (w.answers q)) same ∙ there)
    at_key k (Some e) same there t =
        let own : entity_key e.path ≡ entity_key here.path = named.own _ _ e there in
        then_is bank (a.answers k) (λ answer. completed a answer) (w.answers k) (s.answers k)
        ∙ completed-some bank a w s e (w.answers k) (ap (λ q. entity_in (w.answers q)) same ∙ there)
        ∙ sym (over-cons (Declares (closed w e)) [] k (w.answers k) ∙ ap (λ b. cond b (Some (Known (closed w e))) (w.answers k)) (ap (key_eq k) own ∙ t))

    -- at another key
    elsewhere : (k : Key) (o : Option Entity) → entity_in (w.answers (entity_key here.path)) ≡ o → key_eq k (entity_key here.path) ≡ false → w.answers k ≡ over (added true o) k (w.answers k)
    elsewhere k None there t = refl
    elsewhere k (Some e) there t =
        let own : entity_key e.path ≡ entity_key here.path = named.own _ _ e there in
        sym (over-cons (Declares (closed w e)) [] k (w.answers k) ∙ ap (λ b. cond b (Some (Known (closed w e))) (w.answers k)) (ap (key_eq k) own ∙ t))

    -- where the scope is nameless
    without : (k : Key) (o : Option Entity) → entity_in (w.answers (entity_key here.path)) ≡ o → is_nameless here.path ≡ true → w.answers k ≡ over (added true o) k (w.answers k)
    without k None there less = refl
    without k (Some e) there less = let never : Some e ≡ None = sym there ∙ named.declared here.path less in cc

    declared_by : (k : Key) (b less t : Bool) → is_nameless here.path ≡ less → key_eq k (entity_key here.path) ≡ t
        → outcome (cond (b && (not less && t)) (and_then (a.answers k) (λ answer. completed a answer)) (a.answers k)) bank
        ≡ over (added b (entity_in (w.answers (entity_key here.path)))) k (w.answers k)
    declared_by k false less t is_less is_key = s.answers k
    declared_by k true true t is_less is_key = s.answers k ∙ without k (entity_in (w.answers (entity_key here.path))) refl is_less
    declared_by k true false false is_less is_key = s.answers k ∙ elsewhere k (entity_in (w.answers (entity_key here.path))) refl is_key
    declared_by k true false true is_less is_key = at_key k (entity_in (w.answers (entity_key here.path))) (same_key k (entity_key here.path) is_key) refl is_key

    -- no other key is written
    beside_by : (k : Key) → ((n : List ℕ) (path : List (List ℕ)) → key_eq k (Declared n path) ≡ false) → (b : Bool) (o : Option Entity) → over (added b o) k (w.answers k) ≡ w.answers k
    beside_by k other false o = refl
    beside_by k other true None = refl
    beside_by k other true (Some e) =
        over-cons (Declares (closed w e)) [] k (w.answers k) ∙ ap (λ b. cond b (Some (Known (closed w e))) (w.answers k)) (other _ _)

    beside_it : (k : Key) → ((n : List ℕ) (path : List (List ℕ)) → key_eq k (Declared n path) ≡ false) → outcome (a.answers k) bank ≡ over (closing w here) k (w.answers k)
    beside_it k other = s.answers k ∙ sym (beside_by k other (kind_eq here.kind Interface) (entity_in (w.answers (entity_key here.path))))

    closing-answers : (k : Key) → outcome (answered_closing a k) bank ≡ (after_closing w (here ∷ next ∷ outer)).answers k
    closing-answers Cursor =
        mapped_is bank (λ cursor. Some (Open (drop 1 (scopes_in cursor)))) (a.answers Cursor) (w.answers Cursor) (s.answers Cursor)
        ∙ ap (λ scopes. Some (Open (drop 1 scopes))) is
    closing-answers PrefixKey = coming-back bank a.opened ∙ ap (λ ps. Some (InForce (given_back ps))) s.opened
    closing-answers (Declared n path) =
        let k : Key = Declared n path in
        then_is bank (a.answers Cursor) (λ cursor. declared_closing a (scopes_in cursor) k) (w.answers Cursor) (s.answers Cursor)
        ∙ ap (λ scopes. outcome (declared_closing a scopes k) bank) is
        ∙ declared_by k (kind_eq here.kind Interface) (is_nameless here.path) (key_eq k (entity_key here.path)) refl refl
    closing-answers (Introduced n path body) = beside_it (Introduced n path body) (λ n path. refl)
    closing-answers (Opened path) = beside_it (Opened path) (λ n path. refl)
    closing-answers Nameless = beside_it Nameless (λ n path. refl)
    closing-answers (IdOf path) = beside_it (IdOf path) (λ n path. refl)
    closing-answers (Typeprefix path) = beside_it (Typeprefix path) (λ n path. refl)

    -- a scope declares no other names then
    closing-declares : (k : Key) → is_some (entity_in (over (closing w here) k (w.answers k))) ≡ is_some (entity_in (w.answers k))
    closing-declares k = by (kind_eq here.kind Interface) (entity_in (w.answers (entity_key here.path))) refl
      where
        at : (e : Entity) (t : Bool) → entity_in (w.answers (entity_key here.path)) ≡ Some e → key_eq k (entity_key e.path) ≡ t
            → is_some (entity_in (cond t (Some (Known (closed w e))) (w.answers k))) ≡ is_some (entity_in (w.answers k))
        at e true there same =
            let own : entity_key e.path ≡ entity_key here.path = named.own _ _ e there in
            sym (ap is_some (ap (λ q. entity_in (w.answers q)) (same_key k (entity_key e.path) same ∙ own) ∙ there))
        at e false there same = refl

        by : (b : Bool) (o : Option Entity) → entity_in (w.answers (entity_key here.path)) ≡ o → is_some (entity_in (over (added b o) k (w.answers k))) ≡ is_some (entity_in (w.answers k))
        by false o there = refl
        by true None there = refl
        by true (Some e) there =
            ap (λ x. is_some (entity_in x)) (over-cons (Declares (closed w e)) [] k (w.answers k)) ∙ at e (key_eq k (entity_key e.path)) there refl

    closing-stands : Stands bank (stepped a Closes) (after_step w Closes)
    closing-stands =
        subst (λ scopes. Stands bank (stepped a Closes) (after_closing w scopes)) (sym is) (record {
          answers = closing-answers;
          declares = λ n path. s.declares n path ∙ sym (closing-declares (Declared n path));
          inside = ap (drop 1) s.inside;
          opened = outcomes-drop bank a.opened ∙ ap (drop 1) s.opened;
          entered = s.entered;
        })

  -- ---- the prefix in force

  prefixes-stands : (text : List ℕ) → Stands bank (stepped a (Prefixes text)) (after_step w (Prefixes text))
  prefixes-stands text = record { answers = at; declares = λ n path. s.declares n path; inside = s.inside; opened = s.opened; entered = s.entered }
    where
      at : (k : Key) → outcome ((stepped a (Prefixes text)).answers k) bank ≡ (after_step w (Prefixes text)).answers k
      at PrefixKey =
          mapped_is bank (λ cursor. Some (InForce (record { text = text; scope = path_around (scopes_in cursor) }))) (a.answers Cursor) (w.answers Cursor) (s.answers Cursor)
      at key = s.answers key

  enters-stands : Stands bank (stepped a Enters) (after_step w Enters)
  enters-stands = record { answers = at; declares = λ n path. s.declares n path; inside = s.inside; opened = s.opened; entered = λ i. prefix-stands bank a w s i ∷ s.entered i }
    where
      at : (k : Key) → outcome ((stepped a Enters).answers k) bank ≡ (after_step w Enters).answers k
      at PrefixKey = refl
      at key = s.answers key

  leaves-stands : Stands bank (stepped a Leaves) (after_step w Leaves)
  leaves-stands = record { answers = at; declares = λ n path. s.declares n path; inside = s.inside; opened = s.opened; entered = outcomes-drop bank a.entered ∙ ap (drop 1) s.entered }
    where
      at : (k : Key) → outcome ((stepped a Leaves).answers k) bank ≡ (after_step w Leaves).answers k
      at PrefixKey = coming-back bank a.entered ∙ ap (λ ps. Some (InForce (given_back ps))) s.entered
      at key = s.answers key

  -- a step
  pub step-stands : (step : Step) → AreNamedAt w.answers step → IsClosing w.answers step → Stands bank (stepped a step) (after_step w step)
  step-stands Stays named closes = s
  step-stands (Opens path kind) named closes = opening-stands bank a w s path kind
  step-stands (OpensNameless kind) named closes = nameless-stands bank a w s kind named
  step-stands Closes named closes = closing-stands named closes.0 closes.1.0 closes.1.1 closes.1.2
  step-stands (Prefixes text) named closes = prefixes-stands text
  step-stands Enters named closes = enters-stands
  step-stands Leaves named closes = leaves-stands
