-- Facts over worlds that may have other operations and attributes in the innermost scope.
use Rattle.std.proofs.Common.{◌≡◌, ℕ, Bool, true, false, cond, List, [], ◌∷◌, ◌++◌, drop, map, Option, Some, None, refl, sym, ap, ◌∙◌, subst, inl, inr}
use Rattle.std.specs.Prelude.{Contains, flat_map}
use Rattle.idl_lex.specs.kinds.Keywords.{folded}
use Rattle.idl_env.specs.Facts.{UnitFacts, World, after, after_closing, after_step, answers, closed, closing, entity_in, entity_key, given_back, key_of, more_inside, operations_among, over, scopes_in, stops_of, with_additions, world}
use Rattle.idl_entity.specs.Kind.{kind_eq}
use Rattle.idl_env.specs.Outside.{AgreeOutside, AreApart, IsInnermost, WorldsAgreeAround, WorldsAgreeOutside}
use Rattle.idl_entity.specs.Path.{name_of, scope_of}
use Rattle.idl_env.specs.declared.additions.addition.Addition.{Addition}
use Rattle.idl_env.specs.declared.additions.addition.Addition.TheVariants.{Declares}
use Rattle.idl_env.specs.declared.additions.addition.Step.{Step}
use Rattle.idl_env.specs.declared.additions.addition.Step.TheVariants.{Stays, Closes}
use Rattle.idl_env.specs.declared.answering.answer.Answer.TheVariants.{Open}
use Rattle.idl_env.specs.declared.answering.answer.Scope.{Scope}
use Rattle.idl_entity.specs.declared.entity.Entity.{Entity}
use Rattle.idl_env.specs.declared.keys.key.Key.{Key}
use Rattle.idl_env.specs.declared.keys.key.Key.TheVariants.{Cursor, Declared}
use Rattle.idl_entity.specs.declared.kind.Kind.TheVariants.{Interface}
use Rattle.idl_scope.proofs.DifferingLaws.{added-elsewhere, exchanged, over-elsewhere, over-exchanged}
use Rattle.idl_scope.proofs.FactsLaws.{additions-outside, with_answer-outside, with_prefix-outside}
use Rattle.idl_scope.proofs.LookupLaws.LookupLaws.{own_path}
use Rattle.idl_env.proofs.Membership.{Contains-IsIn, IsIn, IsIn-Contains, IsIn-left, IsIn-right}

-- operations that are declared are those of the innermost scope
pub around-more_inside : (inside : List (List (List (List ℕ)))) (paths : List (List (List ℕ))) → drop 1 (more_inside inside paths) ≡ drop 1 inside
around-more_inside [] paths = refl
around-more_inside (own ∷ outer) paths = refl

module _ (keys : List Key) (w v : World) where
  pub around-wider : WorldsAgreeOutside keys w v → WorldsAgreeAround keys w v
  around-wider (same, both) = (same, (ap (drop 1) both.0, both.1))

  pub around-same : (f : UnitFacts) → WorldsAgreeAround keys w v → f.step ≡ Stays → AreApart (flat_map stops_of f.additions) keys → WorldsAgreeAround keys (after w f) (after v f)
  around-same f (same, both) step apart =
      let paths = operations_among f.additions in
      let inside : drop 1 (more_inside v.inside paths) ≡ drop 1 (more_inside w.inside paths) =
      around-more_inside v.inside paths ∙ both.0 ∙ sym (around-more_inside w.inside paths) in
      subst (λ (s : Step). WorldsAgreeAround keys (after_step (with_additions f.additions w) s) (after_step (with_additions f.additions v) s)) (sym step)
      (additions-outside f.additions keys w.answers v.answers same apart, (inside, both.1))

  pub around-pair : (f g : UnitFacts) → WorldsAgreeAround keys w v → f.step ≡ Stays → g.step ≡ Stays → AreApart (flat_map stops_of g.additions) keys
      → WorldsAgreeAround (exchanged keys f.additions g.additions) (after w f) (after v g)
  around-pair f g (same, both) step other apart =
      let more = exchanged keys f.additions g.additions in
      let ours = operations_among f.additions in
      let theirs = operations_among g.additions in
      let inside : drop 1 (more_inside v.inside theirs) ≡ drop 1 (more_inside w.inside ours) =
      around-more_inside v.inside theirs ∙ both.0 ∙ sym (around-more_inside w.inside ours) in
      let added : WorldsAgreeAround more (with_additions f.additions w) (with_additions g.additions v) =
      (over-exchanged keys f.additions g.additions w.answers v.answers same apart, (inside, both.1)) in
      let left : WorldsAgreeAround more (after w f) (with_additions g.additions v) =
      subst (λ (s : Step). WorldsAgreeAround more (after_step (with_additions f.additions w) s) (with_additions g.additions v)) (sym step) added in
      subst (λ (s : Step). WorldsAgreeAround more (after w f) (after_step (with_additions g.additions v) s)) (sym other) left

  pub around-less : (f : UnitFacts) → WorldsAgreeAround keys w v → f.step ≡ Stays → WorldsAgreeAround (keys ++ map key_of f.additions) (after w f) v
  around-less f (same, both) step =
      let mine = map key_of f.additions in
      let grown = with_additions f.additions w in
      let added : AgreeOutside (keys ++ mine) grown.answers v.answers = λ k out.
      same k (λ c. out (Contains-IsIn k (keys ++ mine) (IsIn-left k keys mine (IsIn-Contains k keys c))))
      ∙ sym (added-elsewhere w.answers f.additions k (λ i. out (Contains-IsIn k (keys ++ mine) (IsIn-right k keys mine i)))) in
      let inside : drop 1 v.inside ≡ drop 1 grown.inside = both.0 ∙ sym (around-more_inside w.inside (operations_among f.additions)) in
      subst (λ (s : Step). WorldsAgreeAround (keys ++ mine) (after_step grown s) v) (sym step) (added, (inside, both.1))

  pub around-more : (g : UnitFacts) → WorldsAgreeAround keys w v → g.step ≡ Stays → WorldsAgreeAround (keys ++ map key_of g.additions) w (after v g)
  around-more g (same, both) step =
      let mine = map key_of g.additions in
      let grown = with_additions g.additions v in
      let added : AgreeOutside (keys ++ mine) w.answers grown.answers = λ k out.
      added-elsewhere v.answers g.additions k (λ i. out (Contains-IsIn k (keys ++ mine) (IsIn-right k keys mine i)))
      ∙ same k (λ c. out (Contains-IsIn k (keys ++ mine) (IsIn-left k keys mine (IsIn-Contains k keys c)))) in
      let inside : drop 1 grown.inside ≡ drop 1 w.inside = around-more_inside v.inside (operations_among g.additions) ∙ both.0 in
      subst (λ (s : Step). WorldsAgreeAround (keys ++ mine) w (after_step grown s)) (sym step) (added, (inside, both.1))

-- ---- a scope that closes

-- a world in which an entity is answered at its own path
abbrev IsOwn : World → Scope → Type 0
IsOwn u s = (e : Entity) → entity_in (u.answers (entity_key s.path)) ≡ Some e → entity_key e.path ≡ entity_key s.path

-- the closing of a scope declares nothing but at the scope's own key
closing-at : (u : World) (s : Scope) → IsOwn u s → (k : Key) → IsIn k (map key_of (closing u s)) → entity_key s.path ≡ k
closing-at u s own k i = by_kind (kind_eq s.kind Interface) i
  where
    declares : Option Entity → List Addition
    declares o = elim o [ None ↦ [] | Some e ↦ Declares (closed u e) ∷ [] ]

    by_entity : (o : Option Entity) → entity_in (u.answers (entity_key s.path)) ≡ o → IsIn k (map key_of (declares o)) → entity_key s.path ≡ k
    by_entity None is j = absurd j
    by_entity (Some e) is (inl h) = sym (own e is) ∙ h
    by_entity (Some e) is (inr h) = absurd h

    by_kind : (b : Bool) → IsIn k (map key_of (cond b (declares (entity_in (u.answers (entity_key s.path)))) [])) → entity_key s.path ≡ k
    by_kind true j = by_entity (entity_in (u.answers (entity_key s.path))) refl j
    by_kind false j = absurd j

-- so the answers elsewhere stay
closing-elsewhere : (keys : List Key) (u : World) (s : Scope) → IsOwn u s → (k : Key) → (Contains (keys ++ entity_key s.path ∷ []) k → ⊥) → over (closing u s) k (u.answers k) ≡ u.answers k
closing-elsewhere keys u s own k out =
    over-elsewhere (closing u s) k (u.answers k)
    (λ i. out (Contains-IsIn k (keys ++ entity_key s.path ∷ []) (IsIn-right k keys (entity_key s.path ∷ []) (inl (closing-at u s own k i)))))

-- and worlds with other operations in it have the same ones again
around-closing : (keys : List Key) (w v : World) (s t : Scope) (outer : List Scope) → WorldsAgreeAround keys w v → IsOwn w s → IsOwn v s
    → WorldsAgreeOutside (keys ++ entity_key s.path ∷ []) (after_closing w (s ∷ t ∷ outer)) (after_closing v (s ∷ t ∷ outer))
around-closing keys w v s t outer (same, both) mine theirs =
    let more = keys ++ entity_key s.path ∷ [] in
    let declared : AgreeOutside more (λ k. over (closing w s) k (w.answers k)) (λ k. over (closing v s) k (v.answers k)) = λ k out.
    closing-elsewhere keys v s theirs k out
    ∙ same k (λ c. out (Contains-IsIn k more (IsIn-left k keys (entity_key s.path ∷ []) (IsIn-Contains k keys c))))
    ∙ sym (closing-elsewhere keys w s mine k out) in
    let moved = with_answer-outside more Cursor (Open (t ∷ outer)) (Open (t ∷ outer)) (λ k. over (closing w s) k (w.answers k)) (λ k. over (closing v s) k (v.answers k)) refl declared in
    let answered = with_prefix-outside more (given_back w.before.opened) (given_back v.before.opened) _ _ (ap (λ b. given_back b.opened) both.1) moved in
    let before : (after_closing v (s ∷ t ∷ outer)).before ≡ (after_closing w (s ∷ t ∷ outer)).before = λ i. record (both.1 i) { opened = drop 1 (both.1 i).opened } in
    (answered, (both.0, before))

-- the facts of a unit that closes a scope come to the closing
after-closes : (w : World) (f : UnitFacts) (scopes : List Scope) → f.step ≡ Closes → f.additions ≡ [] → scopes_in (w.answers Cursor) ≡ scopes → after w f ≡ after_closing (with_additions [] w) scopes
after-closes w f scopes step none is =
    (λ i. after_step (with_additions (none i) w) (step i)) ∙ ap (after_closing (with_additions [] w)) is

pub around-closes : (keys : List Key) (before facts : List UnitFacts) (s : Scope) (f : UnitFacts) → WorldsAgreeAround keys (world before) (world facts)
    → f.step ≡ Closes → f.additions ≡ [] → IsInnermost (answers facts) s → (Contains keys Cursor → ⊥)
    → WorldsAgreeOutside (keys ++ entity_key s.path ∷ []) (after (world before) f) (after (world facts) f)
around-closes keys before facts s f (same, both) step none (t, outer, is) apart =
    let w = world before in
    let v = world facts in
    let more = keys ++ entity_key s.path ∷ [] in
    let own : (past : List UnitFacts) → IsOwn (with_additions [] (world past)) s = λ past e h.
    let at = own_path past [] (folded (name_of s.path)) (scope_of s.path) e h in
    λ i. Declared (at.0 i) (at.1 i) in
    let inside : drop 1 (more_inside v.inside []) ≡ drop 1 (more_inside w.inside []) = around-more_inside v.inside [] ∙ both.0 ∙ sym (around-more_inside w.inside []) in
    let cursor : scopes_in (w.answers Cursor) ≡ s ∷ t ∷ outer = ap scopes_in (sym (same Cursor apart)) ∙ is in
    let done = around-closing keys (with_additions [] w) (with_additions [] v) s t outer (same, (inside, both.1)) (own before) (own facts) in
    let left : WorldsAgreeOutside more (after w f) (after_closing (with_additions [] v) (s ∷ t ∷ outer)) =
    subst (λ (x : World). WorldsAgreeOutside more x (after_closing (with_additions [] v) (s ∷ t ∷ outer))) (sym (after-closes w f (s ∷ t ∷ outer) step none cursor)) done in
    subst (λ (x : World). WorldsAgreeOutside more (after w f) x) (sym (after-closes v f (s ∷ t ∷ outer) step none is)) left
