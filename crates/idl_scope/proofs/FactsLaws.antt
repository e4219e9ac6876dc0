-- Facts that are added to facts, and to answers that are the same outside some keys.
use Rattle.std.proofs.Common.{◌≡◌, ℕ, ◌+◌, Bool, true, false, cond, List, [], ◌∷◌, ◌++◌, map, Option, Some, None, refl, ap, ◌∙◌, inl, inr}
use Rattle.std.specs.Prelude.{Contains, drop, flat_map}
use Rattle.std.proofs.lemmas.List.Elements.{All-weaker, All-contains_itself, Contains-append_left, Contains-append_right}
use Rattle.idl_memo.specs.Query.{Done, Ask, Tell, outcome, asked, Agree}
use Rattle.idl_env.specs.Facts.{UnitFacts, World, given_back, prefix_in, with_prefix, entity_key, entity_in, scopes_in, count_in, over, operations_of, joined, gathered, inherited, innermost, closed, closing, with_answer, with_additions, after_opening, after_closing, after_nameless, after_step, after, after_all, first_world, world, answers, nameless, path_around, next_body, more_inside, operations_among, stops_of, unstopped}
use Rattle.idl_env.specs.keys.Key.{key_eq}
use Rattle.idl_entity.specs.Kind.{kind_eq}
use Rattle.idl_scope.specs.Lookup.{Lookup, under}
use Rattle.idl_scope.specs.Meaning.{seen}
use Rattle.idl_env.specs.Outside.{AgreeOutside, WorldsAgreeOutside, gathered_at, looked_at, looked_at_by, AreApart}
use Rattle.idl_env.specs.declared.additions.addition.Addition.{Addition}
use Rattle.idl_env.specs.declared.additions.addition.Addition.TheVariants.{Declares}
use Rattle.idl_env.specs.declared.additions.addition.Step.{Step}
use Rattle.idl_env.specs.declared.additions.addition.Step.TheVariants.{Stays, Opens, OpensNameless, Closes, Prefixes, Enters, Leaves}
use Rattle.idl_env.specs.declared.answering.answer.Answer.{Answer}
use Rattle.idl_env.specs.declared.answering.answer.Answer.TheVariants.{Open, Count, InForce}
use Rattle.idl_env.specs.declared.answering.answer.Scope.{Scope}
use Rattle.idl_entity.specs.declared.entity.Entity.{Entity}
use Rattle.idl_entity.specs.declared.identity.Prefix.{Prefix}
use Rattle.idl_env.specs.declared.keys.key.Key.{Key}
use Rattle.idl_env.specs.declared.keys.key.Key.TheVariants.{Cursor, Opened, Nameless, Prefix as PrefixKey}
use Rattle.idl_entity.specs.declared.kind.Kind.{Kind}
use Rattle.idl_entity.specs.declared.kind.Kind.TheVariants.{Interface}
use Rattle.idl_entity.specs.declared.kind.Stage.TheVariants.{Complete}
use Rattle.idl_env.proofs.StoppedLemmas.{unstopped-same}
use Rattle.idl_env.proofs.Membership.{IsIn, IsIn-map, Contains-IsIn}

-- ---- facts behind facts

pub after_all-append : (w : World) (facts more : List UnitFacts) → after_all w (facts ++ more) ≡ after_all (after_all w facts) more
after_all-append w [] more = refl
after_all-append w (f ∷ facts) more = after_all-append (after w f) facts more

pub world-append : (facts more : List UnitFacts) → world (facts ++ more) ≡ after_all (world facts) more
unfolding world
world-append facts more = after_all-append first_world facts more

-- what a unit adds that changes no open scope is seen as what its earlier tokens add, but for uses that are stopped
pub answers-own : (facts : List UnitFacts) (own : List Addition) (k : Key)
    → answers (facts ++ record { additions = own; step = Stays } ∷ []) k ≡ seen (unstopped (answers facts) own) facts k
answers-own facts own k = ap (λ w. w.answers k) (world-append facts (record { additions = own; step = Stays } ∷ []))

-- ---- a query under additions

module _ {A : Type 0} (own : List Addition) (bank : Key → Option Answer) where
  pub outcome-under : (query : Lookup A) → outcome (under own query) bank ≡ outcome query (λ k. over own k (bank k))
  outcome-under (Done a) = refl
  outcome-under (Ask k next) = outcome-under (next (over own k (bank k)))
  outcome-under (Tell x query) = outcome-under query

  pub asked-under : (query : Lookup A) → asked (under own query) bank ≡ asked query (λ k. over own k (bank k))
  asked-under (Done a) = refl
  asked-under (Ask k next) = ap (λ ks. k ∷ ks) (asked-under (next (over own k (bank k))))
  asked-under (Tell x query) = asked-under query

-- ---- answers that agree outside some keys

-- answers that agree outside keys that are not asked agree on the asked ones
pub Agree-outside : (keys asks : List Key) (bank other : Key → Option Answer) → AgreeOutside keys bank other → AreApart asks keys → Agree asks bank other
Agree-outside keys asks bank other same apart = All-weaker (Contains asks) (λ k. other k ≡ bank k) (λ k c. same k (apart k c)) asks (All-contains_itself asks)

-- additions keep such answers so
pub over-outside : (additions : List Addition) (keys : List Key) (bank other : Key → Option Answer) → AgreeOutside keys bank other → AgreeOutside keys (λ k. over additions k (bank k)) (λ k. over additions k (other k))
over-outside additions keys bank other same k out = ap (over additions k) (same k out)

-- and so do they without the uses that are stopped, where these look at none of the keys
pub additions-outside : (additions : List Addition) (keys : List Key) (bank other : Key → Option Answer) → AgreeOutside keys bank other → AreApart (flat_map stops_of additions) keys
    → AgreeOutside keys (λ k. over (unstopped bank additions) k (bank k)) (λ k. over (unstopped other additions) k (other k))
additions-outside additions keys bank other same apart k out =
    ap (λ left. over left k (other k)) (unstopped-same bank other additions (λ q i. same q (apart q (Contains-IsIn q (flat_map stops_of additions) i))))
    ∙ ap (over (unstopped bank additions) k) (same k out)

module _ (keys : List Key) where
  pub with_answer-outside : (q : Key) (a b : Answer) (bank other : Key → Option Answer) → b ≡ a → AgreeOutside keys bank other → AgreeOutside keys (with_answer q a bank) (with_answer q b other)
  with_answer-outside q a b bank other h same k out = ap (λ x. cond (key_eq k q) (Some x) (other k)) h ∙ ap (λ v. cond (key_eq k q) (Some a) v) (same k out)

  -- with the same prefix in force
  pub with_prefix-outside : (p q : Prefix) (bank other : Key → Option Answer) → q ≡ p → AgreeOutside keys bank other → AgreeOutside keys (with_prefix p bank) (with_prefix q other)
  with_prefix-outside p q bank other h same = with_answer-outside PrefixKey (InForce p) (InForce q) bank other (ap InForce h) same

  module _ (w v : World) (same : AgreeOutside keys w.answers v.answers) (inside : v.inside ≡ w.inside) where
    -- after one more body is opened
    opening-outside : (s t : Scope) → t ≡ s → v.answers Cursor ≡ w.answers Cursor → AgreeOutside keys (after_opening w s).answers (after_opening v t).answers
    opening-outside s t h cursor k out =
        ap (λ x. (after_opening v x).answers k) h
        ∙ with_answer-outside Cursor (Open (s ∷ scopes_in (w.answers Cursor))) (Open (s ∷ scopes_in (v.answers Cursor))) (with_answer (Opened s.path) (Count s.body) w.answers) (with_answer (Opened s.path) (Count s.body) v.answers)
        (ap (λ o. Open (s ∷ scopes_in o)) cursor) (with_answer-outside (Opened s.path) (Count s.body) (Count s.body) w.answers v.answers refl same) k out

    gathered-same : (found bases : List (List (List ℕ))) → ((b : List (List ℕ)) → IsIn b bases → v.answers (entity_key b) ≡ w.answers (entity_key b)) → gathered v.answers found bases ≡ gathered w.answers found bases
    gathered-same found [] h = refl
    gathered-same found (b ∷ bases) h =
        ap (λ o. gathered v.answers (joined found (operations_of (entity_in o))) bases) (h b (inl refl))
        ∙ gathered-same (joined found (operations_of (entity_in (w.answers (entity_key b))))) bases (λ c i. h c (inr i))

    inherited-same : (bases : List (List (List ℕ))) → ((b : List (List ℕ)) → IsIn b bases → v.answers (entity_key b) ≡ w.answers (entity_key b)) → inherited v.answers bases ≡ inherited w.answers bases
    inherited-same [] h = refl
    inherited-same (b ∷ bases) h =
        ap (λ o. gathered v.answers (operations_of (entity_in o)) bases) (h b (inl refl))
        ∙ gathered-same (operations_of (entity_in (w.answers (entity_key b)))) bases (λ c i. h c (inr i))

    closed-same : (e : Entity) → ((b : List (List ℕ)) → IsIn b e.bases → v.answers (entity_key b) ≡ w.answers (entity_key b)) → closed v e ≡ closed w e
    closed-same e h =
        let ops = inherited-same e.bases h in
        λ i. record e { stage = Complete; operations = ops i ++ innermost (inside i) }

    -- what the closing of a scope declares is the same, where its keys have the same answers
    closing-same : (s t : Scope) (outer : List Scope) → ((k : Key) → IsIn k (gathered_at w (s ∷ t ∷ outer)) → v.answers k ≡ w.answers k) → closing v s ≡ closing w s
    closing-same s t outer h = by_kind (kind_eq s.kind Interface) h
      where
        declares : World → Option Entity → List Addition
        declares u o = elim o [ None ↦ [] | Some e ↦ Declares (closed u e) ∷ [] ]

        bases : Option Entity → List Key
        bases o = elim o [ None ↦ [] | Some e ↦ map entity_key e.bases ]

        by_entity : (o : Option Entity) → ((k : Key) → IsIn k (bases o) → v.answers k ≡ w.answers k) → declares v o ≡ declares w o
        by_entity None g = refl
        by_entity (Some e) g = ap (λ x. Declares x ∷ []) (closed-same e (λ b i. g (entity_key b) (IsIn-map entity_key b e.bases i)))

        by_kind : (b : Bool) → ((k : Key) → IsIn k (cond b (entity_key s.path ∷ bases (entity_in (w.answers (entity_key s.path)))) []) → v.answers k ≡ w.answers k)
            → cond b (declares v (entity_in (v.answers (entity_key s.path)))) [] ≡ cond b (declares w (entity_in (w.answers (entity_key s.path)))) []
        by_kind true g = ap (λ o. declares v (entity_in o)) (g (entity_key s.path) (inl refl)) ∙ by_entity (entity_in (w.answers (entity_key s.path))) (λ k i. g k (inr i))
        by_kind false g = refl

    closing-outside : v.before ≡ w.before → (scopes : List Scope) → ((k : Key) → IsIn k (gathered_at w scopes) → v.answers k ≡ w.answers k) → AgreeOutside keys (after_closing w scopes).answers (after_closing v scopes).answers
    closing-outside before [] h = same
    closing-outside before (s ∷ []) h = same
    closing-outside before (s ∷ t ∷ outer) h =
        with_prefix-outside (given_back w.before.opened) (given_back v.before.opened) _ _ (ap (λ b. given_back b.opened) before)
        (with_answer-outside Cursor (Open (t ∷ outer)) (Open (t ∷ outer)) (λ k. over (closing w s) k (w.answers k)) (λ k. over (closing v s) k (v.answers k)) refl
        (λ k out. ap (λ c. over c k (v.answers k)) (closing-same s t outer h) ∙ ap (over (closing w s) k) (same k out)))

  -- after a nameless scope is opened
  nameless-outside : (w v : World) (kind : Kind) → AgreeOutside keys w.answers v.answers → v.inside ≡ w.inside → ((k : Key) → IsIn k (looked_at w (OpensNameless kind)) → v.answers k ≡ w.answers k)
      → AgreeOutside keys (after_step w (OpensNameless kind)).answers (after_step v (OpensNameless kind)).answers
  nameless-outside w v kind same inside h =
      opening-outside (after_nameless w) (after_nameless v)
      (with_answer-outside Nameless (Count (count_in (w.answers Nameless) + 1)) (Count (count_in (v.answers Nameless) + 1)) w.answers v.answers (ap (λ o. Count (count_in o + 1)) (h Nameless (inl refl))) same)
      inside (scope w) (scope v) (λ i. record { path = path i; kind = kind; body = body i }) (h Cursor (inr (inl refl)))
    where
      path_of : World → List (List ℕ)
      path_of u = nameless (count_in (u.answers Nameless)) ∷ path_around (scopes_in (u.answers Cursor))

      scope : World → Scope
      scope u = record { path = path_of u; kind = kind; body = next_body u (path_of u) }

      path : path_of v ≡ path_of w
      path = let count = h Nameless (inl refl) in let cursor = h Cursor (inr (inl refl)) in λ i. nameless (count_in (count i)) ∷ path_around (scopes_in (cursor i))

      body : next_body v (path_of v) ≡ next_body w (path_of w)
      body = ap (next_body v) path ∙ ap (λ o. count_in o + 1) (h (Opened (path_of w)) (inr (inr (inl refl))))

  -- after a change of the open scopes, where the keys that it looks at have the same answers
  step-outside : (w v : World) (step : Step) → AgreeOutside keys w.answers v.answers → v.inside ≡ w.inside → v.before ≡ w.before → ((k : Key) → IsIn k (looked_at w step) → v.answers k ≡ w.answers k) → AgreeOutside keys (after_step w step).answers (after_step v step).answers
  step-outside w v Stays same inside before h = same
  step-outside w v (Opens path kind) same inside before h =
      opening-outside w v same inside (record { path = path; kind = kind; body = next_body w path }) (record { path = path; kind = kind; body = next_body v path })
      (ap (λ o. record { path = path; kind = kind; body = count_in o + 1 }) (h (Opened path) (inr (inl refl)))) (h Cursor (inl refl))
  step-outside w v (OpensNameless kind) same inside before h = nameless-outside w v kind same inside h
  step-outside w v Closes same inside before h =
      λ k out. ap (λ o. (after_closing v (scopes_in o)).answers k) (h Cursor (inl refl)) ∙ closing-outside w v same inside before (scopes_in (w.answers Cursor)) (λ q i. h q (inr i)) k out
  step-outside w v (Prefixes text) same inside before h =
      with_prefix-outside _ _ w.answers v.answers (ap (λ o. record { text = text; scope = path_around (scopes_in o) }) (h Cursor (inl refl))) same
  step-outside w v Enters same inside before h = with_prefix-outside _ _ w.answers v.answers refl same
  step-outside w v Leaves same inside before h =
      with_prefix-outside (given_back w.before.entered) (given_back v.before.entered) w.answers v.answers (ap (λ b. given_back b.entered) before) same

  -- and the operations and attributes of the open scopes are the same
  closing-inside : (w v : World) (scopes : List Scope) → v.inside ≡ w.inside → (after_closing v scopes).inside ≡ (after_closing w scopes).inside
  closing-inside w v [] inside = inside
  closing-inside w v (s ∷ []) inside = inside
  closing-inside w v (s ∷ t ∷ outer) inside = ap (drop 1) inside

  step-inside : (w v : World) (step : Step) → v.inside ≡ w.inside → ((k : Key) → IsIn k (looked_at w step) → v.answers k ≡ w.answers k) → (after_step v step).inside ≡ (after_step w step).inside
  step-inside w v (Opens path kind) inside h = ap (λ own. [] ∷ own) inside
  step-inside w v (OpensNameless kind) inside h = ap (λ own. [] ∷ own) inside
  step-inside w v Closes inside h = ap (λ o. (after_closing v (scopes_in o)).inside) (h Cursor (inl refl)) ∙ closing-inside w v (scopes_in (w.answers Cursor)) inside
  step-inside w v other inside h = inside

  -- and so are the prefixes that come back
  closing-before : (w v : World) (scopes : List Scope) → v.before ≡ w.before → (after_closing v scopes).before ≡ (after_closing w scopes).before
  closing-before w v [] before = before
  closing-before w v (s ∷ []) before = before
  closing-before w v (s ∷ t ∷ outer) before = λ i. record (before i) { opened = drop 1 (before i).opened }

  step-before : (w v : World) (step : Step) → v.before ≡ w.before → ((k : Key) → IsIn k (looked_at w step) → v.answers k ≡ w.answers k) → (after_step v step).before ≡ (after_step w step).before
  step-before w v Stays before h = before
  step-before w v (Opens path kind) before h =
      let prefix = h PrefixKey (inr (inr (inl refl))) in
      λ i. record (before i) { opened = prefix_in (prefix i) ∷ (before i).opened }
  step-before w v (OpensNameless kind) before h =
      let prefix = h PrefixKey (inr (inr (inr (inl refl)))) in
      λ i. record (before i) { opened = prefix_in (prefix i) ∷ (before i).opened }
  step-before w v Closes before h = ap (λ o. (after_closing v (scopes_in o)).before) (h Cursor (inl refl)) ∙ closing-before w v (scopes_in (w.answers Cursor)) before
  step-before w v (Prefixes text) before h = before
  step-before w v Enters before h =
      let prefix = h PrefixKey (inl refl) in
      λ i. record (before i) { entered = prefix_in (prefix i) ∷ (before i).entered }
  step-before w v Leaves before h = λ i. record (before i) { entered = drop 1 (before i).entered }

  -- so worlds that agree outside some keys do, after a change that looks at none of them
  pub after_step-outside : (w v : World) (step : Step) → WorldsAgreeOutside keys w v → AreApart (looked_at w step) keys → WorldsAgreeOutside keys (after_step w step) (after_step v step)
  after_step-outside w v step (same, both) apart =
      let read : (k : Key) → IsIn k (looked_at w step) → v.answers k ≡ w.answers k = λ k i. same k (apart k (Contains-IsIn k (looked_at w step) i)) in
      (step-outside w v step same both.0 both.1 read, (step-inside w v step both.0 read, step-before w v step both.1 read))

  -- the facts of a unit, added to worlds that agree outside some keys, of which they look at none
  pub after-outside : (w v : World) (f : UnitFacts) → WorldsAgreeOutside keys w v → AreApart (looked_at_by w f) keys → WorldsAgreeOutside keys (after w f) (after v f)
  after-outside w v f (same, both) apart =
      let stops = flat_map stops_of f.additions in
      let looked = looked_at (with_additions f.additions w) f.step in
      let added = additions-outside f.additions keys w.answers v.answers same (λ k c. apart k (Contains-append_left stops looked k c)) in
      let more = ap (λ x. more_inside x (operations_among f.additions)) both.0 in
      after_step-outside (with_additions f.additions w) (with_additions f.additions v) f.step (added, (more, both.1)) (λ k c. apart k (Contains-append_right stops looked k c))
