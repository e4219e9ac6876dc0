-- What is kept by a closing behind the facts of a block.
use Rattle.std.proofs.Common.{◌≡◌, ◌⊎◌, ℕ, Bool, true, false, cond, ◌||◌, ◌&&◌, not, List, [], ◌∷◌, ◌++◌, Option, Some, None, refl, sym, ap, ◌∙◌, subst, inl, inr}
use Rattle.std.specs.Prelude.{All, Contains, drop, is_some}
use Rattle.std.proofs.lemmas.List.Elements.{All-head, All-tail, All-weaker}
use Rattle.idl_entity.specs.Kind.{kind_eq, same_kind}
use Rattle.idl_entity.specs.declared.entity.Entity.{Entity}
use Rattle.idl_entity.specs.declared.identity.Prefix.{Prefix}
use Rattle.idl_entity.specs.declared.kind.Kind.TheVariants.{Interface}
use Rattle.idl_entity.specs.declared.kind.Stage.TheVariants.{Complete}
use Rattle.idl_env.proofs.AnswerLaws.AnswerLemmas.{over-cons}
use Rattle.idl_env.specs.Facts.{World, after_closing, after_step, closed, closing, entity_in, entity_key, innermost, joined, operations_of, over, scopes_in}
use Rattle.idl_env.specs.SameKey.{same_key}
use Rattle.idl_env.specs.Written.{closes_at, is_added}
use Rattle.idl_env.specs.declared.additions.addition.Addition.{Addition}
use Rattle.idl_env.specs.declared.additions.addition.Addition.TheVariants.{Declares}
use Rattle.idl_env.specs.declared.additions.addition.Step.TheVariants.{Closes}
use Rattle.idl_env.specs.declared.answering.answer.Answer.{Answer}
use Rattle.idl_env.specs.declared.answering.answer.Answer.TheVariants.{InForce, Known}
use Rattle.idl_env.specs.declared.answering.answer.Scope.{Scope}
use Rattle.idl_env.specs.declared.keys.key.Key.{Key}
use Rattle.idl_env.specs.declared.keys.key.Key.TheVariants.{Cursor, Declared, Introduced, Opened, Nameless, Prefix as PrefixKey, IdOf, Typeprefix}
use Rattle.idl_env.specs.keys.Key.{key_eq}
use Rattle.idl_memo.specs.Query.{Done, and_then, asked}
use Rattle.idl_block.specs.facts.Answered.{AreNamed, AskedWorld, Asking, coming_back, completed, declared_closing, gathering, inheriting, is_nameless, mapped, stepped}
use Rattle.idl_block.specs.facts.Beneath.{IsThere}
use Rattle.idl_block.proofs.FactLaws.Seen.AddedSees.{IsPlain}
use Rattle.idl_block.proofs.FactLaws.Seen.Covers.{AreSeenScopes, AreWritten, Covers, IsWrittenScope, or-either, or-left, or-neither, written-more}
use Rattle.idl_block.proofs.FactLaws.Seen.Sees.{AreIn, Sees, asks-first, asks-second, in-itself, in-more, sees-done, sees-first, sees-in, sees-mapped, sees-more, sees-second, sees-then}
use Rattle.idl_block.proofs.FactLaws.StandingLaws.{Stands, outcomes, or-right}

module _ (bank : Key → Option Answer) (seen : List Key) (a : AskedWorld) (w : World) (written : Key → Bool) (c : Covers bank seen a w written) (s : Stands bank a w)
    (named : AreNamed w.answers) (cursor : Sees bank seen (a.answers Cursor)) (there : IsThere (outcomes bank a.opened))
    (here next : Scope) (outer : List Scope) (is : scopes_in (w.answers Cursor) ≡ here ∷ next ∷ outer) where
  abbrev closed_one : AskedWorld
  closed_one = stepped a Closes

  -- what the closing writes
  abbrev closes : Key → Bool
  closes k = closes_at w (here ∷ next ∷ outer) k

  abbrev written_closed : Key → Bool
  written_closed k = written k || closes k

  -- the scope was opened in the block
  head-written : IsWrittenScope bank written here
  head-written = by a.opened there (subst (AreWritten bank written a.opened) is c.entities)
    where
      by : (queries : List (Asking Prefix)) → IsThere (outcomes bank queries) → AreWritten bank written queries (here ∷ next ∷ outer) → IsWrittenScope bank written here
      by [] there are = absurd there
      by (q ∷ queries) there are = are.0

  -- ---- bases

  gathering-sees : (more : List Key) (found bases : List (List (List ℕ))) → All (λ b. Sees bank more (a.answers (entity_key b))) bases → Sees bank more (gathering a found bases)
  gathering-sees more found [] all = sees-done bank {A = List (List (List ℕ))} more found
  gathering-sees more found (b ∷ bases) all =
      let P : List (List ℕ) → Type 0 = λ b. Sees bank more (a.answers (entity_key b)) in
      sees-then bank more (a.answers (entity_key b)) (λ answer. gathering a (joined found (operations_of (entity_in answer))) bases) (w.answers (entity_key b)) (s.answers (entity_key b))
      (All-head P b bases all) (gathering-sees more (joined found (operations_of (entity_in (w.answers (entity_key b))))) bases (All-tail P b bases all))

  inheriting-sees : (more : List Key) (bases : List (List (List ℕ))) → All (λ b. Sees bank more (a.answers (entity_key b))) bases → Sees bank more (inheriting a bases)
  inheriting-sees more [] all = sees-done bank {A = List (List (List ℕ))} more []
  inheriting-sees more (b ∷ bases) all =
      let P : List (List ℕ) → Type 0 = λ b. Sees bank more (a.answers (entity_key b)) in
      sees-then bank more (a.answers (entity_key b)) (λ answer. gathering a (operations_of (entity_in answer)) bases) (w.answers (entity_key b)) (s.answers (entity_key b))
      (All-head P b bases all) (gathering-sees more (operations_of (entity_in (w.answers (entity_key b)))) bases (All-tail P b bases all))

  -- what comes of an entity, if there is one
  abbrev completed_by : Option Answer → Option Entity → Asking (Option Answer)
  completed_by answer o = elim o [
    | None ↦ Done answer
    | Some e ↦ mapped (λ found. Some (Known (record e { stage = Complete; operations = found ++ innermost a.inside }))) (inheriting a e.bases)
  ]

  completed-sees : (answer : Option Answer) → ((e : Entity) → entity_in answer ≡ Some e → All (λ b. Sees bank seen (a.answers (entity_key b))) e.bases) → Sees bank seen (completed a answer)
  completed-sees answer bases = by (entity_in answer) refl
    where
      by : (o : Option Entity) → entity_in answer ≡ o → Sees bank seen (completed_by answer o)
      by None h = sees-done bank {A = Option Answer} seen answer
      by (Some e) h = sees-mapped bank seen (λ found. Some (Known (record e { stage = Complete; operations = found ++ innermost a.inside }))) (inheriting a e.bases) (inheriting-sees seen e.bases (bases e h))

  -- ---- names

  abbrev declared_by : Bool → Key → Asking (Option Answer)
  declared_by b k = cond b (and_then (a.answers k) (λ answer. completed a answer)) (a.answers k)

  abbrev is_closed : Key → Bool
  is_closed k = kind_eq here.kind Interface && (not (is_nameless here.path) && key_eq k (entity_key here.path))

  -- what is declared behind the closing, by the open scopes
  declared-is : (k : Key) → declared_closing a (scopes_in (w.answers Cursor)) k ≡ declared_by (is_closed k) k
  declared-is k = ap (λ scopes. declared_closing a scopes k) is

  -- at the key of the scope's entity it is written
  closed-written : (k : Key) → is_closed k ≡ true → (k ≡ entity_key here.path) × (written (entity_key here.path) ≡ true)
  closed-written k h = by (kind_eq here.kind Interface) (is_nameless here.path) (key_eq k (entity_key here.path)) refl refl refl h
    where
      by : (b less t : Bool) → kind_eq here.kind Interface ≡ b → is_nameless here.path ≡ less → key_eq k (entity_key here.path) ≡ t → (b && (not less && t)) ≡ true
          → (k ≡ entity_key here.path) × (written (entity_key here.path) ≡ true)
      by true false true kind less key h = (same_key k (entity_key here.path) key, head-written (same_kind here.kind Interface kind) less)
      by true false false kind less key h = cc
      by true true t kind less key h = cc
      by false less t kind less_is key h = cc

  declared-sees : (n : List ℕ) (path : List (List ℕ)) (more : List Key) (b : Bool) → is_closed (Declared n path) ≡ b → AreIn seen more → (b ≡ false → Sees bank more (a.answers (Declared n path)))
      → Sees bank more (declared_by b (Declared n path))
  declared-sees n path more false closed larger rest = rest refl
  declared-sees n path more true closed larger rest =
      let k : Key = Declared n path in
      let both = closed-written k closed in
      let so : written k ≡ true = ap written both.0 ∙ both.1 in
      sees-in bank seen more (and_then (a.answers k) (λ answer. completed a answer)) larger
      (sees-then bank seen (a.answers k) (λ answer. completed a answer) (w.answers k) (s.answers k) (c.done k tt so)
      (completed-sees (w.answers k) (λ e h. c.bases n path e so h)))

  name-sees : (n : List ℕ) (path : List (List ℕ)) (more : List Key) → AreIn seen more → (is_closed (Declared n path) ≡ false → Sees bank more (a.answers (Declared n path)))
      → Sees bank more (closed_one.answers (Declared n path))
  name-sees n path more larger rest =
      let k : Key = Declared n path in
      sees-then bank more (a.answers Cursor) (λ cursor. declared_closing a (scopes_in cursor) k) (w.answers Cursor) (s.answers Cursor) (sees-in bank seen more (a.answers Cursor) larger cursor)
      (subst (Sees bank more) (sym (declared-is k)) (declared-sees n path more (is_closed k) refl larger rest))

  -- it was seen before, where it is behind the closing
  name-before : (n : List ℕ) (path : List (List ℕ)) (more : List Key) → Sees bank more (closed_one.answers (Declared n path)) → Sees bank more (a.answers (Declared n path))
  name-before n path more sees =
      let k : Key = Declared n path in
      by (is_closed k) (subst (Sees bank more) (declared-is k) (sees-second bank more (a.answers Cursor) (λ cursor. declared_closing a (scopes_in cursor) k) (w.answers Cursor) (s.answers Cursor) sees))
    where
      by : (b : Bool) → Sees bank more (declared_by b (Declared n path)) → Sees bank more (a.answers (Declared n path))
      by true sees = sees-first bank more (a.answers (Declared n path)) (λ answer. completed a answer) sees
      by false sees = sees

  -- what a closing adds stands at the written key of the interface that it completes
  adds-closed : (k : Key) → is_added (closing w here) k ≡ true → is_closed k ≡ true
  adds-closed k h = by (kind_eq here.kind Interface) (entity_in (w.answers (entity_key here.path))) refl h
    where
      at : (f : Entity) (less t : Bool) → entity_in (w.answers (entity_key here.path)) ≡ Some f → is_nameless here.path ≡ less → key_eq k (entity_key here.path) ≡ t
          → is_some (cond (key_eq k (entity_key here.path)) (Some (Declares (closed w f))) None) ≡ true → (not less && t) ≡ true
      at f true t stands less key h = let never : Some f ≡ None = sym stands ∙ named.declared here.path less in cc
      at f false true stands less key h = refl
      at f false false stands less key h = let never : false ≡ true = (λ i. is_some (cond (sym key i) (Some (Declares (closed w f))) None)) ∙ h in cc

      by : (b : Bool) (o : Option Entity) → entity_in (w.answers (entity_key here.path)) ≡ o
          → is_added (cond b (elim o as (λ _. List Addition) [ None ↦ [] | Some f ↦ Declares (closed w f) ∷ [] ]) []) k ≡ true
          → (b && (not (is_nameless here.path) && key_eq k (entity_key here.path))) ≡ true
      by false o stands h = cc
      by true None stands h = cc
      by true (Some f) stands h =
          let own : entity_key f.path ≡ entity_key here.path = named.own _ _ f stands in
          at f (is_nameless here.path) (key_eq k (entity_key here.path)) stands refl refl
          ((λ i. is_some (cond (key_eq k (sym own i)) (Some (Declares (closed w f))) None)) ∙ h)

  -- where the closing writes as it adds, the key was written before
  added-before : (k : Key) → (written k ≡ true) ⊎ (is_added (closing w here) k ≡ true) → written k ≡ true
  added-before k (inl so) = so
  added-before k (inr adds) = let both = closed-written k (adds-closed k adds) in ap written both.0 ∙ both.1

  was-written : (k : Key) → (written k || is_added (closing w here) k) ≡ true → written k ≡ true
  was-written k h = added-before k (or-either (written k) (is_added (closing w here) k) h)

  name-done : (n : List ℕ) (path : List (List ℕ)) → written_closed (Declared n path) ≡ true → Sees bank seen (closed_one.answers (Declared n path))
  name-done n path h = name-sees n path seen (in-itself seen) (λ other. c.done (Declared n path) tt (was-written (Declared n path) h))

  name-whole : (n : List ℕ) (path : List (List ℕ)) → written_closed (Declared n path) ≡ false → Contains (asked (closed_one.answers (Declared n path)) bank) (Declared n path)
  name-whole n path h =
      asks-second bank (a.answers Cursor) (λ cursor. declared_closing a (scopes_in cursor) k) (w.answers Cursor) k (s.answers Cursor)
      (subst (λ q. Contains (asked q bank) k) (sym (declared-is k)) (by (is_closed k)))
    where
      k : Key
      k = Declared n path

      before : Contains (asked (a.answers k) bank) k
      before = c.whole k (or-neither (written k) (closes k) h).0

      by : (b : Bool) → Contains (asked (declared_by b k) bank) k
      by true = asks-first bank (a.answers k) (λ answer. completed a answer) k before
      by false = before

  -- ---- all keys

  prefix-back : Sees bank seen (closed_one.answers PrefixKey)
  prefix-back = by a.opened there c.opens
    where
      by : (queries : List (Asking Prefix)) → IsThere (outcomes bank queries) → All (Sees bank seen) queries → Sees bank seen (coming_back queries)
      by [] there all = absurd there
      by (q ∷ queries) there all = sees-mapped bank seen (λ p. Some (InForce p)) q (All-head (Sees bank seen) q queries all)

  cursor-back : Sees bank seen (closed_one.answers Cursor)
  cursor-back = sees-mapped bank seen _ (a.answers Cursor) cursor

  closed-own : (k : Key) → IsPlain k → Sees bank (seen ++ k ∷ []) (closed_one.answers k)
  closed-own Cursor plain = sees-more bank seen (Cursor ∷ []) (closed_one.answers Cursor) cursor-back
  closed-own PrefixKey plain = sees-more bank seen (PrefixKey ∷ []) (closed_one.answers PrefixKey) prefix-back
  closed-own (Declared n path) plain =
      name-sees n path (seen ++ Declared n path ∷ []) (in-more seen seen (Declared n path ∷ []) (in-itself seen)) (λ other. c.own (Declared n path) tt)
  closed-own (Introduced n path body) plain = absurd plain
  closed-own (Opened path) plain = c.own (Opened path) tt
  closed-own Nameless plain = c.own Nameless tt
  closed-own (IdOf path) plain = c.own (IdOf path) tt
  closed-own (Typeprefix path) plain = c.own (Typeprefix path) tt

  closed-done : (k : Key) → IsPlain k → written_closed k ≡ true → Sees bank seen (closed_one.answers k)
  closed-done Cursor plain h = cursor-back
  closed-done PrefixKey plain h = prefix-back
  closed-done (Declared n path) plain h = name-done n path h
  closed-done (Introduced n path body) plain h = absurd plain
  closed-done (Opened path) plain h = c.done (Opened path) tt (was-written (Opened path) h)
  closed-done Nameless plain h = c.done Nameless tt (was-written Nameless h)
  closed-done (IdOf path) plain h = c.done (IdOf path) tt (was-written (IdOf path) h)
  closed-done (Typeprefix path) plain h = c.done (Typeprefix path) tt (was-written (Typeprefix path) h)

  closed-whole : (k : Key) → written_closed k ≡ false → Contains (asked (closed_one.answers k) bank) k
  closed-whole Cursor h = let never : true ≡ false = sym (or-right (written Cursor) true refl) ∙ h in cc
  closed-whole PrefixKey h = let never : true ≡ false = sym (or-right (written PrefixKey) true refl) ∙ h in cc
  closed-whole (Declared n path) h = name-whole n path h
  closed-whole (Introduced n path body) h = c.whole (Introduced n path body) (or-neither (written (Introduced n path body)) (closes (Introduced n path body)) h).0
  closed-whole (Opened path) h = c.whole (Opened path) (or-neither (written (Opened path)) (closes (Opened path)) h).0
  closed-whole Nameless h = c.whole Nameless (or-neither (written Nameless) (closes Nameless) h).0
  closed-whole (IdOf path) h = c.whole (IdOf path) (or-neither (written (IdOf path)) (closes (IdOf path)) h).0
  closed-whole (Typeprefix path) h = c.whole (Typeprefix path) (or-neither (written (Typeprefix path)) (closes (Typeprefix path)) h).0

  -- ---- bases of what is declared then

  stay : (bases : List (List (List ℕ))) → All (λ b. Sees bank seen (a.answers (entity_key b))) bases → All (λ b. Sees bank seen (closed_one.answers (entity_key b))) bases
  stay bases all =
      All-weaker (λ b. Sees bank seen (a.answers (entity_key b))) (λ b. Sees bank seen (closed_one.answers (entity_key b)))
      (λ b sees. name-sees _ _ seen (in-itself seen) (λ other. sees)) bases all

  abbrev after : World
  after = after_closing w (here ∷ next ∷ outer)

  -- the entity at a key is the one before, or that one completed
  entity-before : (k : Key) (e : Entity) → entity_in (over (closing w here) k (w.answers k)) ≡ Some e
      → (entity_in (w.answers k) ≡ Some e) ⊎ ((f : Entity) × (entity_in (w.answers k) ≡ Some f) × (f.bases ≡ e.bases))
  entity-before k e h = by (kind_eq here.kind Interface) (entity_in (w.answers (entity_key here.path))) refl h
    where
      Before : Type 0
      Before = (entity_in (w.answers k) ≡ Some e) ⊎ ((f : Entity) × (entity_in (w.answers k) ≡ Some f) × (f.bases ≡ e.bases))

      at : (f : Entity) (t : Bool) → entity_in (w.answers (entity_key here.path)) ≡ Some f → key_eq k (entity_key here.path) ≡ t
          → entity_in (cond t (Some (Known (closed w f))) (w.answers k)) ≡ Some e → Before
      at f true stands key h =
          let same : Some (closed w f) ≡ Some e = h in
          let one : closed w f ≡ e = cc in
          let found : entity_in (w.answers k) ≡ Some f = ap (λ q. entity_in (w.answers q)) (same_key k (entity_key here.path) key) ∙ stands in
          inr (f, found, ap (λ (x : Entity). x.bases) one)
      at f false stands key h = inl h

      by : (b : Bool) (o : Option Entity) → entity_in (w.answers (entity_key here.path)) ≡ o
          → entity_in (over (cond b (elim o as (λ _. List Addition) [ None ↦ [] | Some f ↦ Declares (closed w f) ∷ [] ]) []) k (w.answers k)) ≡ Some e → Before
      by false o stands h = inl h
      by true None stands h = inl h
      by true (Some f) stands h =
          let own : entity_key f.path ≡ entity_key here.path = named.own _ _ f stands in
          at f (key_eq k (entity_key here.path)) stands refl
          (ap entity_in (sym (over-cons (Declares (closed w f)) [] k (w.answers k) ∙ ap (λ q. cond (key_eq k q) (Some (Known (closed w f))) (w.answers k)) own)) ∙ h)

  closed-bases : (n : List ℕ) (path : List (List ℕ)) (e : Entity) → written_closed (Declared n path) ≡ true → entity_in (after.answers (Declared n path)) ≡ Some e
      → All (λ b. Sees bank seen (closed_one.answers (entity_key b))) e.bases
  closed-bases n path e h stands = by (entity-before k e stands)
    where
      k : Key
      k = Declared n path

      so : written k ≡ true
      so = was-written k h

      by : (entity_in (w.answers k) ≡ Some e) ⊎ ((f : Entity) × (entity_in (w.answers k) ≡ Some f) × (f.bases ≡ e.bases))
          → All (λ b. Sees bank seen (closed_one.answers (entity_key b))) e.bases
      by (inl before) = stay e.bases (c.bases n path e so before)
      by (inr f) = subst (All (λ b. Sees bank seen (closed_one.answers (entity_key b)))) f.2 (stay f.0.bases (c.bases n path f.0 so f.1))

  others-written : AreWritten bank written_closed (drop 1 a.opened) (next ∷ outer)
  others-written = by a.opened (subst (AreWritten bank written a.opened) is c.entities)
    where
      by : (queries : List (Asking Prefix)) → AreWritten bank written queries (here ∷ next ∷ outer) → AreWritten bank written_closed (drop 1 queries) (next ∷ outer)
      by [] are = tt
      by (q ∷ queries) are = written-more bank written written_closed (λ k so. or-left (written k) (closes k) so) queries (next ∷ outer) are.1

  others-seen : AreSeenScopes bank seen a.declares (drop 1 a.opened) (next ∷ outer)
  others-seen = by a.opened there (subst (AreSeenScopes bank seen a.declares a.opened) is c.scopes)
    where
      by : (queries : List (Asking Prefix)) → IsThere (outcomes bank queries) → AreSeenScopes bank seen a.declares queries (here ∷ next ∷ outer)
          → AreSeenScopes bank seen a.declares (drop 1 queries) (next ∷ outer)
      by [] there are = absurd there
      by (q ∷ queries) there are = are.1

  rest-seen : All (Sees bank seen) (drop 1 a.opened)
  rest-seen = by a.opened c.opens
    where
      by : (queries : List (Asking Prefix)) → All (Sees bank seen) queries → All (Sees bank seen) (drop 1 queries)
      by [] all = all
      by (q ∷ queries) all = All-tail (Sees bank seen) q queries all

  pub closes-covers : Covers bank seen closed_one (after_step w Closes) (λ k. written k || closes_at w (scopes_in (w.answers Cursor)) k)
  closes-covers = subst (λ scopes. Covers bank seen closed_one (after_closing w scopes) (λ k. written k || closes_at w scopes k)) (sym is) (record {
    own = closed-own;
    done = closed-done;
    used = λ n path body more of larger sees. c.used n path body more of larger (name-before n path more sees);
    used_done = λ n path body more of larger sees h. c.used_done n path body more of larger (name-before n path more sees) (was-written (Introduced n path body) h);
    whole = closed-whole;
    prefix = or-left (written PrefixKey) true c.prefix;
    opens = rest-seen;
    enters = c.enters;
    entities = others-written;
    scopes = others-seen;
    bases = closed-bases;
  })
