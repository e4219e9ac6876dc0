-- What is kept behind the facts of a block: each key is answered by itself, or by keys that were seen.
use Rattle.std.proofs.Common.{◌≡◌, ◌≤◌, ◌<◌, ◌⊎◌, ℕ, Bool, true, false, cond, ◌||◌, not, List, [], ◌∷◌, ◌++◌, length, map, Option, Some, None, refl, sym, ap, ◌∙◌, subst, arith, inl, inr}
use Rattle.std.specs.Prelude.{All, Contains, is_some}
use Rattle.std.proofs.lemmas.Bool.{and_parts}
use Rattle.std.proofs.lemmas.List.Elements.{All-head, All-tail, All-weaker}
use Rattle.idl_entity.specs.Path.{path_eq}
use Rattle.idl_entity.specs.declared.entity.Entity.{Entity}
use Rattle.idl_entity.specs.declared.identity.Prefix.{Prefix}
use Rattle.idl_entity.specs.declared.kind.Kind.TheVariants.{Interface}
use Rattle.idl_env.proofs.Membership.{Contains-IsIn, IsIn, IsIn-Contains}
use Rattle.idl_env.proofs.StoppedLemmas.{unstopped-in}
use Rattle.idl_env.specs.Facts.{World, addition_at, answer_of, entity_in, entity_key, key_of, scopes_in, unstopped, with_additions}
use Rattle.idl_env.specs.declared.additions.addition.Addition.{Addition}
use Rattle.idl_env.specs.declared.additions.addition.Addition.TheVariants.{Declares, Uses, UsesFurther, Appears, Identifies, TypePrefixes}
use Rattle.idl_env.specs.declared.answering.answer.Answer.{Answer}
use Rattle.idl_env.specs.declared.answering.answer.Scope.{Scope}
use Rattle.idl_env.specs.declared.keys.key.Key.{Key}
use Rattle.idl_env.specs.declared.keys.key.Key.TheVariants.{Cursor, Declared, Introduced, Opened, Nameless, Prefix as PrefixKey, IdOf, Typeprefix}
use Rattle.idl_env.specs.keys.Digested.{key_equiv}
use Rattle.idl_memo.specs.Query.{Done, asked}
use Rattle.idl_block.specs.facts.Known.{NoneInside}
use Rattle.idl_block.specs.facts.Answered.{AreStops, AskedWorld, Asking, Inside, IsStop, Itself, Silent, is_nameless, is_other_nameless, with_added}
use Rattle.idl_block.proofs.FactLaws.Seen.AddedSees.{AtPlain, IsPlain, added-sees, adds, at-plain, used-asks, used-sees}
use Rattle.idl_block.proofs.FactLaws.BalanceLaws.{over_cursor}
use Rattle.idl_block.proofs.FactLaws.Seen.Sees.{AreIn, Sees, in-more, in-on, in-push, sees-done, sees-in, sees-more, sees-nothing}
use Rattle.idl_block.proofs.FactLaws.StandingLaws.{Stands, found-is}

-- ---- truth

pub or-left : (b c : Bool) → b ≡ true → (b || c) ≡ true
or-left true c h = refl
or-left false c h = cc

pub or-either : (b c : Bool) → (b || c) ≡ true → (b ≡ true) ⊎ (c ≡ true)
or-either true c h = inl refl
or-either false c h = inr h

pub or-neither : (b c : Bool) → (b || c) ≡ false → (b ≡ false) × (c ≡ false)
or-neither true c h = cc
or-neither false c h = (refl, h)

module _ (bank : Key → Option Answer) where
  -- each but the last: that one comes back only where the block's own file is left
  abbrev pub SeesInner : List Key → List (Asking Prefix) → Type 0
  SeesInner seen [] = Unit {0}
  SeesInner seen (q ∷ []) = Unit {0}
  SeesInner seen (q ∷ r ∷ queries) = Sees bank seen q × SeesInner seen (r ∷ queries)

  -- the entity of an interface that has a name is written
  abbrev pub IsWrittenScope : (Key → Bool) → Scope → Type 0
  IsWrittenScope written s = s.kind ≡ Interface → is_nameless s.path ≡ false → written (entity_key s.path) ≡ true

  -- so it is with the scopes that were opened in the block
  abbrev pub AreWritten : (Key → Bool) → List (Asking Prefix) → List Scope → Type 0
  AreWritten written [] scopes = Unit {0}
  AreWritten written (q ∷ queries) [] = Unit {0}
  AreWritten written (q ∷ queries) (s ∷ scopes) = IsWrittenScope written s × AreWritten written queries scopes

  -- whether a nameless scope declares a name was seen
  abbrev pub IsSeenScope : List Key → (List ℕ → List (List ℕ) → Asking Bool) → Scope → Type 0
  IsSeenScope seen declares s = is_nameless s.path ≡ true → (n : List ℕ) → Sees bank seen (declares n s.path)

  -- so it is with the scopes that were opened in the block; the others are those of the bank
  abbrev pub AreSeenScopes : List Key → (List ℕ → List (List ℕ) → Asking Bool) → List (Asking Prefix) → List Scope → Type 0
  AreSeenScopes seen declares [] scopes = scopes ≡ scopes_in (bank Cursor)
  AreSeenScopes seen declares (q ∷ queries) [] = ⊥
  AreSeenScopes seen declares (q ∷ queries) (s ∷ scopes) = IsSeenScope seen declares s × AreSeenScopes seen declares queries scopes

  -- a scope inside of which none was open before the block
  abbrev pub IsOfBlock : List (List ℕ) → Type 0
  IsOfBlock path = NoneInside (scopes_in (bank Cursor)) path

  -- a block that was written so far over the bank, where these keys were seen
  pub record Covers (seen : List Key) (a : AskedWorld) (w : World) (written : Key → Bool) : Type 0 where
    pub own : (k : Key) → IsPlain k → Sees bank (seen ++ k ∷ []) (a.answers k)
    pub done : (k : Key) → IsPlain k → written k ≡ true → Sees bank seen (a.answers k)
    pub used : (n : List ℕ) (path : List (List ℕ)) (body : ℕ) (more : List Key) → IsOfBlock path → AreIn seen more → Sees bank more (a.answers (Declared n path))
        → Sees bank (more ++ Introduced n path body ∷ []) (a.answers (Introduced n path body))
    pub used_done : (n : List ℕ) (path : List (List ℕ)) (body : ℕ) (more : List Key) → IsOfBlock path → AreIn seen more → Sees bank more (a.answers (Declared n path))
        → written (Introduced n path body) ≡ true → Sees bank more (a.answers (Introduced n path body))
    pub whole : (k : Key) → written k ≡ false → Contains (asked (a.answers k) bank) k
    pub prefix : written PrefixKey ≡ true
    pub opens : All (Sees bank seen) a.opened
    pub enters : SeesInner seen a.entered
    pub entities : AreWritten written a.opened (scopes_in (w.answers Cursor))
    pub scopes : AreSeenScopes seen a.declares a.opened (scopes_in (w.answers Cursor))
    pub bases : (n : List ℕ) (path : List (List ℕ)) (e : Entity) → written (Declared n path) ≡ true → entity_in (w.answers (Declared n path)) ≡ Some e
        → All (λ b. Sees bank seen (a.answers (entity_key b))) e.bases

  inner-in : (seen more : List Key) (queries : List (Asking Prefix)) → AreIn seen more → SeesInner seen queries → SeesInner more queries
  inner-in seen more [] all sees = tt
  inner-in seen more (q ∷ []) all sees = tt
  inner-in seen more (q ∷ r ∷ queries) all sees = (sees-in bank seen more q all sees.0, inner-in seen more (r ∷ queries) all sees.1)

  pub written-more : (written after : Key → Bool) → ((k : Key) → written k ≡ true → after k ≡ true) → (queries : List (Asking Prefix)) (scopes : List Scope)
      → AreWritten written queries scopes → AreWritten after queries scopes
  written-more written after more [] scopes are = tt
  written-more written after more (q ∷ queries) [] are = tt
  written-more written after more (q ∷ queries) (s ∷ scopes) are =
      (λ kind name. more (entity_key s.path) (are.0 kind name), written-more written after more queries scopes are.1)

  pub scopes-more : (seen more : List Key) (declares after : List ℕ → List (List ℕ) → Asking Bool)
      → ((n : List ℕ) (path : List (List ℕ)) → Sees bank seen (declares n path) → Sees bank more (after n path))
      → (queries : List (Asking Prefix)) (scopes : List Scope) → AreSeenScopes seen declares queries scopes → AreSeenScopes more after queries scopes
  scopes-more seen more declares after on [] scopes are = are
  scopes-more seen more declares after on (q ∷ queries) [] are = are
  scopes-more seen more declares after on (q ∷ queries) (s ∷ scopes) are =
      (λ less n. on n s.path (are.0 less n), scopes-more seen more declares after on queries scopes are.1)

  -- an open scope that is nameless was seen, or was open before
  scope-seen : (seen : List Key) (declares : List ℕ → List (List ℕ) → Asking Bool) (queries : List (Asking Prefix)) (scopes : List Scope) → AreSeenScopes seen declares queries scopes
      → (path : List (List ℕ)) → is_nameless path ≡ true → IsIn path (map (λ s. s.path) scopes)
      → IsIn path (map (λ s. s.path) (scopes_in (bank Cursor))) ⊎ ((n : List ℕ) → Sees bank seen (declares n path))
  scope-seen seen declares [] scopes are path less i = inl (subst (λ ss. IsIn path (map (λ s. s.path) ss)) are i)
  scope-seen seen declares (q ∷ queries) [] are path less i = absurd are
  scope-seen seen declares (q ∷ queries) (s ∷ scopes) are path less (inl is) =
      inr (λ n. subst (λ p. Sees bank seen (declares n p)) is (are.0 (ap is_nameless is ∙ less) n))
  scope-seen seen declares (q ∷ queries) (s ∷ scopes) are path less (inr i) = scope-seen seen declares queries scopes are.1 path less i

  -- what is so with all open scopes, is so with those of the bank
  pub scopes-before : (P : Scope → Type 0) (seen : List Key) (declares : List ℕ → List (List ℕ) → Asking Bool) (queries : List (Asking Prefix)) (scopes : List Scope)
      → AreSeenScopes seen declares queries scopes → All P scopes → All P (scopes_in (bank Cursor))
  scopes-before P seen declares [] scopes are all = subst (All P) are all
  scopes-before P seen declares (q ∷ queries) [] are all = absurd are
  scopes-before P seen declares (q ∷ queries) (s ∷ scopes) are all = scopes-before P seen declares queries scopes are.1 (All-tail P s scopes all)

  none-longer : (path q : List (List ℕ)) (scopes : List Scope) → NoneInside scopes path → IsIn q (map (λ s. s.path) scopes) → length path < length q → ⊥
  none-longer path q [] none i longer = i
  none-longer path q (s ∷ scopes) none (inl is) longer =
      let most : length s.path ≤ length path = All-head (λ (s : Scope). length s.path ≤ length path) s scopes none in
      let same : length s.path ≡ length q = ap length is in
      omega (arith, most, same, longer)
  none-longer path q (s ∷ scopes) none (inr i) longer = none-longer path q scopes (All-tail (λ (s : Scope). length s.path ≤ length path) s scopes none) i longer

  -- more keys were seen
  pub covers-in : (seen more : List Key) (a : AskedWorld) (w : World) (written : Key → Bool) → AreIn seen more → Covers seen a w written → Covers more a w written
  covers-in seen more a w written all c = record {
    own = λ k plain. sees-in bank (seen ++ k ∷ []) (more ++ k ∷ []) (a.answers k) (in-push seen more k all) (c.own k plain);
    done = λ k plain h. sees-in bank seen more (a.answers k) all (c.done k plain h);
    used = λ n path body others of larger there. c.used n path body others of (in-on seen more others all larger) there;
    used_done = λ n path body others of larger there h. c.used_done n path body others of (in-on seen more others all larger) there h;
    whole = c.whole;
    prefix = c.prefix;
    opens = All-weaker (Sees bank seen) (Sees bank more) (λ q h. sees-in bank seen more q all h) a.opened c.opens;
    enters = inner-in seen more a.entered all c.enters;
    entities = c.entities;
    scopes = scopes-more seen more a.declares a.declares (λ n path sees. sees-in bank seen more (a.declares n path) all sees) a.opened (scopes_in (w.answers Cursor)) c.scopes;
    bases = λ n path e h is. All-weaker (λ b. Sees bank seen (a.answers (entity_key b))) (λ b. Sees bank more (a.answers (entity_key b)))
        (λ b there. sees-in bank seen more (a.answers (entity_key b)) all there) e.bases (c.bases n path e h is);
  }

  -- ---- additions

  module _ (seen : List Key) (a : AskedWorld) (w : World) (written : Key → Bool) (c : Covers seen a w written) (s : Stands bank a w)
      (additions : List Addition) (stops : All (AreStops w.answers) additions)
      (known : (e : Entity) → Contains additions (Declares e) → Sees bank seen (a.answers (entity_key e.path)) × All (λ b. Sees bank seen (a.answers (entity_key b))) e.bases) where
    abbrev after : AskedWorld
    after = with_added additions a

    abbrev adds_one : Key → Bool
    adds_one k = adds bank a w s additions k

    abbrev written_then : Key → Bool
    written_then k = written k || adds_one k

    -- what is seen stays so
    pub plain-stays : (more : List Key) (k : Key) → IsPlain k → Sees bank more (a.answers k) → Sees bank more (after.answers k)
    plain-stays more k plain there = by (at-plain bank a w s additions k plain)
      where
        by : AtPlain bank a w s additions k → Sees bank more (after.answers k)
        by (inl h) = sees-nothing bank more (after.answers k) h.1
        by (inr h) = subst (Sees bank more) (sym h.1) there

    -- an addition at a key of a name declares it
    declares-it : (n : List ℕ) (path : List (List ℕ)) → adds_one (Declared n path) ≡ true
        → (e : Entity) × Contains additions (Declares e) × (entity_key e.path ≡ Declared n path) × (addition_at (unstopped w.answers additions) (Declared n path) ≡ Some (Declares e))
    declares-it n path so = by (addition_at (unstopped w.answers additions) (Declared n path)) refl so
      where
        Found : Type 0
        Found = (e : Entity) × Contains additions (Declares e) × (entity_key e.path ≡ Declared n path) × (addition_at (unstopped w.answers additions) (Declared n path) ≡ Some (Declares e))

        is-key : (x : Addition) → addition_at (unstopped w.answers additions) (Declared n path) ≡ Some x → Declared n path ≡ key_of x
        is-key x h = (found-is (unstopped w.answers additions) (Declared n path) x h).0

        by : (o : Option Addition) → addition_at (unstopped w.answers additions) (Declared n path) ≡ o → is_some o ≡ true → Found
        by None h so = cc
        by (Some (Declares e)) h so =
            let f = found-is (unstopped w.answers additions) (Declared n path) (Declares e) h in
            (e, Contains-IsIn (Declares e) additions (unstopped-in w.answers (Declares e) additions f.1), sym f.0, h)
        by (Some (Uses m q b)) h so = let never : Declared n path ≡ Introduced m q b = is-key (Uses m q b) h in cc
        by (Some (UsesFurther m q further)) h so = let never : Declared n path ≡ key_of (UsesFurther m q further) = is-key (UsesFurther m q further) h in cc
        by (Some (Appears q prefix)) h so = let never : Declared n path ≡ IdOf q = is-key (Appears q prefix) h in cc
        by (Some (Identifies q fixed)) h so = let never : Declared n path ≡ IdOf q = is-key (Identifies q fixed) h in cc
        by (Some (TypePrefixes q text)) h so = let never : Declared n path ≡ Typeprefix q = is-key (TypePrefixes q text) h in cc

    -- so whether a name was declared before them is known where it is known behind them
    declared-before : (n : List ℕ) (path : List (List ℕ)) (more : List Key) → AreIn seen more → Sees bank more (after.answers (Declared n path)) → Sees bank more (a.answers (Declared n path))
    declared-before n path more larger there = by (at-plain bank a w s additions (Declared n path) tt)
      where
        by : AtPlain bank a w s additions (Declared n path) → Sees bank more (a.answers (Declared n path))
        by (inl h) =
            let d = declares-it n path h.0 in
            sees-in bank seen more (a.answers (Declared n path)) larger (subst (λ k. Sees bank seen (a.answers k)) d.2 (known d.0 d.1).0)
        by (inr h) = subst (Sees bank more) h.1 there

    -- another nameless scope that may stop a use was opened in the block
    inner-sees : (n : List ℕ) (path : List (List ℕ)) (more : List Key) → IsOfBlock path → AreIn seen more → (q : List (List ℕ)) → IsStop w.answers n path q → is_other_nameless path q ≡ true
        → Sees bank more (a.declares n q)
    inner-sees n path more of larger q (Itself is) other =
        let same : path_eq q path ≡ true = ap (λ p. path_eq p path) is ∙ key_equiv.refl (Opened path) in
        let parts = and_parts (is_nameless q) (not (path_eq q path)) other in
        let never : false ≡ true = sym (ap not same) ∙ parts.1 in cc
    inner-sees n path more of larger q (Silent named silent) other =
        let parts = and_parts (is_nameless q) (not (path_eq q path)) other in
        let never : false ≡ true = sym named ∙ parts.0 in cc
    inner-sees n path more of larger q (Inside less longer there) other =
        by (scope-seen seen a.declares a.opened (scopes_in (w.answers Cursor)) c.scopes q less (IsIn-Contains q (map (λ s. s.path) (scopes_in (w.answers Cursor))) there))
      where
        by : IsIn q (map (λ s. s.path) (scopes_in (bank Cursor))) ⊎ ((n : List ℕ) → Sees bank seen (a.declares n q)) → Sees bank more (a.declares n q)
        by (inl i) = absurd (none-longer path q (scopes_in (bank Cursor)) of i longer)
        by (inr sees) = sees-in bank seen more (a.declares n q) larger (sees n)

    added-own : (k : Key) → IsPlain k → Sees bank (seen ++ k ∷ []) (after.answers k)
    added-own k plain = plain-stays (seen ++ k ∷ []) k plain (c.own k plain)

    added-done : (k : Key) → IsPlain k → written_then k ≡ true → Sees bank seen (after.answers k)
    added-done k plain h = by (at-plain bank a w s additions k plain) (or-either (written k) (adds_one k) h)
      where
        by : AtPlain bank a w s additions k → (written k ≡ true) ⊎ (adds_one k ≡ true) → Sees bank seen (after.answers k)
        by (inl p) either = sees-nothing bank seen (after.answers k) p.1
        by (inr p) (inl so) = subst (Sees bank seen) (sym p.1) (c.done k plain so)
        by (inr p) (inr so) = let never : true ≡ false = sym so ∙ p.0 in cc

    added-used : (n : List ℕ) (path : List (List ℕ)) (body : ℕ) (more : List Key) → IsOfBlock path → AreIn seen more → Sees bank more (after.answers (Declared n path))
        → Sees bank (more ++ Introduced n path body ∷ []) (after.answers (Introduced n path body))
    added-used n path body more of larger there =
        let before = declared-before n path more larger there in
        let k : Key = Introduced n path body in
        used-sees bank a w s n path body (more ++ k ∷ []) (sees-more bank more (k ∷ []) (a.answers (Declared n path)) before)
        (inner-sees n path (more ++ k ∷ []) of (in-more seen more (k ∷ []) larger)) additions stops (c.used n path body more of larger before)

    added-used_done : (n : List ℕ) (path : List (List ℕ)) (body : ℕ) (more : List Key) → IsOfBlock path → AreIn seen more → Sees bank more (after.answers (Declared n path))
        → written_then (Introduced n path body) ≡ true → Sees bank more (after.answers (Introduced n path body))
    added-used_done n path body more of larger there h = by (or-either (written k) (adds_one k) h)
      where
        k : Key
        k = Introduced n path body

        before : Sees bank more (a.answers (Declared n path))
        before = declared-before n path more larger there

        by : (written k ≡ true) ⊎ (adds_one k ≡ true) → Sees bank more (after.answers k)
        by (inl so) = used-sees bank a w s n path body more before (inner-sees n path more of larger) additions stops (c.used_done n path body more of larger before so)
        by (inr so) = added-sees bank a w s n path body more before (inner-sees n path more of larger) additions stops so

    plain-whole : (k : Key) → IsPlain k → written_then k ≡ false → Contains (asked (after.answers k) bank) k
    plain-whole k plain h = by (at-plain bank a w s additions k plain)
      where
        isnt : (written k ≡ false) × (adds_one k ≡ false)
        isnt = or-neither (written k) (adds_one k) h

        by : AtPlain bank a w s additions k → Contains (asked (after.answers k) bank) k
        by (inl p) = let never : true ≡ false = sym p.0 ∙ isnt.1 in cc
        by (inr p) = subst (λ q. Contains (asked q bank) k) (sym p.1) (c.whole k isnt.0)

    added-whole : (k : Key) → written_then k ≡ false → Contains (asked (after.answers k) bank) k
    added-whole (Introduced n path body) h =
        let isnt = or-neither (written (Introduced n path body)) (adds_one (Introduced n path body)) h in
        used-asks bank a w s n path body additions stops isnt.1 (c.whole (Introduced n path body) isnt.0)
    added-whole Cursor h = plain-whole Cursor tt h
    added-whole (Declared n path) h = plain-whole (Declared n path) tt h
    added-whole (Opened path) h = plain-whole (Opened path) tt h
    added-whole Nameless h = plain-whole Nameless tt h
    added-whole PrefixKey h = plain-whole PrefixKey tt h
    added-whole (IdOf path) h = plain-whole (IdOf path) tt h
    added-whole (Typeprefix path) h = plain-whole (Typeprefix path) tt h

    stay : (bases : List (List (List ℕ))) → All (λ b. Sees bank seen (a.answers (entity_key b))) bases → All (λ b. Sees bank seen (after.answers (entity_key b))) bases
    stay bases all = All-weaker (λ b. Sees bank seen (a.answers (entity_key b))) (λ b. Sees bank seen (after.answers (entity_key b))) (λ b there. plain-stays seen (entity_key b) tt there) bases all

    added-bases : (n : List ℕ) (path : List (List ℕ)) (e : Entity) → written_then (Declared n path) ≡ true → entity_in ((with_additions additions w).answers (Declared n path)) ≡ Some e
        → All (λ b. Sees bank seen (after.answers (entity_key b))) e.bases
    added-bases n path e h is = by (addition_at (unstopped w.answers additions) (Declared n path)) refl is (or-either (written (Declared n path)) (adds_one (Declared n path)) h)
      where
        k : Key
        k = Declared n path

        by : (o : Option Addition) → addition_at (unstopped w.answers additions) k ≡ o
            → entity_in (elim o as (λ _. Option Answer) [ None ↦ w.answers k | Some x ↦ Some (answer_of x) ]) ≡ Some e
            → (written k ≡ true) ⊎ (adds_one k ≡ true) → All (λ b. Sees bank seen (after.answers (entity_key b))) e.bases
        by None at is (inl so) = stay e.bases (c.bases n path e so is)
        by None at is (inr so) = let never : true ≡ false = sym so ∙ ap is_some at in cc
        by (Some x) at is either =
            let d = declares-it n path (ap is_some at) in
            let same : x ≡ Declares d.0 = (let both : Some x ≡ Some (Declares d.0) = sym at ∙ d.3 in cc) in
            let entity : Some d.0 ≡ Some e = sym (ap (λ y. entity_in (Some (answer_of y))) same) ∙ is in
            let one : d.0 ≡ e = cc in
            subst (λ (f : Entity). All (λ b. Sees bank seen (after.answers (entity_key b))) f.bases) one (stay d.0.bases (known d.0 d.1).1)

    -- a name that is added is declared
    declares-stays : (n : List ℕ) (path : List (List ℕ)) → Sees bank seen (a.declares n path) → Sees bank seen (after.declares n path)
    declares-stays n path sees = by (is_some (addition_at additions (Declared n path)))
      where
        by : (b : Bool) → Sees bank seen (cond b (Done true) (a.declares n path))
        by true = sees-done bank {A = Bool} seen true
        by false = sees

    pub covers-added : Covers seen after (with_additions additions w) written_then
    covers-added = record {
      own = added-own;
      done = added-done;
      used = added-used;
      used_done = added-used_done;
      whole = added-whole;
      prefix = or-left (written PrefixKey) (adds_one PrefixKey) c.prefix;
      opens = c.opens;
      enters = c.enters;
      entities =
          subst (λ o. AreWritten written_then a.opened (scopes_in o)) (sym (over_cursor (unstopped w.answers additions) (w.answers Cursor)))
          (written-more written written_then (λ k so. or-left (written k) (adds_one k) so) a.opened (scopes_in (w.answers Cursor)) c.entities);
      scopes =
          subst (λ o. AreSeenScopes seen after.declares a.opened (scopes_in o)) (sym (over_cursor (unstopped w.answers additions) (w.answers Cursor)))
          (scopes-more seen seen a.declares after.declares declares-stays a.opened (scopes_in (w.answers Cursor)) c.scopes);
      bases = added-bases;
    }
