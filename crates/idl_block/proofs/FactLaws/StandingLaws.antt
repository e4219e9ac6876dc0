-- A world that is asked, and the world that it comes to over a bank.
use Rattle.std.proofs.Common.{◌≡◌, ℕ, ◌+◌, Bool, true, false, cond, not, ◌&&◌, ◌||◌, List, [], ◌∷◌, ◌++◌, Option, Some, None, map, refl, sym, ap, ◌∙◌, subst, inl, inr}
use Rattle.std.specs.List.{list_any}
use Rattle.std.specs.Prelude.{drop, filter, is_some}
use Rattle.idl_entity.specs.Path.{path_eq, same_path}
use Rattle.idl_entity.specs.declared.entity.Entity.{Entity}
use Rattle.idl_entity.specs.declared.identity.Prefix.{Prefix}
use Rattle.idl_entity.specs.declared.kind.Kind.{Kind}
use Rattle.idl_env.proofs.AnswerLaws.AnswerLemmas.{over-cons}
use Rattle.idl_env.proofs.Membership.{IsIn, IsIn-Contains}
use Rattle.idl_env.proofs.StoppedLemmas.{declared-unstopped}
use Rattle.idl_env.specs.Facts.{World, addition_at, after_nameless, after_opening, after_step, answer_of, closed, count_in, entity_in, entity_key, gathered, given_back, inherited, innermost, is_stopped, joined, key_of, more_inside, next_body, operations_among, operations_of, over, path_around, prefix_in, scopes_in, unstopped, with_additions}
use Rattle.idl_env.specs.declared.additions.addition.Addition.{Addition}
use Rattle.idl_env.specs.declared.additions.addition.Addition.TheVariants.{Declares, Uses, UsesFurther, Appears, Identifies, TypePrefixes}
use Rattle.std.specs.Prelude.{All}
use Rattle.std.proofs.lemmas.List.Elements.{All-head, All-tail}
use Rattle.idl_env.specs.declared.additions.addition.Step.TheVariants.{Opens, OpensNameless}
use Rattle.idl_env.specs.declared.answering.answer.Answer.{Answer}
use Rattle.idl_env.specs.declared.answering.answer.Answer.TheVariants.{Count, InForce, Known, Open}
use Rattle.idl_env.specs.declared.answering.answer.Scope.{Scope}
use Rattle.idl_env.specs.declared.keys.key.Key.{Key}
use Rattle.idl_env.specs.declared.keys.key.Key.TheVariants.{Cursor, Declared, IdOf, Introduced, Opened, Nameless, Prefix as PrefixKey, Typeprefix}
use Rattle.idl_env.specs.SameKey.{same_key}
use Rattle.idl_env.specs.keys.Key.{key_eq}
use Rattle.idl_memo.proofs.QueryLaws.{outcome-and_then}
use Rattle.idl_memo.specs.Query.{Done, and_then, outcome}
use Rattle.idl_block.specs.facts.Answered.{AreNamed, AreStops, AskedWorld, Asking, Inside, IsStop, Itself, Silent, answered_by, answered_nameless, answered_opening, coming_back, completed, declares_nameless, gathering, inheriting, is_nameless, is_other_nameless, mapped, nameless_path, one_declares, prefix_of, stepped, stopped, with_added}

-- an addition is found at its key, among the additions
pub found-is : (additions : List Addition) (k : Key) (x : Addition) → addition_at additions k ≡ Some x → (k ≡ key_of x) × IsIn x additions
found-is [] k x h = cc
found-is (y ∷ additions) k x h = by (found-is additions k x) (key_eq k (key_of y)) refl h
  where
    by : (addition_at additions k ≡ Some x → (k ≡ key_of x) × IsIn x additions) → (b : Bool) → key_eq k (key_of y) ≡ b → cond b (Some y) (addition_at additions k) ≡ Some x → (k ≡ key_of x) × IsIn x (y ∷ additions)
    by rest true is h = let same : y ≡ x = cc in (same_key k (key_of y) is ∙ ap key_of same, inl same)
    by rest false is h = let r = rest h in (r.0, inr r.1)

-- ---- scopes that may stop a use

pub or-right : (b c : Bool) → c ≡ true → (b || c) ≡ true
or-right true c h = refl
or-right false c h = h

module _ (answers : Key → Option Answer) (n : List ℕ) (path : List (List ℕ)) where
  -- one of these declares the name
  abbrev pub any_declares : List (List (List ℕ)) → Bool
  any_declares paths = list_any (λ k. is_some (entity_in (answers k))) (map (λ p. Declared n p) paths)

  -- where the scope itself does
  in-declares : (unless : List (List (List ℕ))) → IsIn path unless → is_some (entity_in (answers (Declared n path))) ≡ true → any_declares unless ≡ true
  in-declares [] i h = absurd i
  in-declares (q ∷ unless) (inl is) h = ap (λ b. b || any_declares unless) (ap (λ p. is_some (entity_in (answers (Declared n p)))) is ∙ h)
  in-declares (q ∷ unless) (inr i) h = or-right (is_some (entity_in (answers (Declared n q)))) (any_declares unless) (in-declares unless i h)

  -- and where it doesn't: a nameless one
  others-declare : (unless : List (List (List ℕ))) → All (IsStop answers n path) unless → is_some (entity_in (answers (Declared n path))) ≡ false
      → any_declares unless ≡ any_declares (filter (is_other_nameless path) unless)
  others-declare [] all none = refl
  others-declare (q ∷ unless) all none =
      by (others-declare unless (All-tail (IsStop answers n path) q unless all) none) (is_other_nameless path q) refl
    where
      others : List (List (List ℕ))
      others = filter (is_other_nameless path) unless

      here : Bool
      here = is_some (entity_in (answers (Declared n q)))

      nothing : IsStop answers n path q → is_other_nameless path q ≡ false → here ≡ false
      nothing (Itself is) other = ap (λ p. is_some (entity_in (answers (Declared n p)))) is ∙ none
      nothing (Inside less longer there) other = same (is_nameless q) (path_eq q path) less refl other
        where
          same : (b t : Bool) → b ≡ true → path_eq q path ≡ t → (b && not t) ≡ false → here ≡ false
          same true true h is other = ap (λ p. is_some (entity_in (answers (Declared n p)))) (same_path q path is) ∙ none
          same true false h is other = cc
          same false t h is other = cc
      nothing (Silent named silent) other = ap is_some silent

      by : any_declares unless ≡ any_declares others → (b : Bool) → is_other_nameless path q ≡ b → (here || any_declares unless) ≡ any_declares (cond b (q ∷ others) others)
      by rest true other = ap (λ t. here || t) rest
      by rest false other = ap (λ t. t || any_declares unless) (nothing (All-head (IsStop answers n path) q unless all) other) ∙ rest

-- ---- queries

module _ (bank : Key → Option Answer) where
  -- a query goes on with what it comes to
  pub then_is : {A B : Type 0} (query : Asking A) (f : A → Asking B) (a : A) → outcome query bank ≡ a → outcome (and_then query f) bank ≡ outcome (f a) bank
  then_is query f a is = outcome-and_then query f bank ∙ ap (λ v. outcome (f v) bank) is

  pub mapped_is : {A B : Type 0} (f : A → B) (query : Asking A) (a : A) → outcome query bank ≡ a → outcome (mapped f query) bank ≡ f a
  mapped_is f query a is = then_is query (λ v. Done (f v)) a is

  -- what queries come to
  abbrev pub outcomes : {A : Type 0} → List (Asking A) → List A
  outcomes queries = map (λ q. outcome q bank) queries

  pub outcomes-drop : {A : Type 0} (queries : List (Asking A)) → outcomes (drop 1 queries) ≡ drop 1 (outcomes queries)
  outcomes-drop [] = refl
  outcomes-drop (q ∷ queries) = refl

  pub coming-back : (queries : List (Asking Prefix)) → outcome (coming_back queries) bank ≡ Some (InForce (given_back (outcomes queries)))
  coming-back [] = refl
  coming-back (q ∷ queries) = mapped_is (λ p. Some (InForce p)) q (outcome q bank) refl

  -- over the bank the asked world comes to this one
  pub record Stands (a : AskedWorld) (w : World) : Type 0 where
    pub answers : (k : Key) → outcome (a.answers k) bank ≡ w.answers k
    pub declares : (n : List ℕ) (path : List (List ℕ)) → outcome (a.declares n path) bank ≡ is_some (entity_in (w.answers (Declared n path)))
    pub inside : a.inside ≡ w.inside
    pub opened : outcomes a.opened ≡ w.before.opened
    pub entered : outcomes a.entered ≡ w.before.entered

  -- ---- additions

  module _ (a : AskedWorld) (w : World) (s : Stands a w) where
    -- one of these scopes declares a name
    one-declares : (n : List ℕ) (path : List (List ℕ)) (paths : List (List (List ℕ))) → outcome (one_declares a n paths) bank ≡ any_declares w.answers n path paths
    one-declares n path [] = refl
    one-declares n path (q ∷ paths) =
        then_is (a.declares n q) (λ there. cond there (Done true) (one_declares a n paths)) (is_some (entity_in (w.answers (Declared n q)))) (s.declares n q)
        ∙ by (one-declares n path paths) (is_some (entity_in (w.answers (Declared n q))))
      where
        by : outcome (one_declares a n paths) bank ≡ any_declares w.answers n path paths
            → (b : Bool) → outcome (cond b (Done true) (one_declares a n paths)) bank ≡ (b || any_declares w.answers n path paths)
        by rest true = refl
        by rest false = rest

    -- a use is stopped
    pub stopped-is : (x : Addition) → AreStops w.answers x → outcome (stopped a x) bank ≡ is_stopped w.answers x
    stopped-is (UsesFurther n path further) stops =
        let others : List (List (List ℕ)) = filter (is_other_nameless path) further.unless in
        then_is (a.answers (Declared n path)) (λ answer. cond (is_some (entity_in answer)) (Done true) (one_declares a n others)) (w.answers (Declared n path)) (s.answers (Declared n path))
        ∙ by (is_some (entity_in (w.answers (Declared n path)))) refl
      where
        by : (b : Bool) → is_some (entity_in (w.answers (Declared n path))) ≡ b
            → outcome (cond b (Done true) (one_declares a n (filter (is_other_nameless path) further.unless))) bank ≡ any_declares w.answers n path further.unless
        by true is = sym (in-declares w.answers n path further.unless (IsIn-Contains path further.unless stops.0) is)
        by false is = one-declares n path (filter (is_other_nameless path) further.unless) ∙ sym (others-declare w.answers n path further.unless stops.1 is)
    stopped-is other stops = refl

    stopped_by : (x : Addition) (rest : List Addition) (k : Key) (before later : Option Answer) (query : Asking (Option Answer)) → outcome query bank ≡ later → over rest k before ≡ later
        → (b t : Bool) → key_eq k (key_of x) ≡ b → outcome (stopped a x) bank ≡ t
        → outcome (cond b (and_then (stopped a x) (λ stopped. cond stopped query (Done (Some (answer_of x))))) query) bank
        ≡ over (cond (not t) (x ∷ rest) rest) k before
    stopped_by x rest k before later query here there true true at told =
        then_is (stopped a x) (λ stopped. cond stopped query (Done (Some (answer_of x)))) true told ∙ here ∙ sym there
    stopped_by x rest k before later query here there true false at told =
        then_is (stopped a x) (λ stopped. cond stopped query (Done (Some (answer_of x)))) false told
        ∙ sym (over-cons x rest k before ∙ ap (λ t. cond t (Some (answer_of x)) (over rest k before)) at)
    stopped_by x rest k before later query here there false true at told = here ∙ sym there
    stopped_by x rest k before later query here there false false at told =
        here ∙ sym there ∙ sym (over-cons x rest k before ∙ ap (λ t. cond t (Some (answer_of x)) (over rest k before)) at)

    answered-by : (additions : List Addition) → All (AreStops w.answers) additions → (k : Key) → outcome (answered_by a additions k) bank ≡ over (unstopped w.answers additions) k (w.answers k)
    answered-by [] there k = s.answers k
    answered-by (x ∷ additions) there k =
        let later : Option Answer = over (unstopped w.answers additions) k (w.answers k) in
        stopped_by x (unstopped w.answers additions) k (w.answers k) later (answered_by a additions k)
        (answered-by additions (All-tail (AreStops w.answers) x additions there) k) refl
        (key_eq k (key_of x)) (is_stopped w.answers x) refl (stopped-is x (All-head (AreStops w.answers) x additions there))

    added-declares : (additions : List Addition) (n : List ℕ) (path : List (List ℕ))
        → outcome (cond (is_some (addition_at additions (Declared n path))) (Done true) (a.declares n path)) bank
        ≡ is_some (entity_in (over (unstopped w.answers additions) (Declared n path) (w.answers (Declared n path))))
    added-declares additions n path =
        by (addition_at additions (Declared n path)) refl
        ∙ sym (ap (λ o. is_some (entity_in o)) (declared-unstopped w.answers n path additions (w.answers (Declared n path))))
      where
        k : Key
        k = Declared n path

        by : (o : Option Addition) → addition_at additions k ≡ o
            → outcome (cond (is_some o) (Done true) (a.declares n path)) bank ≡ is_some (entity_in (elim o as (λ _. Option Answer) [ None ↦ w.answers k | Some x ↦ Some (answer_of x) ]))
        by None is = s.declares n path
        by (Some (Declares e)) is = refl
        by (Some (Uses m q b)) is = let never : Declared n path ≡ Introduced m q b = (found-is additions k (Uses m q b) is).0 in cc
        by (Some (UsesFurther m q further)) is = let never : Declared n path ≡ Introduced m q further.body = (found-is additions k (UsesFurther m q further) is).0 in cc
        by (Some (Appears q prefix)) is = let never : Declared n path ≡ IdOf q = (found-is additions k (Appears q prefix) is).0 in cc
        by (Some (Identifies q fixed)) is = let never : Declared n path ≡ IdOf q = (found-is additions k (Identifies q fixed) is).0 in cc
        by (Some (TypePrefixes q text)) is = let never : Declared n path ≡ Typeprefix q = (found-is additions k (TypePrefixes q text) is).0 in cc

    pub added-stands : (additions : List Addition) → All (AreStops w.answers) additions → Stands (with_added additions a) (with_additions additions w)
    added-stands additions there = record {
      answers = answered-by additions there;
      declares = added-declares additions;
      inside = ap (λ i. more_inside i (operations_among additions)) s.inside;
      opened = s.opened;
      entered = s.entered;
    }

    -- ---- scopes that open

    pub prefix-stands : outcome (prefix_of a) bank ≡ prefix_in (w.answers PrefixKey)
    prefix-stands = mapped_is prefix_in (a.answers PrefixKey) (w.answers PrefixKey) (s.answers PrefixKey)

    opened-stands : outcomes (prefix_of a ∷ a.opened) ≡ prefix_in (w.answers PrefixKey) ∷ w.before.opened
    opened-stands = λ i. prefix-stands i ∷ s.opened i

    module _ (path : List (List ℕ)) (kind : Kind) where
      abbrev here : Scope
      here = record { path = path; kind = kind; body = next_body w path }

      body_by : (other : List (List ℕ)) (b : Bool)
          → outcome (cond b (mapped (λ count. Some (Count (count_in count + 1))) (a.answers (Opened path))) (a.answers (Opened other))) bank
          ≡ cond b (Some (Count (next_body w path))) (w.answers (Opened other))
      body_by other true = mapped_is (λ count. Some (Count (count_in count + 1))) (a.answers (Opened path)) (w.answers (Opened path)) (s.answers (Opened path))
      body_by other false = s.answers (Opened other)

      opening-answers : (k : Key) → outcome (answered_opening a path kind k) bank ≡ (after_opening w here).answers k
      opening-answers Cursor =
          let scopes : Option Answer → Option Answer → Option Answer = λ count cursor. Some (Open (record { path = path; kind = kind; body = count_in count + 1 } ∷ scopes_in cursor)) in
          then_is (a.answers (Opened path)) (λ count. mapped (scopes count) (a.answers Cursor)) (w.answers (Opened path)) (s.answers (Opened path))
          ∙ mapped_is (scopes (w.answers (Opened path))) (a.answers Cursor) (w.answers Cursor) (s.answers Cursor)
      opening-answers (Opened other) = body_by other (path_eq other path)
      opening-answers key = s.answers key

      pub opening-stands : Stands (stepped a (Opens path kind)) (after_step w (Opens path kind))
      opening-stands = record {
        answers = opening-answers;
        declares = λ n path. s.declares n path;
        inside = ap (λ i. [] ∷ i) s.inside;
        opened = opened-stands;
        entered = s.entered;
      }

    module _ (kind : Kind) (named : AreNamed w.answers) where
      abbrev count : Option Answer
      count = w.answers Nameless

      abbrev new_path : List (List ℕ)
      new_path = nameless_path (w.answers Nameless) (w.answers Cursor)

      first-body : next_body w new_path ≡ 1
      first-body = ap (λ n. n + 1) (named.opened (path_around (scopes_in (w.answers Cursor))))

      abbrev scope_of_body : ℕ → Scope
      scope_of_body body = record { path = new_path; kind = kind; body = body }

      new_by : (path : List (List ℕ)) (b : Bool)
          → outcome (cond b (Done (Some (Count 1))) (a.answers (Opened path))) bank ≡ cond b (Some (Count 1)) (w.answers (Opened path))
      new_by path true = refl
      new_by path false = s.answers (Opened path)

      other_by : (path : List (List ℕ)) (b : Bool) → path_eq path new_path ≡ b → is_nameless path ≡ false → w.answers (Opened path) ≡ cond b (Some (Count 1)) (w.answers (Opened path))
      other_by path true is other = let never : true ≡ false = sym (ap is_nameless (same_path path new_path is)) ∙ other in cc
      other_by path false is other = refl

      nameless_by : (path : List (List ℕ)) (b : Bool) → is_nameless path ≡ b
          → outcome (cond b (and_then (a.answers Nameless) (λ count. and_then (a.answers Cursor) (λ cursor. cond (path_eq path (nameless_path count cursor)) (Done (Some (Count 1))) (a.answers (Opened path))))) (a.answers (Opened path))) bank
          ≡ cond (path_eq path new_path) (Some (Count 1)) (w.answers (Opened path))
      nameless_by path true is =
          let last : Option Answer → Option Answer → Asking (Option Answer) = λ count cursor. cond (path_eq path (nameless_path count cursor)) (Done (Some (Count 1))) (a.answers (Opened path)) in
          then_is (a.answers Nameless) (λ count. and_then (a.answers Cursor) (last count)) (w.answers Nameless) (s.answers Nameless)
          ∙ then_is (a.answers Cursor) (last (w.answers Nameless)) (w.answers Cursor) (s.answers Cursor)
          ∙ new_by path (path_eq path new_path)
      nameless_by path false is = s.answers (Opened path) ∙ other_by path (path_eq path new_path) refl is

      nameless-answers : (k : Key) → outcome (answered_nameless a kind k) bank ≡ (after_opening (after_nameless w) (scope_of_body 1)).answers k
      nameless-answers Cursor =
          let scopes : Option Answer → Option Answer → Option Answer = λ count cursor. Some (Open (record { path = nameless_path count cursor; kind = kind; body = 1 } ∷ scopes_in cursor)) in
          then_is (a.answers Nameless) (λ count. mapped (scopes count) (a.answers Cursor)) (w.answers Nameless) (s.answers Nameless)
          ∙ mapped_is (scopes (w.answers Nameless)) (a.answers Cursor) (w.answers Cursor) (s.answers Cursor)
      nameless-answers Nameless = mapped_is (λ count. Some (Count (count_in count + 1))) (a.answers Nameless) (w.answers Nameless) (s.answers Nameless)
      nameless-answers (Opened path) = nameless_by path (is_nameless path) refl
      nameless-answers key = s.answers key

      declares_by : (n : List ℕ) (path : List (List ℕ)) (b : Bool) → path_eq path new_path ≡ b
          → outcome (cond b (Done false) (a.declares n path)) bank ≡ is_some (entity_in (w.answers (Declared n path)))
      declares_by n path true is =
          sym (ap is_some (ap (λ p. entity_in (w.answers (Declared n p))) (same_path path new_path is) ∙ named.blank n (path_around (scopes_in (w.answers Cursor)))))
      declares_by n path false is = s.declares n path

      nameless-declares : (n : List ℕ) (path : List (List ℕ)) → outcome (declares_nameless a n path) bank ≡ is_some (entity_in (w.answers (Declared n path)))
      nameless-declares n path = by (is_nameless path)
        where
          last : Option Answer → Option Answer → Asking Bool
          last count cursor = cond (path_eq path (nameless_path count cursor)) (Done false) (a.declares n path)

          by : (b : Bool)
              → outcome (cond b (and_then (a.answers Nameless) (λ count. and_then (a.answers Cursor) (λ cursor. cond (path_eq path (nameless_path count cursor)) (Done false) (a.declares n path)))) (a.declares n path)) bank
              ≡ is_some (entity_in (w.answers (Declared n path)))
          by true =
              then_is (a.answers Nameless) (λ count. and_then (a.answers Cursor) (last count)) (w.answers Nameless) (s.answers Nameless)
              ∙ then_is (a.answers Cursor) (last (w.answers Nameless)) (w.answers Cursor) (s.answers Cursor)
              ∙ declares_by n path (path_eq path new_path) refl
          by false = s.declares n path

      pub nameless-stands : Stands (stepped a (OpensNameless kind)) (after_step w (OpensNameless kind))
      nameless-stands =
          subst (λ body. Stands (stepped a (OpensNameless kind)) (after_opening (after_nameless w) (scope_of_body body))) (sym first-body) (record {
            answers = nameless-answers;
            declares = nameless-declares;
            inside = ap (λ i. [] ∷ i) s.inside;
            opened = opened-stands;
            entered = s.entered;
          })

    -- ---- a scope that closes

    gathering-is : (found bases : List (List (List ℕ))) → outcome (gathering a found bases) bank ≡ gathered w.answers found bases
    gathering-is found [] = refl
    gathering-is found (b ∷ bases) =
        then_is (a.answers (entity_key b)) (λ answer. gathering a (joined found (operations_of (entity_in answer))) bases) (w.answers (entity_key b)) (s.answers (entity_key b))
        ∙ gathering-is (joined found (operations_of (entity_in (w.answers (entity_key b))))) bases

    inheriting-is : (bases : List (List (List ℕ))) → outcome (inheriting a bases) bank ≡ inherited w.answers bases
    inheriting-is [] = refl
    inheriting-is (b ∷ bases) =
        then_is (a.answers (entity_key b)) (λ answer. gathering a (operations_of (entity_in answer)) bases) (w.answers (entity_key b)) (s.answers (entity_key b))
        ∙ gathering-is (operations_of (entity_in (w.answers (entity_key b)))) bases

    pub completed-some : (e : Entity) (answer : Option Answer) → entity_in answer ≡ Some e → outcome (completed a answer) bank ≡ Some (Known (closed w e))
    completed-some e answer is = by (entity_in answer) is
      where
        by : (o : Option Entity) → o ≡ Some e
            → outcome (elim o as (λ _. Asking (Option Answer)) [ None ↦ Done answer | Some f ↦ mapped (λ found. Some (Known (record f { stage = (closed w f).stage; operations = found ++ innermost a.inside }))) (inheriting a f.bases) ]) bank
            ≡ Some (Known (closed w e))
        by None h = cc
        by (Some f) h =
            let same : f ≡ e = cc in
            mapped_is (λ found. Some (Known (record f { stage = (closed w f).stage; operations = found ++ innermost a.inside }))) (inheriting a f.bases) (inherited w.answers f.bases) (inheriting-is f.bases)
            ∙ (λ i. Some (Known (record (same i) { stage = (closed w (same i)).stage; operations = inherited w.answers (same i).bases ++ innermost (s.inside i) })))

    pub completed-none : (answer : Option Answer) → entity_in answer ≡ None → outcome (completed a answer) bank ≡ answer
    completed-none answer is = by (entity_in answer) is
      where
        by : (o : Option Entity) → o ≡ None
            → outcome (elim o as (λ _. Asking (Option Answer)) [ None ↦ Done answer | Some f ↦ mapped (λ found. Some (Known (record f { stage = (closed w f).stage; operations = found ++ innermost a.inside }))) (inheriting a f.bases) ]) bank
            ≡ answer
        by None h = refl
        by (Some f) h = cc
