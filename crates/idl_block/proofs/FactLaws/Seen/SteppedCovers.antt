-- What is kept by a step behind the facts of a block.
use Rattle.std.proofs.Common.{◌≡◌, ℕ, Bool, true, false, cond, ◌||◌, List, [], ◌∷◌, ◌++◌, ◌+◌, Option, Some, refl, sym, ap, ◌∙◌, subst}
use Rattle.std.specs.Prelude.{All, Contains, drop}
use Rattle.std.proofs.lemmas.List.Elements.{All-cons}
use Rattle.idl_entity.specs.Identity.{no_prefix}
use Rattle.idl_entity.specs.Path.{path_eq, same_path}
use Rattle.idl_entity.specs.declared.entity.Entity.{Entity}
use Rattle.idl_entity.specs.declared.identity.Prefix.{Prefix}
use Rattle.idl_entity.specs.declared.kind.Kind.{Kind}
use Rattle.idl_entity.specs.declared.kind.Kind.TheVariants.{Interface}
use Rattle.idl_env.specs.Facts.{World, after_step, count_in, entity_in, entity_key, path_around, scopes_in}
use Rattle.idl_env.specs.Written.{opens_at, opens_nameless_at}
use Rattle.idl_env.specs.declared.additions.addition.Step.TheVariants.{Opens, OpensNameless, Prefixes, Enters, Leaves}
use Rattle.idl_env.specs.declared.answering.answer.Answer.{Answer}
use Rattle.idl_env.specs.declared.answering.answer.Answer.TheVariants.{Count, InForce}
use Rattle.idl_env.specs.declared.keys.key.Key.{Key}
use Rattle.idl_env.specs.declared.keys.key.Key.TheVariants.{Cursor, Declared, Introduced, Opened, Nameless, Prefix as PrefixKey, IdOf, Typeprefix}
use Rattle.idl_env.specs.keys.Digested.{key_equiv}
use Rattle.idl_env.specs.keys.Key.{key_eq}
use Rattle.idl_memo.specs.Query.{Done, and_then, asked}
use Rattle.idl_block.specs.facts.Answered.{AskedWorld, Asking, coming_back, is_nameless, mapped, nameless_path, prefix_of, stepped, with_prefix}
use Rattle.idl_block.specs.facts.Beneath.{AreTwo}
use Rattle.idl_block.proofs.FactLaws.Seen.AddedSees.{IsPlain}
use Rattle.idl_block.proofs.FactLaws.Seen.Covers.{AreSeenScopes, AreWritten, Covers, IsOfBlock, SeesInner, or-left, or-neither, scopes-more, written-more}
use Rattle.idl_block.proofs.FactLaws.Seen.Sees.{AreIn, Sees, asks-second, in-itself, in-more, sees-done, sees-in, sees-mapped, sees-more, sees-then}
use Rattle.idl_block.proofs.FactLaws.StandingLaws.{Stands, outcomes, or-right}

or_false : (b : Bool) → (b || false) ≡ b
or_false true = refl
or_false false = refl

module _ (bank : Key → Option Answer) (seen : List Key) (a : AskedWorld) (w : World) (written : Key → Bool) (c : Covers bank seen a w written) where
  -- what is written otherwise where nothing is
  same-done : (k : Key) → IsPlain k → (written k || false) ≡ true → Sees bank seen (a.answers k)
  same-done k plain h = c.done k plain (sym (or_false (written k)) ∙ h)

  same-used_done : (n : List ℕ) (path : List (List ℕ)) (body : ℕ) (more : List Key) → IsOfBlock bank path → AreIn seen more → Sees bank more (a.answers (Declared n path))
      → (written (Introduced n path body) || false) ≡ true → Sees bank more (a.answers (Introduced n path body))
  same-used_done n path body more of larger there h = c.used_done n path body more of larger there (sym (or_false (written (Introduced n path body))) ∙ h)

  same-whole : (k : Key) → (written k || false) ≡ false → Contains (asked (a.answers k) bank) k
  same-whole k h = c.whole k (or-neither (written k) false h).0

  pub same-bases : (n : List ℕ) (path : List (List ℕ)) (e : Entity) → (written (Declared n path) || false) ≡ true → entity_in (w.answers (Declared n path)) ≡ Some e
      → All (λ b. Sees bank seen (a.answers (entity_key b))) e.bases
  same-bases n path e h is = c.bases n path e (sym (or_false (written (Declared n path))) ∙ h) is

  pub stays-covers : Covers bank seen a w (λ k. written k || false)
  stays-covers = subst (λ f. Covers bank seen a w f) (λ i k. sym (or_false (written k)) i) c

  -- the prefix in force is told by what was seen
  sees-prefix : Sees bank seen (prefix_of a)
  sees-prefix = sees-mapped bank seen _ (a.answers PrefixKey) (c.done PrefixKey tt c.prefix)

  -- ---- the prefix in force

  module _ (prefix : Asking (Option Answer)) (there : Sees bank seen prefix) (entered : List (Asking Prefix)) (inner : SeesInner bank seen entered) (v : World)
      (cursor : v.answers Cursor ≡ w.answers Cursor) (names : (n : List ℕ) (path : List (List ℕ)) → v.answers (Declared n path) ≡ w.answers (Declared n path)) where
    abbrev with_it : AskedWorld
    with_it = record a { answers = with_prefix prefix a; entered = entered }

    prefix-own : (k : Key) → IsPlain k → Sees bank (seen ++ k ∷ []) (with_it.answers k)
    prefix-own PrefixKey plain = sees-more bank seen (PrefixKey ∷ []) prefix there
    prefix-own Cursor plain = c.own Cursor tt
    prefix-own (Declared n path) plain = c.own (Declared n path) tt
    prefix-own (Introduced n path body) plain = absurd plain
    prefix-own (Opened path) plain = c.own (Opened path) tt
    prefix-own Nameless plain = c.own Nameless tt
    prefix-own (IdOf path) plain = c.own (IdOf path) tt
    prefix-own (Typeprefix path) plain = c.own (Typeprefix path) tt

    prefix-done : (k : Key) → IsPlain k → (written k || key_eq k PrefixKey) ≡ true → Sees bank seen (with_it.answers k)
    prefix-done PrefixKey plain h = there
    prefix-done Cursor plain h = same-done Cursor tt h
    prefix-done (Declared n path) plain h = same-done (Declared n path) tt h
    prefix-done (Introduced n path body) plain h = absurd plain
    prefix-done (Opened path) plain h = same-done (Opened path) tt h
    prefix-done Nameless plain h = same-done Nameless tt h
    prefix-done (IdOf path) plain h = same-done (IdOf path) tt h
    prefix-done (Typeprefix path) plain h = same-done (Typeprefix path) tt h

    prefix-whole : (k : Key) → (written k || key_eq k PrefixKey) ≡ false → Contains (asked (with_it.answers k) bank) k
    prefix-whole PrefixKey h = let never : true ≡ false = sym (or-right (written PrefixKey) true refl) ∙ h in cc
    prefix-whole Cursor h = same-whole Cursor h
    prefix-whole (Declared n path) h = same-whole (Declared n path) h
    prefix-whole (Introduced n path body) h = same-whole (Introduced n path body) h
    prefix-whole (Opened path) h = same-whole (Opened path) h
    prefix-whole Nameless h = same-whole Nameless h
    prefix-whole (IdOf path) h = same-whole (IdOf path) h
    prefix-whole (Typeprefix path) h = same-whole (Typeprefix path) h

    prefix-covers : Covers bank seen with_it v (λ k. written k || key_eq k PrefixKey)
    prefix-covers = record {
      own = prefix-own;
      done = prefix-done;
      used = c.used;
      used_done = same-used_done;
      whole = prefix-whole;
      prefix = or-right (written PrefixKey) true refl;
      opens = c.opens;
      enters = inner;
      entities =
          subst (λ o. AreWritten bank (λ k. written k || key_eq k PrefixKey) a.opened (scopes_in o)) (sym cursor)
          (written-more bank written (λ k. written k || key_eq k PrefixKey) (λ k so. or-left (written k) (key_eq k PrefixKey) so) a.opened (scopes_in (w.answers Cursor)) c.entities);
      scopes = subst (λ o. AreSeenScopes bank seen a.declares a.opened (scopes_in o)) (sym cursor) c.scopes;
      bases = λ n path e h is. same-bases n path e h (ap entity_in (sym (names n path)) ∙ is);
    }

  pub prefixes-covers : (text : List ℕ) → Sees bank seen (a.answers Cursor) → Covers bank seen (stepped a (Prefixes text)) (after_step w (Prefixes text)) (λ k. written k || key_eq k PrefixKey)
  prefixes-covers text cursor =
      prefix-covers (mapped (λ cursor. Some (InForce (record { text = text; scope = path_around (scopes_in cursor) }))) (a.answers Cursor))
      (sees-mapped bank seen _ (a.answers Cursor) cursor) a.entered c.enters (after_step w (Prefixes text)) refl (λ n path. refl)

  one-more : (queries : List (Asking Prefix)) → SeesInner bank seen queries → SeesInner bank seen (prefix_of a ∷ queries)
  one-more [] inner = tt
  one-more (q ∷ queries) inner = (sees-prefix, inner)

  pub enters-covers : Covers bank seen (stepped a Enters) (after_step w Enters) (λ k. written k || key_eq k PrefixKey)
  enters-covers =
      prefix-covers (Done (Some (InForce no_prefix))) (sees-done bank {A = Option Answer} seen (Some (InForce no_prefix))) (prefix_of a ∷ a.entered) (one-more a.entered c.enters) (after_step w Enters) refl (λ n path. refl)

  -- what comes back where a file is left in which the block's own was not entered
  coming-covers : (queries : List (Asking Prefix)) → AreTwo (outcomes bank queries) → SeesInner bank seen queries
      → Sees bank seen (coming_back queries) × SeesInner bank seen (drop 1 queries)
  coming-covers [] two inner = absurd two
  coming-covers (q ∷ []) two inner = absurd two
  coming-covers (q ∷ r ∷ queries) two inner = (sees-mapped bank seen (λ p. Some (InForce p)) q inner.0, inner.1)

  pub leaves-covers : AreTwo (outcomes bank a.entered) → Covers bank seen (stepped a Leaves) (after_step w Leaves) (λ k. written k || key_eq k PrefixKey)
  leaves-covers two =
      let both = coming-covers a.entered two c.enters in
      prefix-covers (coming_back a.entered) both.0 (drop 1 a.entered) both.1 (after_step w Leaves) refl (λ n path. refl)

  -- ---- scopes that open

  module _ (cursor : Sees bank seen (a.answers Cursor)) where
    abbrev opens_more : All (Sees bank seen) (prefix_of a ∷ a.opened)
    opens_more = All-cons (Sees bank seen) (prefix_of a) a.opened sees-prefix c.opens

    module _ (path : List (List ℕ)) (kind : Kind) (there : Sees bank seen (a.answers (Opened path))) (declared : kind ≡ Interface → written (entity_key path) ≡ true)
        (named : is_nameless path ≡ false) where
      abbrev opened_one : AskedWorld
      opened_one = stepped a (Opens path kind)

      abbrev written_open : Key → Bool
      written_open k = written k || opens_at path k

      opening-cursor : Sees bank seen (opened_one.answers Cursor)
      opening-cursor = sees-then bank seen (a.answers (Opened path)) _ _ refl there (sees-mapped bank seen _ (a.answers Cursor) cursor)

      body-sees : (more : List Key) (other : List (List ℕ)) (b : Bool) → Sees bank more (a.answers (Opened path)) → (b ≡ false → Sees bank more (a.answers (Opened other)))
          → Sees bank more (cond b (mapped (λ count. Some (Count (count_in count + 1))) (a.answers (Opened path))) (a.answers (Opened other)))
      body-sees more other true here rest = sees-mapped bank more _ (a.answers (Opened path)) here
      body-sees more other false here rest = rest refl

      opening-own : (k : Key) → IsPlain k → Sees bank (seen ++ k ∷ []) (opened_one.answers k)
      opening-own Cursor plain = sees-more bank seen (Cursor ∷ []) (opened_one.answers Cursor) opening-cursor
      opening-own (Opened other) plain =
          body-sees (seen ++ Opened other ∷ []) other (path_eq other path) (sees-more bank seen (Opened other ∷ []) (a.answers (Opened path)) there) (λ isnt. c.own (Opened other) tt)
      opening-own (Declared n q) plain = c.own (Declared n q) tt
      opening-own (Introduced n q body) plain = absurd plain
      opening-own Nameless plain = c.own Nameless tt
      opening-own PrefixKey plain = c.own PrefixKey tt
      opening-own (IdOf q) plain = c.own (IdOf q) tt
      opening-own (Typeprefix q) plain = c.own (Typeprefix q) tt

      opening-done : (k : Key) → IsPlain k → written_open k ≡ true → Sees bank seen (opened_one.answers k)
      opening-done Cursor plain h = opening-cursor
      opening-done (Opened other) plain h =
          body-sees seen other (path_eq other path) there (λ isnt. c.done (Opened other) tt (sym (or_false (written (Opened other))) ∙ ap (λ b. written (Opened other) || b) (sym isnt) ∙ h))
      opening-done (Declared n q) plain h = same-done (Declared n q) tt h
      opening-done (Introduced n q body) plain h = absurd plain
      opening-done Nameless plain h = same-done Nameless tt h
      opening-done PrefixKey plain h = same-done PrefixKey tt h
      opening-done (IdOf q) plain h = same-done (IdOf q) tt h
      opening-done (Typeprefix q) plain h = same-done (Typeprefix q) tt h

      body-whole : (other : List (List ℕ)) (b : Bool) → b ≡ false → written (Opened other) ≡ false
          → Contains (asked (cond b (mapped (λ count. Some (Count (count_in count + 1))) (a.answers (Opened path))) (a.answers (Opened other))) bank) (Opened other)
      body-whole other true is h = cc
      body-whole other false is h = c.whole (Opened other) h

      opening-whole : (k : Key) → written_open k ≡ false → Contains (asked (opened_one.answers k) bank) k
      opening-whole Cursor h = let never : true ≡ false = sym (or-right (written Cursor) true refl) ∙ h in cc
      opening-whole (Opened other) h =
          let isnt = or-neither (written (Opened other)) (path_eq other path) h in
          body-whole other (path_eq other path) isnt.1 isnt.0
      opening-whole (Declared n q) h = same-whole (Declared n q) h
      opening-whole (Introduced n q body) h = same-whole (Introduced n q body) h
      opening-whole Nameless h = same-whole Nameless h
      opening-whole PrefixKey h = same-whole PrefixKey h
      opening-whole (IdOf q) h = same-whole (IdOf q) h
      opening-whole (Typeprefix q) h = same-whole (Typeprefix q) h

      pub opens-covers : Covers bank seen opened_one (after_step w (Opens path kind)) written_open
      opens-covers = record {
        own = opening-own;
        done = opening-done;
        used = c.used;
        used_done = same-used_done;
        whole = opening-whole;
        prefix = or-left (written PrefixKey) false c.prefix;
        opens = opens_more;
        enters = c.enters;
        entities = (
          λ is named. or-left (written (entity_key path)) (opens_at path (entity_key path)) (declared is),
          written-more bank written written_open (λ k so. or-left (written k) (opens_at path k) so) a.opened (scopes_in (w.answers Cursor)) c.entities,
        );
        scopes = (λ less. (let never : true ≡ false = sym less ∙ named in cc), c.scopes);
        bases = same-bases;
      }

    module _ (kind : Kind) (s : Stands bank a w) (there : Sees bank seen (a.answers Nameless)) where
      abbrev hidden : AskedWorld
      hidden = stepped a (OpensNameless kind)

      abbrev new_path : List (List ℕ)
      new_path = nameless_path (w.answers Nameless) (w.answers Cursor)

      abbrev written_hidden : Key → Bool
      written_hidden k = written k || opens_nameless_at w k

      hidden-cursor : Sees bank seen (hidden.answers Cursor)
      hidden-cursor = sees-then bank seen (a.answers Nameless) _ _ refl there (sees-mapped bank seen _ (a.answers Cursor) cursor)

      hidden-nameless : Sees bank seen (hidden.answers Nameless)
      hidden-nameless = sees-mapped bank seen _ (a.answers Nameless) there

      abbrev last : List (List ℕ) → Option Answer → Option Answer → Asking (Option Answer)
      last path count cursor = cond (path_eq path (nameless_path count cursor)) (Done (Some (Count 1))) (a.answers (Opened path))

      path-sees : (more : List Key) (path : List (List ℕ)) (b t : Bool) → AreIn seen more → is_nameless path ≡ b → path_eq path new_path ≡ t → (t ≡ false → Sees bank more (a.answers (Opened path)))
          → Sees bank more (cond b (and_then (a.answers Nameless) (λ count. and_then (a.answers Cursor) (λ cursor. cond (path_eq path (nameless_path count cursor)) (Done (Some (Count 1))) (a.answers (Opened path))))) (a.answers (Opened path)))
      path-sees more path true t larger less is rest =
          sees-then bank more (a.answers Nameless) (λ count. and_then (a.answers Cursor) (last path count)) (w.answers Nameless) (s.answers Nameless) (sees-in bank seen more (a.answers Nameless) larger there)
          (sees-then bank more (a.answers Cursor) (last path (w.answers Nameless)) (w.answers Cursor) (s.answers Cursor) (sees-in bank seen more (a.answers Cursor) larger cursor)
          (subst (λ t. Sees bank more (cond t (Done (Some (Count 1))) (a.answers (Opened path)))) (sym is) (by t rest)))
        where
          by : (t : Bool) → (t ≡ false → Sees bank more (a.answers (Opened path))) → Sees bank more (cond t (Done (Some (Count 1))) (a.answers (Opened path)))
          by true rest = sees-done bank {A = Option Answer} more (Some (Count 1))
          by false rest = rest refl
      path-sees more path false true larger less is rest = let never : true ≡ false = sym (ap is_nameless (same_path path new_path is)) ∙ less in cc
      path-sees more path false false larger less is rest = rest refl

      hidden-own : (k : Key) → IsPlain k → Sees bank (seen ++ k ∷ []) (hidden.answers k)
      hidden-own Cursor plain = sees-more bank seen (Cursor ∷ []) (hidden.answers Cursor) hidden-cursor
      hidden-own Nameless plain = sees-more bank seen (Nameless ∷ []) (hidden.answers Nameless) hidden-nameless
      hidden-own (Opened path) plain =
          path-sees (seen ++ Opened path ∷ []) path (is_nameless path) (path_eq path new_path) (in-more seen seen (Opened path ∷ []) (in-itself seen)) refl refl (λ isnt. c.own (Opened path) tt)
      hidden-own (Declared n q) plain = c.own (Declared n q) tt
      hidden-own (Introduced n q body) plain = absurd plain
      hidden-own PrefixKey plain = c.own PrefixKey tt
      hidden-own (IdOf q) plain = c.own (IdOf q) tt
      hidden-own (Typeprefix q) plain = c.own (Typeprefix q) tt

      hidden-done : (k : Key) → IsPlain k → written_hidden k ≡ true → Sees bank seen (hidden.answers k)
      hidden-done Cursor plain h = hidden-cursor
      hidden-done Nameless plain h = hidden-nameless
      hidden-done (Opened path) plain h =
          path-sees seen path (is_nameless path) (path_eq path new_path) (in-itself seen) refl refl
          (λ isnt. c.done (Opened path) tt (sym (or_false (written (Opened path))) ∙ ap (λ b. written (Opened path) || b) (sym isnt) ∙ h))
      hidden-done (Declared n q) plain h = same-done (Declared n q) tt h
      hidden-done (Introduced n q body) plain h = absurd plain
      hidden-done PrefixKey plain h = same-done PrefixKey tt h
      hidden-done (IdOf q) plain h = same-done (IdOf q) tt h
      hidden-done (Typeprefix q) plain h = same-done (Typeprefix q) tt h

      path-whole : (path : List (List ℕ)) (b : Bool) → path_eq path new_path ≡ false → written (Opened path) ≡ false
          → Contains (asked (cond b (and_then (a.answers Nameless) (λ count. and_then (a.answers Cursor) (λ cursor. cond (path_eq path (nameless_path count cursor)) (Done (Some (Count 1))) (a.answers (Opened path))))) (a.answers (Opened path))) bank) (Opened path)
      path-whole path true isnt h =
          asks-second bank (a.answers Nameless) (λ count. and_then (a.answers Cursor) (last path count)) (w.answers Nameless) (Opened path) (s.answers Nameless)
          (asks-second bank (a.answers Cursor) (last path (w.answers Nameless)) (w.answers Cursor) (Opened path) (s.answers Cursor)
          (subst (λ t. Contains (asked (cond t (Done (Some (Count 1))) (a.answers (Opened path))) bank) (Opened path)) (sym isnt) (c.whole (Opened path) h)))
      path-whole path false isnt h = c.whole (Opened path) h

      hidden-whole : (k : Key) → written_hidden k ≡ false → Contains (asked (hidden.answers k) bank) k
      hidden-whole Cursor h = let never : true ≡ false = sym (or-right (written Cursor) true refl) ∙ h in cc
      hidden-whole Nameless h = let never : true ≡ false = sym (or-right (written Nameless) true refl) ∙ h in cc
      hidden-whole (Opened path) h =
          let isnt = or-neither (written (Opened path)) (path_eq path new_path) h in
          path-whole path (is_nameless path) isnt.1 isnt.0
      hidden-whole (Declared n q) h = same-whole (Declared n q) h
      hidden-whole (Introduced n q body) h = same-whole (Introduced n q body) h
      hidden-whole PrefixKey h = same-whole PrefixKey h
      hidden-whole (IdOf q) h = same-whole (IdOf q) h
      hidden-whole (Typeprefix q) h = same-whole (Typeprefix q) h

      declares-sees : (n : List ℕ) (path : List (List ℕ)) (b t : Bool) → is_nameless path ≡ b → path_eq path new_path ≡ t → (t ≡ false → Sees bank seen (a.declares n path))
          → Sees bank seen (cond b (and_then (a.answers Nameless) (λ count. and_then (a.answers Cursor) (λ cursor. cond (path_eq path (nameless_path count cursor)) (Done false) (a.declares n path)))) (a.declares n path))
      declares-sees n path true t less is rest =
          sees-then bank seen (a.answers Nameless) (λ count. and_then (a.answers Cursor) (later count)) (w.answers Nameless) (s.answers Nameless) there
          (sees-then bank seen (a.answers Cursor) (later (w.answers Nameless)) (w.answers Cursor) (s.answers Cursor) cursor
          (subst (λ t. Sees bank seen (cond t (Done false) (a.declares n path))) (sym is) (by t rest)))
        where
          later : Option Answer → Option Answer → Asking Bool
          later count cursor = cond (path_eq path (nameless_path count cursor)) (Done false) (a.declares n path)

          by : (t : Bool) → (t ≡ false → Sees bank seen (a.declares n path)) → Sees bank seen (cond t (Done false) (a.declares n path))
          by true rest = sees-done bank {A = Bool} seen false
          by false rest = rest refl
      declares-sees n path false true less is rest = let never : true ≡ false = sym (ap is_nameless (same_path path new_path is)) ∙ less in cc
      declares-sees n path false false less is rest = rest refl

      -- the new scope declares nothing, and the others what they did
      new-declares : (n : List ℕ) → Sees bank seen (hidden.declares n new_path)
      new-declares n =
          declares-sees n new_path (is_nameless new_path) (path_eq new_path new_path) refl refl (λ isnt. (let never : true ≡ false = sym (key_equiv.refl (Opened new_path)) ∙ isnt in cc))

      same-declares : (n : List ℕ) (path : List (List ℕ)) → Sees bank seen (a.declares n path) → Sees bank seen (hidden.declares n path)
      same-declares n path sees = declares-sees n path (is_nameless path) (path_eq path new_path) refl refl (λ isnt. sees)

      pub nameless-covers : Covers bank seen hidden (after_step w (OpensNameless kind)) written_hidden
      nameless-covers = record {
        own = hidden-own;
        done = hidden-done;
        used = c.used;
        used_done = same-used_done;
        whole = hidden-whole;
        prefix = or-left (written PrefixKey) false c.prefix;
        opens = opens_more;
        enters = c.enters;
        entities = (
          λ is named. (let never : true ≡ false = named in cc),
          written-more bank written written_hidden (λ k so. or-left (written k) (opens_nameless_at w k) so) a.opened (scopes_in (w.answers Cursor)) c.entities,
        );
        scopes = (λ less n. new-declares n, scopes-more bank seen seen a.declares hidden.declares same-declares a.opened (scopes_in (w.answers Cursor)) c.scopes);
        bases = same-bases;
      }
