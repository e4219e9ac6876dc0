-- What was kept of a root's units, beside facts of which more and more are told.
use Rattle.std.proofs.Common.{◌≡◌, Bool, true, false, ℕ, List, [], ◌∷◌, ◌++◌, map, refl, ap, sym, subst, ◌∙◌, arith, append-nil, append_assoc}
use Rattle.std.specs.Prelude.{Contains, flat_map}
use Rattle.std.proofs.lemmas.List.Elements.{All-contains, All-push, Contains-append_left, Contains-push}
use Rattle.idl_env.specs.Differing.{differing}
use Rattle.idl_env.specs.Facts.{UnitFacts, World, after, answers, entity_key, first_world, key_of, operations_among, stops_of, world, with_additions}
use Rattle.idl_env.specs.Outside.{AgreeOutside, AreApart, IsInnermost, WorldsAgreeAround, WorldsAgreeOutside, looked_at, looked_at_by}
use Rattle.idl_env.specs.declared.additions.addition.Step.TheVariants.{Stays, Closes}
use Rattle.idl_env.specs.declared.answering.answer.Scope.{Scope}
use Rattle.idl_env.specs.declared.keys.key.Key.{Key}
use Rattle.idl_env.specs.declared.keys.key.Key.TheVariants.{Cursor}
use Rattle.idl_env.specs.keys.Key.{key_digest}
use Rattle.idl_root.proofs.DigestLemmas.{apart-noted, noted-more, noted-wider, noted-with, own}
use Rattle.idl_root.specs.Changed.{ShareNone}
use Rattle.idl_root.specs.Followed.{AgreeBut, AreNoted, IsBeside, IsPassed, StayAlike, WereThere, WorldsAgree, added_by}
use Rattle.idl_kept.specs.Texts.{DeclarationResult}
use Rattle.idl_scope.proofs.AroundLaws.{around-closes, around-less, around-more, around-pair, around-same, around-wider}
use Rattle.idl_scope.proofs.ExchangeLaws.{after-exchanged, after-less, after-more, looked_at_by-outside}
use Rattle.idl_scope.proofs.FactsLaws.{after-outside, after_all-append}
use Rattle.idl_root.specs.declared.kept.marks.Mark.{Mark}

-- at first
pub beside-start : (marks : List Mark) (results : List DeclarationResult) → WereThere [] marks results → IsBeside (added_by marks results) false [] marks results []
beside-start marks results h = record {
  before = [];
  whole = refl;
  units = h;
  but = record {
    keys = [];
    noted = λ k d lt. absurd (omega (arith, lt));
    agree = (λ key out. refl, (refl, refl));
  };
}

-- the answers agree
pub answers-agree : (around : Bool) (keys : List Key) (w v : World) → WorldsAgree around keys w v → AgreeOutside keys w.answers v.answers
answers-agree false keys w v h = h.0
answers-agree true keys w v h = h.0

agree-around : (around : Bool) (keys : List Key) (w v : World) → WorldsAgree around keys w v → WorldsAgreeAround keys w v
agree-around false keys w v h = around-wider keys w v h
agree-around true keys w v h = h

-- behind all units
pub beside-end : (all : List UnitFacts) (around : Bool) (changed : List ℕ) (marks : List Mark) (results : List DeclarationResult) (facts : List UnitFacts) → marks ≡ []
    → IsBeside all around changed marks results facts → AgreeBut true changed all facts
beside-end all around changed marks results facts none b =
    let whole : b.before ≡ all = sym (append-nil b.before) ∙ ap (λ m. b.before ++ added_by m results) (sym none) ∙ b.whole in
    subst (λ before. AgreeBut true changed before facts) whole (record {
      keys = b.but.keys;
      noted = b.but.noted;
      agree = agree-around around b.but.keys (world b.before) (world facts) b.but.agree;
    })

module _ (all : List UnitFacts) where
  world-more : (facts : List UnitFacts) (f : UnitFacts) → world (facts ++ f ∷ []) ≡ after (world facts) f
  unfolding world
  world-more facts f = after_all-append first_world facts (f ∷ [])

  module _ (marks : List Mark) (results : List DeclarationResult) where
    module _ (around : Bool) where
      -- behind a unit here alone
      beside-grown : (changed : List ℕ) (keys : List Key) (before facts : List UnitFacts) (g : UnitFacts)
          → before ++ added_by marks results ≡ all → WereThere before marks results → AreNoted changed keys
          → WorldsAgree around keys (world before) (after (world facts) g) → IsBeside all around changed marks results (facts ++ g ∷ [])
      beside-grown changed keys before facts g whole units noted agree = record {
        before = before;
        whole = whole;
        units = units;
        but = record { keys = keys; noted = noted; agree = subst (λ v. WorldsAgree around keys (world before) v) (sym (world-more facts g)) agree };
      }

      module _ (f : UnitFacts) (next : List Mark) (rest : List DeclarationResult) (passed : IsPassed f marks results next rest) where
        -- behind the first of what was kept alone
        beside-passed : (changed : List ℕ) (keys : List Key) (before facts : List UnitFacts)
            → before ++ added_by marks results ≡ all → WereThere before marks results → AreNoted changed keys
            → WorldsAgree around keys (after (world before) f) (world facts) → IsBeside all around changed next rest facts
        beside-passed changed keys before facts whole units noted agree = record {
          before = before ++ f ∷ [];
          whole = append_assoc before (f ∷ []) (added_by next rest) ∙ ap (λ l. before ++ l) (sym passed.added) ∙ whole;
          units = passed.there before units;
          but = record { keys = keys; noted = noted; agree = subst (λ w. WorldsAgree around keys w (world facts)) (sym (world-more before f)) agree };
        }

        -- behind that and a unit here
        beside-next : (changed : List ℕ) (keys : List Key) (before facts : List UnitFacts) (g : UnitFacts)
            → before ++ added_by marks results ≡ all → WereThere before marks results → AreNoted changed keys
            → WorldsAgree around keys (after (world before) f) (after (world facts) g) → IsBeside all around changed next rest (facts ++ g ∷ [])
        beside-next changed keys before facts g whole units noted agree =
            beside-passed changed keys before (facts ++ g ∷ []) whole units noted
            (subst (λ v. WorldsAgree around keys (after (world before) f) v) (sym (world-more facts g)) agree)

    -- behind a unit here alone
    pub beside-more : (around then_around : Bool) (changed : List ℕ) (facts : List UnitFacts) (g : UnitFacts)
        → (then_around ≡ false → (around ≡ false) × (operations_among g.additions ≡ []))
        → (now : List ℕ) → now ≡ changed ++ own g.additions
        → g.step ≡ Stays → IsBeside all around changed marks results facts → IsBeside all then_around now marks results (facts ++ g ∷ [])
    beside-more around false changed facts g may now is stays b =
        let alike : WorldsAgreeOutside b.but.keys (world b.before) (world facts) = subst (λ a. WorldsAgree a b.but.keys (world b.before) (world facts)) (may refl).0 b.but.agree in
        subst (λ n. IsBeside all false n marks results (facts ++ g ∷ [])) (sym is)
        (beside-grown false (changed ++ own g.additions) (b.but.keys ++ map key_of g.additions) b.before facts g b.whole b.units (noted-more changed b.but.keys g.additions b.but.noted)
        (after-more b.but.keys (world b.before) (world facts) g alike stays (may refl).1))
    beside-more around true changed facts g may now is stays b =
        subst (λ n. IsBeside all true n marks results (facts ++ g ∷ [])) (sym is)
        (beside-grown true (changed ++ own g.additions) (b.but.keys ++ map key_of g.additions) b.before facts g b.whole b.units (noted-more changed b.but.keys g.additions b.but.noted)
        (around-more b.but.keys (world b.before) (world facts) g (agree-around around b.but.keys (world b.before) (world facts) b.but.agree) stays))

    module _ (f : UnitFacts) (next : List Mark) (rest : List DeclarationResult) (passed : IsPassed f marks results next rest) where
      -- behind a unit there alone
      pub beside-less : (around then_around : Bool) (changed : List ℕ) (facts : List UnitFacts)
          → (then_around ≡ false → (around ≡ false) × (operations_among f.additions ≡ []))
          → (now : List ℕ) → now ≡ changed ++ own f.additions
          → f.step ≡ Stays → IsBeside all around changed marks results facts → IsBeside all then_around now next rest facts
      beside-less around false changed facts may now noted-is stays b =
          let alike : WorldsAgreeOutside b.but.keys (world b.before) (world facts) = subst (λ a. WorldsAgree a b.but.keys (world b.before) (world facts)) (may refl).0 b.but.agree in
          subst (λ n. IsBeside all false n next rest facts) (sym noted-is)
          (beside-passed false f next rest passed (changed ++ own f.additions) (b.but.keys ++ map key_of f.additions) b.before facts b.whole b.units (noted-more changed b.but.keys f.additions b.but.noted)
          (after-less b.but.keys (world b.before) (world facts) f alike stays (may refl).1))
      beside-less around true changed facts may now noted-is stays b =
          subst (λ n. IsBeside all true n next rest facts) (sym noted-is)
          (beside-passed true f next rest passed (changed ++ own f.additions) (b.but.keys ++ map key_of f.additions) b.before facts b.whole b.units (noted-more changed b.but.keys f.additions b.but.noted)
          (around-less b.but.keys (world b.before) (world facts) f (agree-around around b.but.keys (world b.before) (world facts) b.but.agree) stays))

      -- where the innermost scope closes on both sides
      pub beside-closing : (around : Bool) (changed : List ℕ) (facts : List UnitFacts)
          → f.step ≡ Closes → f.additions ≡ [] → (s : Scope) → IsInnermost (answers facts) s → ShareNone (key_digest Cursor ∷ []) changed
          → (now : List ℕ) → now ≡ changed ++ key_digest (entity_key s.path) ∷ []
          → IsBeside all around changed marks results facts → IsBeside all false now next rest (facts ++ f ∷ [])
      beside-closing around changed facts closes nothing s inner none now now-is b =
          let keys = b.but.keys in
          let out : Contains keys Cursor → ⊥ = λ c.
          none (key_digest Cursor) (0, omega arith, refl) (All-contains (λ q. Contains changed (key_digest q)) keys Cursor b.but.noted c) in
          let more = keys ++ entity_key s.path ∷ [] in
          let digests = changed ++ key_digest (entity_key s.path) ∷ [] in
          let noted : AreNoted digests more =
          All-push (λ q. Contains digests (key_digest q)) keys (entity_key s.path) (noted-wider changed (key_digest (entity_key s.path) ∷ []) keys b.but.noted)
          (Contains-push changed (key_digest (entity_key s.path))) in
          let after_both = around-closes keys b.before facts s f (agree-around around keys (world b.before) (world facts) b.but.agree) closes nothing inner out in
          subst (λ n. IsBeside all false n next rest (facts ++ f ∷ [])) (sym now-is)
          (beside-next false f next rest passed digests more b.before facts f b.whole b.units noted after_both)

      -- behind units that add the same
      pub beside-same : (around : Bool) (changed : List ℕ) (facts : List UnitFacts)
          → StayAlike around facts changed f → IsBeside all around changed marks results facts → IsBeside all around changed next rest (facts ++ f ∷ [])
      beside-same false changed facts (looked, (noted, none)) b =
          let keys = b.but.keys in
          let apart = looked_at_by-outside keys (world b.before) (world facts) f b.but.agree (apart-noted looked changed (looked_at_by (world facts) f) keys noted b.but.noted none) in
          beside-next false f next rest passed changed keys b.before facts f b.whole b.units b.but.noted (after-outside keys (world b.before) (world facts) f b.but.agree apart)
      beside-same true changed facts (stays, (looked, (noted, none))) b =
          let keys = b.but.keys in
          let apart = apart-noted looked changed (looked_at_by (world facts) f) keys noted b.but.noted none in
          let stops : AreApart (flat_map stops_of f.additions) keys = λ q c. apart q (Contains-append_left (flat_map stops_of f.additions) (looked_at (with_additions f.additions (world facts)) f.step) q c) in
          beside-next true f next rest passed changed keys b.before facts f b.whole b.units b.but.noted (around-same keys (world b.before) (world facts) f b.but.agree stays stops)

      -- behind units of which one takes the place of the other
      pub beside-other : (around then_around : Bool) (changed : List ℕ) (facts : List UnitFacts) (g : UnitFacts)
          → (then_around ≡ false → (around ≡ false) × (operations_among f.additions ≡ operations_among g.additions))
          → (now : List ℕ) → now ≡ changed ++ map key_digest (differing f.additions g.additions)
          → f.step ≡ g.step → StayAlike then_around facts now g
          → IsBeside all around changed marks results facts → IsBeside all then_around now next rest (facts ++ g ∷ [])
      beside-other around false changed facts g may now now-is steps (looked, (noted, none)) b =
          let keys = b.but.keys in
          let w = world b.before in
          let v = world facts in
          let alike : WorldsAgreeOutside keys w v = subst (λ a. WorldsAgree a keys w v) (may refl).0 b.but.agree in
          let more = keys ++ differing f.additions g.additions in
          let digests = changed ++ map key_digest (differing f.additions g.additions) in
          let both : AreNoted digests more = noted-with changed keys (differing f.additions g.additions) b.but.noted in
          let clear = apart-noted looked digests (looked_at_by v g) more noted both (subst (ShareNone looked) now-is none) in
          subst (λ n. IsBeside all false n next rest (facts ++ g ∷ [])) (sym now-is)
          (beside-next false f next rest passed digests more b.before facts g b.whole b.units both (after-exchanged keys w v f g alike steps (may refl).1 clear))
      beside-other around true changed facts g may now now-is steps (stays, (looked, (noted, none))) b =
          let keys = b.but.keys in
          let w = world b.before in
          let v = world facts in
          let more = keys ++ differing f.additions g.additions in
          let digests = changed ++ map key_digest (differing f.additions g.additions) in
          let both : AreNoted digests more = noted-with changed keys (differing f.additions g.additions) b.but.noted in
          let clear = apart-noted looked digests (looked_at_by v g) more noted both (subst (ShareNone looked) now-is none) in
          let stops : AreApart (flat_map stops_of g.additions) keys = λ q c i.
          clear q (Contains-append_left (flat_map stops_of g.additions) (looked_at (with_additions g.additions v) g.step) q c)
          (Contains-append_left keys (differing f.additions g.additions) q i) in
          subst (λ n. IsBeside all true n next rest (facts ++ g ∷ [])) (sym now-is)
          (beside-next true f next rest passed digests more b.before facts g b.whole b.units both
          (around-pair keys w v f g (agree-around around keys w v b.but.agree) (steps ∙ stays) stays stops))
