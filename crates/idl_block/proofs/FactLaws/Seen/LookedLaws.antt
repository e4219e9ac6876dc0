-- What is asked at any key behind what a block wrote: the key, outer keys, and what may stop the uses that it added.
use Rattle.std.proofs.Common.{◌≡◌, Bool, true, false, cond, ℕ, List, [], ◌∷◌, ◌++◌, Option, Some, append_assoc, flat_map, map, refl, sym, ap, ◌∙◌, subst}
use Rattle.std.specs.Prelude.{All, Contains, filter, is_some}
use Rattle.std.proofs.lemmas.Grind.{flat_map-append}
use Rattle.std.proofs.lemmas.List.Elements.{All-contains, All-head, All-tail}
use Rattle.idl_block.proofs.BlockLaws.{outcome-unit}
use Rattle.idl_block.specs.Blocks.{Boundary, Part, Text, block}
use Rattle.idl_block.specs.Questions.{asked_by, outer_asked, outer_of, questions}
use Rattle.idl_entity.specs.Path.{path_eq}
use Rattle.idl_entity.specs.declared.kind.Kind.{Kind}
use Rattle.idl_env.proofs.Membership.{Contains-IsIn, IsIn-Contains, IsIn-map}
use Rattle.idl_env.specs.Facts.{UnitFacts, answer_of, entity_in, key_of, stops_of, addition_at, boundary}
use Rattle.idl_env.specs.declared.additions.addition.Addition.{Addition}
use Rattle.idl_env.specs.declared.additions.addition.Addition.TheVariants.{Declares, Uses, UsesFurther, Appears, Identifies, TypePrefixes}
use Rattle.idl_env.specs.declared.additions.addition.Step.{Step}
use Rattle.idl_env.specs.declared.additions.addition.Step.TheVariants.{Stays, Opens, OpensNameless, Closes, Prefixes, Enters, Leaves}
use Rattle.idl_env.specs.declared.answering.answer.Answer.{Answer}
use Rattle.idl_env.specs.declared.keys.key.Key.{Key}
use Rattle.idl_env.specs.declared.keys.key.Key.TheVariants.{Cursor, Declared, Introduced, Opened, Nameless, Prefix as PrefixKey, IdOf, Typeprefix}
use Rattle.idl_env.specs.keys.Key.{key_eq}
use Rattle.idl_block.proofs.FactLaws.Seen.KnownLaws.{IsPassed, IsReady, asked_world, behind-append, first-ready, part-passed, ways, world_over}
use Rattle.idl_block.proofs.FactLaws.Seen.Sees.{All-left, All-right, AreIn, Sees, in-itself, in-push, in-with, sees-done, sees-in, sees-more, sees-then}
use Rattle.idl_block.specs.facts.Answered.{AreStops, AskedWorld, Asking, answered, answered_by, behind_one, is_nameless, is_other_nameless, nameless_path, one_declares, stepped, stopped, with_added}
use Rattle.idl_block.specs.facts.Known.{AskEnough, IsTold, facts_at, stops_among}
use Rattle.idl_memo.specs.Query.{Done, and_then, outcome}

-- ---- one more fact

module _ (bank : Key → Option Answer) (keys : List Key) where
  -- a use, and whether a scope declares a name, are told by these keys and the own one
  pub record IsLooked (a : AskedWorld) : Type 0 where
    pub used : (n : List ℕ) (path : List (List ℕ)) (body : ℕ) → Sees bank (keys ++ Introduced n path body ∷ []) (a.answers (Introduced n path body))
    pub declares : (n : List ℕ) (path : List (List ℕ)) → Sees bank (keys ++ Declared n path ∷ []) (a.declares n path)

  module _ (a : AskedWorld) (looked : IsLooked a) (own : (n : List ℕ) (path : List (List ℕ)) → Sees bank (keys ++ Declared n path ∷ []) (a.answers (Declared n path))) where
    -- those among the keys
    there : (n : List ℕ) (path : List (List ℕ)) → Contains keys (Declared n path) → Sees bank keys (a.answers (Declared n path))
    there n path h = sees-in bank (keys ++ Declared n path ∷ []) keys (a.answers (Declared n path)) (in-with keys keys (Declared n path) (in-itself keys) h) (own n path)

    declares-there : (n : List ℕ) (path : List (List ℕ)) → Contains keys (Declared n path) → Sees bank keys (a.declares n path)
    declares-there n path h = sees-in bank (keys ++ Declared n path ∷ []) keys (a.declares n path) (in-with keys keys (Declared n path) (in-itself keys) h) (looked.declares n path)

    others-look : (n : List ℕ) (path : List (List ℕ)) (unless : List (List (List ℕ))) → AreIn (map (λ p. Declared n p) unless) keys
        → Sees bank keys (one_declares a n (filter (is_other_nameless path) unless))
    others-look n path [] all = sees-done bank {A = Bool} keys false
    others-look n path (q ∷ unless) all = by (others-look n path unless (All-tail (Contains keys) (Declared n q) (map (λ p. Declared n p) unless) all)) (is_other_nameless path q)
      where
        others : List (List (List ℕ))
        others = filter (is_other_nameless path) unless

        later : Sees bank keys (one_declares a n others) → (b : Bool) → Sees bank keys (cond b (Done true) (one_declares a n others))
        later rest true = sees-done bank {A = Bool} keys true
        later rest false = rest

        by : Sees bank keys (one_declares a n others) → (b : Bool) → Sees bank keys (one_declares a n (cond b (q ∷ others) others))
        by rest true =
            sees-then bank keys (a.declares n q) (λ there. cond there (Done true) (one_declares a n others)) (outcome (a.declares n q) bank) refl
            (declares-there n q (All-head (Contains keys) (Declared n q) (map (λ p. Declared n p) unless) all)) (later rest (outcome (a.declares n q) bank))
        by rest false = rest

    stop-looks : (answers : Key → Option Answer) (x : Addition) → AreStops answers x → AreIn (stops_of x) keys → Sees bank keys (stopped a x)
    stop-looks answers (UsesFurther n path further) stops all =
        sees-then bank keys (a.answers (Declared n path)) (λ answer. cond (is_some (entity_in answer)) (Done true) (one_declares a n (filter (is_other_nameless path) further.unless)))
        (outcome (a.answers (Declared n path)) bank) refl
        (there n path (All-contains (Contains keys) (map (λ p. Declared n p) further.unless) (Declared n path) all
        (Contains-IsIn (Declared n path) (map (λ p. Declared n p) further.unless) (IsIn-map (λ p. Declared n p) path further.unless (IsIn-Contains path further.unless stops.0)))))
        (by (is_some (entity_in (outcome (a.answers (Declared n path)) bank))))
      where
        by : (b : Bool) → Sees bank keys (cond b (Done true) (one_declares a n (filter (is_other_nameless path) further.unless)))
        by true = sees-done bank {A = Bool} keys true
        by false = others-look n path further.unless all
    stop-looks answers (Declares e) stops all = sees-done bank {A = Bool} keys false
    stop-looks answers (Uses n path body) stops all = sees-done bank {A = Bool} keys false
    stop-looks answers (Appears path prefix) stops all = sees-done bank {A = Bool} keys false
    stop-looks answers (Identifies path fixed) stops all = sees-done bank {A = Bool} keys false
    stop-looks answers (TypePrefixes path text) stops all = sees-done bank {A = Bool} keys false

    used-looks : (answers : Key → Option Answer) (n : List ℕ) (path : List (List ℕ)) (body : ℕ) (additions : List Addition) → All (AreStops answers) additions → AreIn (flat_map stops_of additions) keys
        → Sees bank (keys ++ Introduced n path body ∷ []) (answered_by a additions (Introduced n path body))
    used-looks answers n path body [] stops all = looked.used n path body
    used-looks answers n path body (x ∷ additions) stops all =
        by (used-looks answers n path body additions (All-tail (AreStops answers) x additions stops) (All-right (Contains keys) (stops_of x) (flat_map stops_of additions) all)) (key_eq k (key_of x))
      where
        k : Key
        k = Introduced n path body

        later : Sees bank (keys ++ k ∷ []) (answered_by a additions k) → (b : Bool) → Sees bank (keys ++ k ∷ []) (cond b (answered_by a additions k) (Done (Some (answer_of x))))
        later rest true = rest
        later rest false = sees-done bank {A = Option Answer} (keys ++ k ∷ []) (Some (answer_of x))

        by : Sees bank (keys ++ k ∷ []) (answered_by a additions k) → (b : Bool)
            → Sees bank (keys ++ k ∷ []) (cond b (and_then (stopped a x) (λ stopped. cond stopped (answered_by a additions k) (Done (Some (answer_of x))))) (answered_by a additions k))
        by rest true =
            sees-then bank (keys ++ k ∷ []) (stopped a x) (λ stopped. cond stopped (answered_by a additions k) (Done (Some (answer_of x)))) (outcome (stopped a x) bank) refl
            (sees-more bank keys (k ∷ []) (stopped a x)
            (stop-looks answers x (All-head (AreStops answers) x additions stops) (All-left (Contains keys) (stops_of x) (flat_map stops_of additions) all))) (later rest (outcome (stopped a x) bank))
        by rest false = rest

    added-looked : (answers : Key → Option Answer) (additions : List Addition) → All (AreStops answers) additions → AreIn (flat_map stops_of additions) keys → IsLooked (with_added additions a)
    added-looked answers additions stops all = record {
      used = λ n path body. used-looks answers n path body additions stops all;
      declares = λ n path. by n path (is_some (addition_at additions (Declared n path)));
    }
      where
        by : (n : List ℕ) (path : List (List ℕ)) (b : Bool) → Sees bank (keys ++ Declared n path ∷ []) (cond b (Done true) (a.declares n path))
        by n path true = sees-done bank {A = Bool} (keys ++ Declared n path ∷ []) true
        by n path false = looked.declares n path

  -- a scope that opens without a name was none of those that declare
  step-looked : (a : AskedWorld) → IsLooked a → (step : Step) → ((kind : Kind) → step ≡ OpensNameless kind → Sees bank keys (a.answers Cursor) × Sees bank keys (a.answers Nameless)) → IsLooked (stepped a step)
  step-looked a looked (OpensNameless kind) hidden = record { used = looked.used; declares = λ n path. by n path (is_nameless path) }
    where
      seen : Sees bank keys (a.answers Cursor) × Sees bank keys (a.answers Nameless)
      seen = hidden kind refl

      by : (n : List ℕ) (path : List (List ℕ)) (b : Bool)
          → Sees bank (keys ++ Declared n path ∷ [])
          (cond b (and_then (a.answers Nameless) (λ count. and_then (a.answers Cursor) (λ cursor. cond (path_eq path (nameless_path count cursor)) (Done false) (a.declares n path)))) (a.declares n path))
      by n path false = looked.declares n path
      by n path true =
          let more : List Key = keys ++ Declared n path ∷ [] in
          let count : Option Answer = outcome (a.answers Nameless) bank in
          let cursor : Option Answer = outcome (a.answers Cursor) bank in
          sees-then bank more (a.answers Nameless) (λ count. and_then (a.answers Cursor) (λ cursor. cond (path_eq path (nameless_path count cursor)) (Done false) (a.declares n path))) count refl
          (sees-more bank keys (Declared n path ∷ []) (a.answers Nameless) seen.1)
          (sees-then bank more (a.answers Cursor) (λ cursor. cond (path_eq path (nameless_path count cursor)) (Done false) (a.declares n path)) cursor refl
          (sees-more bank keys (Declared n path ∷ []) (a.answers Cursor) seen.0) (on (path_eq path (nameless_path count cursor))))
        where
          on : (b : Bool) → Sees bank (keys ++ Declared n path ∷ []) (cond b (Done false) (a.declares n path))
          on true = sees-done bank {A = Bool} (keys ++ Declared n path ∷ []) false
          on false = looked.declares n path
  step-looked a looked Stays hidden = looked
  step-looked a looked (Opens path kind) hidden = record { used = looked.used; declares = looked.declares }
  step-looked a looked Closes hidden = record { used = looked.used; declares = looked.declares }
  step-looked a looked (Prefixes text) hidden = record { used = looked.used; declares = looked.declares }
  step-looked a looked Enters hidden = record { used = looked.used; declares = looked.declares }
  step-looked a looked Leaves hidden = record { used = looked.used; declares = looked.declares }

-- additions stand at neither of these keys
cursor-by : (a : AskedWorld) (additions : List Addition) → answered_by a additions Cursor ≡ a.answers Cursor
cursor-by a [] = refl
cursor-by a (Declares e ∷ additions) = cursor-by a additions
cursor-by a (Uses n path body ∷ additions) = cursor-by a additions
cursor-by a (UsesFurther n path further ∷ additions) = cursor-by a additions
cursor-by a (Appears path prefix ∷ additions) = cursor-by a additions
cursor-by a (Identifies path fixed ∷ additions) = cursor-by a additions
cursor-by a (TypePrefixes path text ∷ additions) = cursor-by a additions

nameless-by : (a : AskedWorld) (additions : List Addition) → answered_by a additions Nameless ≡ a.answers Nameless
nameless-by a [] = refl
nameless-by a (Declares e ∷ additions) = nameless-by a additions
nameless-by a (Uses n path body ∷ additions) = nameless-by a additions
nameless-by a (UsesFurther n path further ∷ additions) = nameless-by a additions
nameless-by a (Appears path prefix ∷ additions) = nameless-by a additions
nameless-by a (Identifies path fixed ∷ additions) = nameless-by a additions
nameless-by a (TypePrefixes path text ∷ additions) = nameless-by a additions

-- ---- a block

module _ {T O : Type 0} (unit : T → Asking O) (writes : O → UnitFacts) (bank : Key → Option Answer) where
  abbrev ended : List (Part T Step) → List UnitFacts → List UnitFacts
  ended parts written = (outcome (block (ways unit writes bank) parts written) bank).1

  ended-part : (part : Part T Step) (parts : List (Part T Step)) (written : List UnitFacts) → ended (part ∷ parts) written ≡ ended parts (written ++ facts_at unit writes bank part written ∷ [])
  ended-part (Boundary step) parts written = refl
  ended-part (Text t) parts written = ap (λ (e : List O × List UnitFacts). e.1) (outcome-unit (ways unit writes bank) t parts written bank)

  abbrev Stopping : List UnitFacts → List Key → Type 0
  Stopping facts keys = AreIn (stops_among facts) keys

  stops-before : (keys : List Key) (facts more : List UnitFacts) → Stopping (facts ++ more) keys → Stopping facts keys
  stops-before keys facts more all =
      All-left (Contains keys) (stops_among facts) (stops_among more) (subst (λ ks. AreIn ks keys) (flat_map-append (λ (f : UnitFacts). flat_map stops_of f.additions) facts more) all)

  stops-last : (keys : List Key) (facts : List UnitFacts) (f : UnitFacts) → Stopping (facts ++ f ∷ []) keys → AreIn (flat_map stops_of f.additions) keys
  stops-last keys facts f all =
      All-left (Contains keys) (flat_map stops_of f.additions) []
      (All-right (Contains keys) (stops_among facts) (stops_among (f ∷ [])) (subst (λ ks. AreIn ks keys) (flat_map-append (λ (f : UnitFacts). flat_map stops_of f.additions) facts (f ∷ [])) all))

  ended-stops : (keys : List Key) (parts : List (Part T Step)) (written : List UnitFacts) → Stopping (ended parts written) keys → Stopping written keys
  ended-stops keys [] written all = all
  ended-stops keys (part ∷ parts) written all =
      let f : UnitFacts = facts_at unit writes bank part written in
      stops-before keys written (f ∷ []) (ended-stops keys parts (written ++ f ∷ []) (subst (λ fs. Stopping fs keys) (ended-part part parts written) all))

  all-looked : (keys seen : List Key) (written : List UnitFacts) → IsReady unit writes bank seen written → IsLooked bank keys (asked_world unit writes bank written) → AreIn seen keys
      → (k : Key) → Sees bank (keys ++ k ∷ []) ((asked_world unit writes bank written).answers k)
  all-looked keys seen written ready looked less (Introduced n path body) = looked.used n path body
  all-looked keys seen written ready looked less Cursor = sees-in bank (seen ++ Cursor ∷ []) (keys ++ Cursor ∷ []) ((asked_world unit writes bank written).answers Cursor) (in-push seen keys Cursor less) (ready.covers.own Cursor tt)
  all-looked keys seen written ready looked less (Declared n path) = sees-in bank (seen ++ Declared n path ∷ []) (keys ++ Declared n path ∷ []) ((asked_world unit writes bank written).answers (Declared n path)) (in-push seen keys (Declared n path) less) (ready.covers.own (Declared n path) tt)
  all-looked keys seen written ready looked less (Opened path) = sees-in bank (seen ++ Opened path ∷ []) (keys ++ Opened path ∷ []) ((asked_world unit writes bank written).answers (Opened path)) (in-push seen keys (Opened path) less) (ready.covers.own (Opened path) tt)
  all-looked keys seen written ready looked less Nameless = sees-in bank (seen ++ Nameless ∷ []) (keys ++ Nameless ∷ []) ((asked_world unit writes bank written).answers Nameless) (in-push seen keys Nameless less) (ready.covers.own Nameless tt)
  all-looked keys seen written ready looked less PrefixKey = sees-in bank (seen ++ PrefixKey ∷ []) (keys ++ PrefixKey ∷ []) ((asked_world unit writes bank written).answers PrefixKey) (in-push seen keys PrefixKey less) (ready.covers.own PrefixKey tt)
  all-looked keys seen written ready looked less (IdOf path) = sees-in bank (seen ++ IdOf path ∷ []) (keys ++ IdOf path ∷ []) ((asked_world unit writes bank written).answers (IdOf path)) (in-push seen keys (IdOf path) less) (ready.covers.own (IdOf path) tt)
  all-looked keys seen written ready looked less (Typeprefix path) = sees-in bank (seen ++ Typeprefix path ∷ []) (keys ++ Typeprefix path ∷ []) ((asked_world unit writes bank written).answers (Typeprefix path)) (in-push seen keys (Typeprefix path) less) (ready.covers.own (Typeprefix path) tt)

  abbrev outer_of_part : Part T Step → List UnitFacts → List Key
  outer_of_part part written = flat_map (λ q. outer_of (ways unit writes bank) q bank) (map (λ k. record { written = written; key = k }) (asked_by (ways unit writes bank) part written bank))

  outer-part : (part : Part T Step) (parts : List (Part T Step)) (written : List UnitFacts)
      → outer_asked (ways unit writes bank) (part ∷ parts) written bank ≡ outer_of_part part written ++ outer_asked (ways unit writes bank) parts (written ++ facts_at unit writes bank part written ∷ []) bank
  outer-part (Boundary step) parts written = refl
  outer-part (Text t) parts written =
      flat_map-append (λ q. outer_of (ways unit writes bank) q bank) (map (λ k. record { written = written; key = k }) (asked_by (ways unit writes bank) (Text t) written bank))
      (questions (ways unit writes bank) parts (written ++ facts_at unit writes bank (Text t) written ∷ []) bank)

  fact-looked : (keys seen : List Key) (part : Part T Step) (written : List UnitFacts) → IsReady unit writes bank seen written → IsPassed unit writes bank seen part written → IsTold (world_over unit writes bank written) (facts_at unit writes bank part written)
      → AreIn (seen ++ outer_of_part part written) keys → AreIn (flat_map stops_of (facts_at unit writes bank part written).additions) keys → IsLooked bank keys (asked_world unit writes bank written)
      → IsLooked bank keys (behind_one (asked_world unit writes bank written) (facts_at unit writes bank part written))
  fact-looked keys seen part written ready passed told less stops looked =
      let a : AskedWorld = asked_world unit writes bank written in
      let f : UnitFacts = facts_at unit writes bank part written in
      let own : (n : List ℕ) (path : List (List ℕ)) → Sees bank (keys ++ Declared n path ∷ []) (a.answers (Declared n path)) =
      λ n path. all-looked keys seen written ready looked (All-left (Contains keys) seen (outer_of_part part written) less) (Declared n path) in
      step-looked bank keys (with_added f.additions a) (added-looked bank keys a looked own (world_over unit writes bank written).answers f.additions told.proper.stops stops) f.step
      (λ kind is. (let h = passed.hidden kind is in (
        subst (Sees bank keys) (sym (cursor-by a f.additions)) (sees-in bank (seen ++ outer_of_part part written) keys (a.answers Cursor) less h.0),
        subst (Sees bank keys) (sym (nameless-by a f.additions)) (sees-in bank (seen ++ outer_of_part part written) keys (a.answers Nameless) less h.1),
      )))

  parts-looked : (keys seen : List Key) (parts : List (Part T Step)) (written : List UnitFacts) → IsReady unit writes bank seen written → IsLooked bank keys (asked_world unit writes bank written)
      → AskEnough unit writes bank parts written → AreIn (seen ++ outer_asked (ways unit writes bank) parts written bank) keys → Stopping (ended parts written) keys
      → (k : Key) → Sees bank (keys ++ k ∷ []) ((asked_world unit writes bank (ended parts written)).answers k)
  parts-looked keys seen [] written ready looked enough less stops = all-looked keys seen written ready looked (All-left (Contains keys) seen [] less)
  parts-looked keys seen (part ∷ parts) written ready looked enough less stops =
      let f : UnitFacts = facts_at unit writes bank part written in
      let o : List Key = outer_of_part part written in
      let rest : List Key = outer_asked (ways unit writes bank) parts (written ++ f ∷ []) bank in
      let p : IsPassed unit writes bank seen part written = part-passed unit writes bank seen part written ready enough.0 in
      let whole : AreIn ((seen ++ o) ++ rest) keys = subst (λ ks. AreIn ks keys) (ap (λ ks. seen ++ ks) (outer-part part parts written) ∙ sym (append_assoc seen o rest)) less in
      let here : AreIn (seen ++ o) keys = All-left (Contains keys) (seen ++ o) rest whole in
      let there : Stopping (ended parts (written ++ f ∷ [])) keys = subst (λ fs. Stopping fs keys) (ended-part part parts written) stops in
      let next : IsLooked bank keys (asked_world unit writes bank (written ++ f ∷ [])) =
      subst (IsLooked bank keys) (sym (behind-append (asked_world unit writes bank []) written f))
      (fact-looked keys seen part written ready p enough.0.1 here (stops-last keys written f (ended-stops keys parts (written ++ f ∷ []) there)) looked) in
      subst (λ fs. (k : Key) → Sees bank (keys ++ k ∷ []) ((asked_world unit writes bank fs).answers k)) (sym (ended-part part parts written))
      (parts-looked keys (seen ++ o) parts (written ++ f ∷ []) p.ready next enough.1 whole there)

  first-looked : (keys : List Key) → IsLooked bank keys (asked_world unit writes bank (boundary Enters ∷ []))
  first-looked keys = record {
    used = λ n path body. in-push [] keys (Introduced n path body) (All-left (Contains keys) [] keys (in-itself keys));
    declares = λ n path. in-push [] keys (Declared n path) (All-left (Contains keys) [] keys (in-itself keys));
  }

  -- behind what a block wrote
  pub block-looks : (parts : List (Part T Step)) → AskEnough unit writes bank parts (boundary Enters ∷ []) → (k : Key)
      → let end = ended parts (boundary Enters ∷ []) in
      Sees bank ((outer_asked (ways unit writes bank) parts (boundary Enters ∷ []) bank ++ stops_among end) ++ k ∷ []) (answered end k)
  block-looks parts enough k =
      let outer_keys : List Key = outer_asked (ways unit writes bank) parts (boundary Enters ∷ []) bank in
      let stops : List Key = stops_among (ended parts (boundary Enters ∷ [])) in
      let keys : List Key = outer_keys ++ stops in
      parts-looked keys [] parts (boundary Enters ∷ []) (first-ready unit writes bank) (first-looked keys) enough
      (All-left (Contains keys) outer_keys stops (in-itself keys)) (All-right (Contains keys) outer_keys stops (in-itself keys)) k
