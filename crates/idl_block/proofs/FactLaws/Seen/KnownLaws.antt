-- What a block asks beside its outer keys was asked by then.
use Rattle.std.proofs.Common.{◌≡◌, ◌≤◌, ℕ, Bool, true, false, cond, ◌||◌, List, [], ◌∷◌, ◌++◌, length, Option, map, append-nil, append_assoc, refl, sym, ap, ◌∙◌, subst, arith}
use Rattle.std.specs.Prelude.{All, Contains, flat_map}
use Rattle.std.proofs.lemmas.List.Elements.{All-append, All-cons, All-contains, All-nil, All-weaker, Contains-push}
use Rattle.idl_block.specs.Behind.{laid}
use Rattle.idl_block.specs.Blocks.{Boundary, Part, Text, Ways}
use Rattle.idl_block.specs.Questions.{AreKnown, AreSeen, IsKnown, Question, asked_by, outer_of, questions, written_after}
use Rattle.idl_entity.specs.declared.entity.Entity.{Entity}
use Rattle.idl_entity.specs.declared.kind.Kind.{Kind}
use Rattle.idl_env.proofs.WriteLemmas.{unwritten_all}
use Rattle.idl_env.specs.Facts.{UnitFacts, World, after, after_all, boundary, entity_key, scopes_in, with_additions}
use Rattle.idl_env.specs.Written.{adds_at, writes_at, written_from}
use Rattle.idl_env.specs.declared.additions.addition.Addition.TheVariants.{Declares}
use Rattle.idl_env.specs.declared.additions.addition.Step.{Step}
use Rattle.idl_env.specs.declared.additions.addition.Step.TheVariants.{Stays, Opens, OpensNameless, Closes, Prefixes, Enters, Leaves}
use Rattle.idl_env.specs.declared.answering.answer.Answer.{Answer}
use Rattle.idl_env.specs.declared.answering.answer.Scope.{Scope}
use Rattle.idl_env.specs.declared.keys.key.Key.{Key}
use Rattle.idl_env.specs.declared.keys.key.Key.TheVariants.{Cursor, Declared, Introduced, Opened, Nameless, Prefix as PrefixKey, IdOf, Typeprefix}
use Rattle.idl_memo.specs.Query.{asked, outcome}
use Rattle.idl_block.specs.facts.Answered.{AreStops, AskedWorld, Asking, answered, at_first, behind_all, behind_one, with_added}
use Rattle.idl_block.specs.facts.Beneath.{start}
use Rattle.idl_block.specs.facts.Known.{AreBehind, AskEnough, AsksEnough, HasAsked, HasAskedStep, IsBehind, IsTold, NoneInside, facts_at}
use Rattle.idl_block.specs.facts.Written.{is_written, ways_of}
use Rattle.idl_block.proofs.FactLaws.AnsweredLaws.{first-stands}
use Rattle.idl_block.proofs.FactLaws.ClosingStands.{step-stands}
use Rattle.idl_block.proofs.FactLaws.Seen.Covers.{Covers, IsOfBlock, covers-in, scopes-before}
use Rattle.idl_block.proofs.FactLaws.Seen.FactCovers.{StepSeen, covers-fact, declared-adds, stands-fact}
use Rattle.idl_block.proofs.FactLaws.Seen.Sees.{AreIn, Sees, in-itself, in-more, in-push, sees-in, sees-more}
use Rattle.idl_block.proofs.FactLaws.StandingLaws.{Stands, added-stands, or-right}

-- ---- one more

or_ends : (b : Bool) → (b || false) ≡ b
or_ends true = refl
or_ends false = refl

or_joins : (a b c : Bool) → (a || (b || c)) ≡ ((a || b) || c)
or_joins true b c = refl
or_joins false b c = refl

written-append : (w : World) (facts : List UnitFacts) (f : UnitFacts) (k : Key) → written_from w (facts ++ f ∷ []) k ≡ (written_from w facts k || writes_at (after_all w facts) f k)
written-append w [] f k = or_ends (writes_at w f k)
written-append w (g ∷ facts) f k =
    ap (λ b. writes_at w g k || b) (written-append (after w g) facts f k)
    ∙ or_joins (writes_at w g k) (written_from (after w g) facts k) (writes_at (after_all (after w g) facts) f k)

after-append : (w : World) (facts : List UnitFacts) (f : UnitFacts) → after_all w (facts ++ f ∷ []) ≡ after (after_all w facts) f
after-append w [] f = refl
after-append w (g ∷ facts) f = after-append (after w g) facts f

pub behind-append : (a : AskedWorld) (facts : List UnitFacts) (f : UnitFacts) → behind_all a (facts ++ f ∷ []) ≡ behind_one (behind_all a facts) f
behind-append a [] f = refl
behind-append a (g ∷ facts) f = behind-append (behind_one a g) facts f

module _ {T O : Type 0} (unit : T → Asking O) (writes : O → UnitFacts) (bank : Key → Option Answer) where
  abbrev pub ways : Ways Key (Option Answer) (Unit {0}) T Step UnitFacts O
  ways = ways_of unit writes

  abbrev pub asked_world : List UnitFacts → AskedWorld
  asked_world written = behind_all at_first written

  abbrev pub world_over : List UnitFacts → World
  world_over written = after_all (start bank) written

  -- facts that were written, where these keys were seen
  pub record IsReady (seen : List Key) (written : List UnitFacts) : Type 0 where
    pub stands : Stands bank (asked_world written) (world_over written)
    pub covers : Covers bank seen (asked_world written) (world_over written) (λ k. is_written written bank k)

  ready-more : (seen : List Key) (written : List UnitFacts) (f : UnitFacts) → Stands bank (behind_one (asked_world written) f) (after (world_over written) f)
      → Covers bank seen (behind_one (asked_world written) f) (after (world_over written) f) (λ k. is_written written bank k || writes_at (world_over written) f k) → IsReady seen (written ++ f ∷ [])
  ready-more seen written f s c =
      let a = behind-append at_first written f in
      let w = after-append (start bank) written f in
      let g : (λ (k : Key). is_written (written ++ f ∷ []) bank k) ≡ (λ k. is_written written bank k || writes_at (world_over written) f k) = λ i k. written-append (start bank) written f k i in
      record {
        stands = subst (λ a. Stands bank a (world_over (written ++ f ∷ []))) (sym a) (subst (Stands bank (behind_one (asked_world written) f)) (sym w) s);
        covers =
            subst (λ a. Covers bank seen a (world_over (written ++ f ∷ [])) (λ k. is_written (written ++ f ∷ []) bank k)) (sym a)
            (subst (λ w. Covers bank seen (behind_one (asked_world written) f) w (λ k. is_written (written ++ f ∷ []) bank k)) (sym w)
            (subst (Covers bank seen (behind_one (asked_world written) f) (after (world_over written) f)) (sym g) c));
      }

  -- ---- the keys of a unit

  abbrev outer : List UnitFacts → Key → List Key
  outer written k = outer_of ways (record { written = written; key = k }) bank

  module _ (seen : List Key) (written : List UnitFacts) (ready : IsReady seen written) where
    abbrev a : AskedWorld
    a = asked_world written

    abbrev question : Key → Question Key UnitFacts
    question k = record { written = written; key = k }

    abbrev AreAnswered : List Key → List Key → Type 0
    AreAnswered now keys = All (λ k. Sees bank now (a.answers k)) keys

    -- the scopes that are open where the unit stands
    abbrev scopes : List Scope
    scopes = scopes_in (laid answered written bank Cursor)

    of-block : (path : List (List ℕ)) → NoneInside scopes path → IsOfBlock bank path
    of-block path none =
        scopes-before bank (λ s. length s.path ≤ length path) seen a.declares a.opened (scopes_in ((world_over written).answers Cursor)) ready.covers.scopes
        (subst (λ o. NoneInside (scopes_in o) path) (ready.stands.answers Cursor) none)

    written-sees : (now earlier : List Key) (k : Key) → AreIn seen now → AreAnswered now earlier → IsBehind scopes earlier k → is_written written bank k ≡ true → Sees bank now (a.answers k)
    written-sees now earlier (Introduced n path body) all known behind so =
        ready.covers.used_done n path body now (of-block path behind.1) all (All-contains (λ k. Sees bank now (a.answers k)) earlier (Declared n path) known behind.0) so
    written-sees now earlier Cursor all known behind so = sees-in bank seen now (a.answers Cursor) all (ready.covers.done Cursor tt so)
    written-sees now earlier (Declared n path) all known behind so = sees-in bank seen now (a.answers (Declared n path)) all (ready.covers.done (Declared n path) tt so)
    written-sees now earlier (Opened path) all known behind so = sees-in bank seen now (a.answers (Opened path)) all (ready.covers.done (Opened path) tt so)
    written-sees now earlier Nameless all known behind so = sees-in bank seen now (a.answers Nameless) all (ready.covers.done Nameless tt so)
    written-sees now earlier PrefixKey all known behind so = sees-in bank seen now (a.answers PrefixKey) all (ready.covers.done PrefixKey tt so)
    written-sees now earlier (IdOf path) all known behind so = sees-in bank seen now (a.answers (IdOf path)) all (ready.covers.done (IdOf path) tt so)
    written-sees now earlier (Typeprefix path) all known behind so = sees-in bank seen now (a.answers (Typeprefix path)) all (ready.covers.done (Typeprefix path) tt so)

    own-sees : (now earlier : List Key) (k : Key) → AreIn seen now → AreAnswered now earlier → IsBehind scopes earlier k → Sees bank (now ++ k ∷ []) (a.answers k)
    own-sees now earlier (Introduced n path body) all known behind =
        ready.covers.used n path body now (of-block path behind.1) all (All-contains (λ k. Sees bank now (a.answers k)) earlier (Declared n path) known behind.0)
    own-sees now earlier Cursor all known behind = sees-in bank (seen ++ Cursor ∷ []) (now ++ Cursor ∷ []) (a.answers Cursor) (in-push seen now Cursor all) (ready.covers.own Cursor tt)
    own-sees now earlier (Declared n path) all known behind =
        let k : Key = Declared n path in sees-in bank (seen ++ k ∷ []) (now ++ k ∷ []) (a.answers k) (in-push seen now k all) (ready.covers.own k tt)
    own-sees now earlier (Opened path) all known behind =
        let k : Key = Opened path in sees-in bank (seen ++ k ∷ []) (now ++ k ∷ []) (a.answers k) (in-push seen now k all) (ready.covers.own k tt)
    own-sees now earlier Nameless all known behind =
        let k : Key = Nameless in sees-in bank (seen ++ k ∷ []) (now ++ k ∷ []) (a.answers k) (in-push seen now k all) (ready.covers.own k tt)
    own-sees now earlier PrefixKey all known behind =
        let k : Key = PrefixKey in sees-in bank (seen ++ k ∷ []) (now ++ k ∷ []) (a.answers k) (in-push seen now k all) (ready.covers.own k tt)
    own-sees now earlier (IdOf path) all known behind =
        let k : Key = IdOf path in sees-in bank (seen ++ k ∷ []) (now ++ k ∷ []) (a.answers k) (in-push seen now k all) (ready.covers.own k tt)
    own-sees now earlier (Typeprefix path) all known behind =
        let k : Key = Typeprefix path in sees-in bank (seen ++ k ∷ []) (now ++ k ∷ []) (a.answers k) (in-push seen now k all) (ready.covers.own k tt)

    -- a key that is asked is known
    one-known : (now earlier : List Key) (k : Key) → AreIn seen now → AreAnswered now earlier → IsBehind scopes earlier k → IsKnown ways now (question k) bank
    one-known now earlier k all known behind = record {
      within = inside (is_written written bank k) refl;
      whole = whole (is_written written bank k) refl;
      own = λ unwritten. ready.stands.answers k ∙ unwritten_all written (start bank) k unwritten;
    }
      where
        of : Bool → List Key
        of b = cond b [] (k ∷ [])

        inside : (b : Bool) → is_written written bank k ≡ b → Sees bank (now ++ cond b [] (k ∷ [])) (a.answers k)
        inside true so = subst (λ ks. Sees bank ks (a.answers k)) (sym (append-nil now)) (written-sees now earlier k all known behind so)
        inside false so = own-sees now earlier k all known behind

        whole : (b : Bool) → is_written written bank k ≡ b → All (Contains (asked (a.answers k) bank)) (cond b [] (k ∷ []))
        whole true so = All-nil (Contains (asked (a.answers k) bank))
        whole false so = All-cons (Contains (asked (a.answers k) bank)) k [] (ready.covers.whole k so) (All-nil (Contains (asked (a.answers k) bank)))

    -- and so are those of a unit
    record AreAsked (now earlier keys : List Key) : Type 0 where
      are_seen : AreSeen ways now (map question keys) bank
      are_answered : AreAnswered (now ++ flat_map (λ q. outer_of ways q bank) (map question keys)) (earlier ++ keys)

    keys-asked : (now earlier keys : List Key) → AreIn seen now → AreAnswered now earlier → AreBehind scopes earlier keys → AreAsked now earlier keys
    keys-asked now earlier [] all known behind = record {
      are_seen = tt;
      are_answered = subst (λ ks. AreAnswered (now ++ []) ks) (sym (append-nil earlier)) (subst (λ ks. AreAnswered ks earlier) (sym (append-nil now)) known);
    }
    keys-asked now earlier (k ∷ keys) all known behind =
        let o : List Key = outer written k in
        let one : IsKnown ways now (question k) bank = one-known now earlier k all known behind.0 in
        let then : List Key = now ++ o in
        let before : AreAnswered then earlier = All-weaker (λ q. Sees bank now (a.answers q)) (λ q. Sees bank then (a.answers q)) (λ q h. sees-more bank now o (a.answers q) h) earlier known in
        let P : Key → Type 0 = λ q. Sees bank then (a.answers q) in
        let rest = keys-asked then (earlier ++ k ∷ []) keys (in-more seen now o all) (All-append P earlier (k ∷ []) before (All-cons P k [] one.within (All-nil P))) behind.1 in
        let flat : List Key = flat_map (λ q. outer_of ways q bank) (map question keys) in
        record {
          are_seen = (one, rest.are_seen);
          are_answered =
              subst (λ ks. AreAnswered ks (earlier ++ (k ∷ keys))) (append_assoc now o flat)
              (subst (AreAnswered (then ++ flat)) (append_assoc earlier (k ∷ []) keys) rest.are_answered);
        }

  -- ---- parts

  seen-append : (now : List Key) (qs more : List (Question Key UnitFacts)) → AreSeen ways now qs bank → AreSeen ways (now ++ flat_map (λ q. outer_of ways q bank) qs) more bank
      → AreSeen ways now (qs ++ more) bank
  seen-append now [] more first then = subst (λ ks. AreSeen ways ks more bank) (append-nil now) then
  seen-append now (q ∷ qs) more first then = (
    first.0,
    seen-append (now ++ outer_of ways q bank) qs more first.1
        (subst (λ ks. AreSeen ways ks more bank) (sym (append_assoc now (outer_of ways q bank) (flat_map (λ q. outer_of ways q bank) qs))) then),
  )

  step-seen : (now keys : List Key) (written : List UnitFacts) (f : UnitFacts) → Contains keys Cursor → HasAskedStep keys f → ((k : Key) → Contains keys k → Sees bank now ((asked_world written).answers k))
      → StepSeen bank now (asked_world written) (λ k. is_written written bank k || adds_at (world_over written) f k) f.step
  step-seen now keys written f cursor asked known = by f.step asked
    where
      by : (step : Step) → HasAskedStep keys (record f { step = step }) → StepSeen bank now (asked_world written) (λ k. is_written written bank k || adds_at (world_over written) f k) step
      by Stays h = tt
      by (Opens path kind) h = (
        known Cursor cursor,
        (
          known (Opened path) h.0,
          λ is. (let d = h.1 is in or-right (is_written written bank (entity_key path)) (adds_at (world_over written) f (entity_key path))
              (declared-adds (world_over written).answers (entity_key path) d.0 f.additions d.1)),
        ),
      )
      by (OpensNameless kind) h = (known Cursor cursor, known Nameless h)
      by Closes h = known Cursor cursor
      by (Prefixes text) h = known Cursor cursor
      by Enters h = tt
      by Leaves h = tt

  boundary-ready : (seen : List Key) (written : List UnitFacts) (step : Step) → IsReady seen written → IsTold (world_over written) (boundary step)
      → StepSeen bank seen (asked_world written) (λ k. is_written written bank k || adds_at (world_over written) (boundary step) k) step → IsReady seen (written ++ boundary step ∷ [])
  boundary-ready seen written step ready told there =
      let a : AskedWorld = asked_world written in
      let w : World = world_over written in
      let none : (e : Entity) → Contains [] (Declares e) → Sees bank seen (a.answers (entity_key e.path)) × All (λ b. Sees bank seen (a.answers (entity_key b))) e.bases = λ e h. absurd (omega (arith, h.1)) in
      ready-more seen written (boundary step)
      (stands-fact bank seen a w (λ k. is_written written bank k) ready.covers ready.stands (boundary step) told none there)
      (covers-fact bank seen a w (λ k. is_written written bank k) ready.covers ready.stands (boundary step) told none there)

  -- what goes on behind a part: its keys are known, and more is written where these were seen, too
  pub record IsPassed (seen : List Key) (part : Part T Step) (written : List UnitFacts) : Type 0 where
    pub are_seen : AreSeen ways seen (map (λ k. record { written = written; key = k }) (asked_by ways part written bank)) bank
    pub ready : IsReady (seen ++ flat_map (λ q. outer_of ways q bank) (map (λ k. record { written = written; key = k }) (asked_by ways part written bank))) (written ++ facts_at unit writes bank part written ∷ [])
    pub hidden : (kind : Kind) → (facts_at unit writes bank part written).step ≡ OpensNameless kind
        → let now = seen ++ flat_map (λ q. outer_of ways q bank) (map (λ k. record { written = written; key = k }) (asked_by ways part written bank)) in
        Sees bank now ((asked_world written).answers Cursor) × Sees bank now ((asked_world written).answers Nameless)

  pub part-passed : (seen : List Key) (part : Part T Step) (written : List UnitFacts) → IsReady seen written
      → AsksEnough unit writes bank part written × IsTold (world_over written) (facts_at unit writes bank part written) → IsPassed seen part written
  part-passed seen (Boundary step) written ready enough = record {
    are_seen = tt;
    ready = subst (λ ks. IsReady ks (written ++ boundary step ∷ [])) (sym (append-nil seen)) (by step enough.0 enough.1);
    hidden = λ kind is. none step enough.0 kind is;
  }
    where
      by : (step : Step) → AsksEnough unit writes bank (Boundary step) written → IsTold (world_over written) (boundary step) → IsReady seen (written ++ boundary step ∷ [])
      by Enters asks told = boundary-ready seen written Enters ready told tt
      by Leaves asks told = boundary-ready seen written Leaves ready told tt
      by other asks told = absurd asks

      none : (step : Step) → AsksEnough unit writes bank (Boundary step) written → (kind : Kind) → step ≡ OpensNameless kind
          → Sees bank (seen ++ []) ((asked_world written).answers Cursor) × Sees bank (seen ++ []) ((asked_world written).answers Nameless)
      none Enters asks kind is = cc
      none Leaves asks kind is = cc
      none other asks kind is = absurd asks
  part-passed seen (Text t) written ready enough =
      let bank_here : Key → Option Answer = laid answered written bank in
      let keys : List Key = asked (unit t) bank_here in
      let f : UnitFacts = writes (outcome (unit t) bank_here) in
      let has : HasAsked (scopes_in (bank_here Cursor)) keys f = enough.0 in
      let qs : List (Question Key UnitFacts) = map (λ k. record { written = written; key = k }) keys in
      let a : AskedWorld = asked_world written in
      let w : World = world_over written in
      let all = keys-asked seen written ready seen [] keys (in-itself seen) (All-nil (λ k. Sees bank seen (a.answers k))) has.behind in
      let o : List Key = flat_map (λ q. outer_of ways q bank) qs in
      let now : List Key = seen ++ o in
      let known : (k : Key) → Contains keys k → Sees bank now (a.answers k) = λ k there. All-contains (λ k. Sees bank now (a.answers k)) keys k all.are_answered there in
      let c : Covers bank now a w (λ k. is_written written bank k) = covers-in bank seen now a w (λ k. is_written written bank k) (in-more seen seen o (in-itself seen)) ready.covers in
      let declared : (e : Entity) → Contains f.additions (Declares e) → Sees bank now (a.answers (entity_key e.path)) × All (λ b. Sees bank now (a.answers (entity_key b))) e.bases =
      λ e there. (let h = has.declared e there in (
        known (entity_key e.path) h.0,
        All-weaker (λ b. Contains keys (entity_key b)) (λ b. Sees bank now (a.answers (entity_key b))) (λ b there. known (entity_key b) there) e.bases h.1,
      )) in
      let there = step-seen now keys written f has.cursor has.step known in
      record {
        are_seen = all.are_seen;
        ready =
            ready-more now written f
            (stands-fact bank now a w (λ k. is_written written bank k) c ready.stands f enough.1 declared there)
            (covers-fact bank now a w (λ k. is_written written bank k) c ready.stands f enough.1 declared there);
        hidden = λ kind is. (
          known Cursor has.cursor,
          known Nameless (subst (λ step. HasAskedStep keys (record f { step = step })) is has.step),
        );
      }

  parts-seen : (seen : List Key) (parts : List (Part T Step)) (written : List UnitFacts) → IsReady seen written → AskEnough unit writes bank parts written
      → AreSeen ways seen (questions ways parts written bank) bank
  parts-seen seen [] written ready enough = tt
  parts-seen seen (part ∷ parts) written ready enough =
      let f : UnitFacts = facts_at unit writes bank part written in
      let p : IsPassed seen part written = part-passed seen part written ready enough.0 in
      let qs : List (Question Key UnitFacts) = map (λ k. record { written = written; key = k }) (asked_by ways part written bank) in
      let now : List Key = seen ++ flat_map (λ q. outer_of ways q bank) qs in
      seen-append seen qs (questions ways parts (written_after ways part written bank) bank) p.are_seen (then part (parts-seen now parts (written ++ f ∷ []) p.ready enough.1))
    where
      then : (part : Part T Step) → AreSeen ways (seen ++ flat_map (λ q. outer_of ways q bank) (map (λ k. record { written = written; key = k }) (asked_by ways part written bank))) (questions ways parts (written ++ facts_at unit writes bank part written ∷ []) bank) bank
          → AreSeen ways (seen ++ flat_map (λ q. outer_of ways q bank) (map (λ k. record { written = written; key = k }) (asked_by ways part written bank))) (questions ways parts (written_after ways part written bank) bank) bank
      then (Boundary step) h = h
      then (Text t) h = h

  -- ---- where the file is entered

  abbrev pub entered : List UnitFacts
  entered = boundary Enters ∷ []

  first-own : (k : Key) → Sees bank (k ∷ []) ((asked_world entered).answers k)
  first-own PrefixKey = All-nil (Contains (PrefixKey ∷ []))
  first-own Cursor = in-itself (Cursor ∷ [])
  first-own (Declared n path) = in-itself (Declared n path ∷ [])
  first-own (Introduced n path body) = in-itself (Introduced n path body ∷ [])
  first-own (Opened path) = in-itself (Opened path ∷ [])
  first-own Nameless = in-itself (Nameless ∷ [])
  first-own (IdOf path) = in-itself (IdOf path ∷ [])
  first-own (Typeprefix path) = in-itself (Typeprefix path ∷ [])

  first-done : (k : Key) → is_written entered bank k ≡ true → Sees bank [] ((asked_world entered).answers k)
  first-done PrefixKey h = All-nil (Contains [])
  first-done Cursor h = cc
  first-done (Declared n path) h = cc
  first-done (Introduced n path body) h = cc
  first-done (Opened path) h = cc
  first-done Nameless h = cc
  first-done (IdOf path) h = cc
  first-done (Typeprefix path) h = cc

  first-whole : (k : Key) → is_written entered bank k ≡ false → Contains (asked ((asked_world entered).answers k) bank) k
  first-whole PrefixKey h = cc
  first-whole Cursor h = Contains-push [] Cursor
  first-whole (Declared n path) h = Contains-push [] (Declared n path)
  first-whole (Introduced n path body) h = Contains-push [] (Introduced n path body)
  first-whole (Opened path) h = Contains-push [] (Opened path)
  first-whole Nameless h = Contains-push [] Nameless
  first-whole (IdOf path) h = Contains-push [] (IdOf path)
  first-whole (Typeprefix path) h = Contains-push [] (Typeprefix path)

  pub first-ready : IsReady [] entered
  first-ready = record {
    stands = step-stands bank (with_added [] at_first) (with_additions [] (start bank)) (added-stands bank at_first (start bank) (first-stands bank) [] (All-nil (AreStops bank))) Enters tt tt;
    covers = record {
      own = λ k plain. first-own k;
      done = λ k plain h. first-done k h;
      used = λ n path body more of all there. sees-in bank (Introduced n path body ∷ []) (more ++ Introduced n path body ∷ []) ((asked_world entered).answers (Introduced n path body))
          (in-push [] more (Introduced n path body) (All-nil (Contains more))) (first-own (Introduced n path body));
      used_done = λ n path body more of all there h. cc;
      whole = first-whole;
      prefix = refl;
      opens = All-nil (Sees bank []);
      enters = tt;
      entities = tt;
      scopes = refl;
      bases = λ n path e h is. cc;
    };
  }

  -- what a block asks beside its outer keys was asked by then
  pub known-block : (parts : List (Part T Step)) → AskEnough unit writes bank parts entered → AreKnown ways parts entered bank
  known-block parts enough = parts-seen [] parts entered first-ready enough
