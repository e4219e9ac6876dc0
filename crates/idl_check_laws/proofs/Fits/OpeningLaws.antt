-- A unit that opens an interface fits the facts before it: its bases are closed, and nothing is declared in it yet.
use Rattle.std.proofs.Common.{◌≡◌, ◌∙◌, ℕ, ◌≤◌, Bool, true, false, cond, List, [], ◌∷◌, ◌++◌, length, Option, Some, None, Result, Ok, Err, refl, sym, ap, subst, arith, inl, inr}
use Rattle.std.specs.Prelude.{fold}
use Rattle.idl_check.proofs.UseLemmas.{DeclareNone, uses-none}
use Rattle.idl_scope.specs.declared.found.Reach.{Reach}
use Rattle.idl_check_laws.proofs.Fits.ClosingLaws.{IsFitting, IsSettled, added-names, cursor-kept, under-around}
use Rattle.idl_check_laws.proofs.Fits.GrowingLaws.{IsGrown, declares-one}
use Rattle.idl_check.proofs.PartLemmas.{IsUpTo}
use Rattle.idl_check_laws.proofs.Fits.ReachedLaws.{Names, kept-at, own, there}
use Rattle.idl_check_laws.proofs.Fits.SettledLaws.{Added, IsFound, IsHeld, IsOpened, IsScope, IsDefined, IsUnder, Stood, Was, closed-keeps, is_nameless, over, path_same, stood}
use Rattle.idl_check.proofs.Visits.SiteLaws.{declared_by, denoted-up, used_by, visited}
use Rattle.idl_check.proofs.Faults.VisitFaults.{visit_faults}
use Rattle.idl_check.proofs.Visits.WalkLaws.{none-append}
use Rattle.idl_check_laws.proofs.Fits.WalkedLaws.{additions_of, ends-grown, first-walks, sites-walk}
use Rattle.idl_check_laws.proofs.Fits.WalkingLaws.{AreSited, D, Walks, scopes}
use Rattle.idl_check_laws.proofs.Nests.Scenes.{Scene}
use Rattle.idl_check.specs.tables.Declaring.{entity_of, finished, standing, stays, with_declared, with_finished}
use Rattle.idl_check.specs.ids.Identifying.{with_identity}
use Rattle.idl_check.specs.told.Bodies.{raising}
use Rattle.idl_check.specs.walk.Judging.{walked}
use Rattle.idl_check.specs.told.Types.{looked_through}
use Rattle.idl_check.specs.tables.Using.{uses_of, with_uses}
use Rattle.idl_check.specs.walk.Walk.{Visit, Walk, declared_visit, first_walk, passed, turns_at, used, used_visit, visit}
use Rattle.idl_check.specs.declared.ids.identifying.Ids.{Ids}
use Rattle.idl_check.specs.declared.tables.standing.Standing.{Standing}
use Rattle.idl_lex.specs.kinds.Keywords.{folded}
use Rattle.idl_memo.proofs.QueryLaws.{outcome-and_then}
use Rattle.idl_memo.specs.Query.{Done, outcome}
use Rattle.idl_scope.proofs.Constructors.{some_same, none_some}
use Rattle.idl_env.proofs.FirstLemmas.{addition_at-with_addition}
use Rattle.idl_env.proofs.Membership.{IsIn-Contains}
use Rattle.idl_env.specs.keys.Digested.{key_equiv}
use Rattle.idl_env.specs.Facts.{UnitFacts, addition_at, answer_of, answers, entity_in, entity_key, next_body, path_around, scopes_in, unstopped, with_addition, with_additions, world}
use Rattle.idl_env.specs.keys.Key.{key_eq}
use Rattle.idl_scope.specs.Lookup.{denoted, under}
use Rattle.idl_entity.specs.Path.{name_of, scope_of}
use Rattle.idl_env.specs.Turns.{turns_for}
use Rattle.idl_env.specs.declared.additions.addition.Addition.{Addition}
use Rattle.idl_env.specs.declared.additions.addition.Addition.TheVariants.{Declares}
use Rattle.idl_env.specs.declared.additions.addition.Step.TheVariants.{Opens}
use Rattle.idl_env.specs.declared.answering.answer.Answer.{Answer}
use Rattle.idl_env.specs.declared.answering.answer.Scope.{Scope}
use Rattle.idl_entity.specs.declared.entity.Entity.{Entity}
use Rattle.idl_scope.specs.declared.fault.NameFault.{NameFault}
use Rattle.idl_scope.specs.declared.fault.NameFault.TheVariants.{At as Faulty, Memory}
use Rattle.idl_scope.specs.declared.found.Found.{Found}
use Rattle.idl_env.specs.declared.keys.key.Key.TheVariants.{Cursor}
use Rattle.idl_entity.specs.declared.kind.Kind.TheVariants.{Interface}
use Rattle.idl_entity.specs.declared.kind.Stage.TheVariants.{Open}
use Rattle.idl_parts.specs.Item.{Item}
use Rattle.idl_parts.specs.Part.{Part as item}
use Rattle.idl_parts.specs.declared.part.Declaration.TheVariants as declaration
use Rattle.idl_parts.specs.declared.part.Use.TheVariants.{AsBase}
use Rattle.idl_tree.specs.declared.name.ScopedName.{ScopedName}
use Rattle.idl_unit.specs.TokenRules.{first}

-- ---- sites that declare nothing

-- tokens and bases of an interface
abbrev pub AreRest : List Item → Type 0
AreRest [] = Unit {0}
AreRest (item.Plain n ∷ sites) = AreRest sites
AreRest (item.Uses (AsBase is_local) name ∷ sites) = AreRest sites
AreRest (other ∷ sites) = ⊥

pub rest-sited : (sites : List Item) (s : Scene) → AreRest sites → AreSited sites s
rest-sited [] s h = tt
rest-sited (item.Plain n ∷ sites) s h = (tt, rest-sited sites s h)
rest-sited (item.Uses (AsBase is_local) name ∷ sites) s h = (tt, rest-sited sites s h)
rest-sited (other ∷ sites) s h = absurd h

-- nothing more is declared behind them
pub record IsRest (w v : Walk) : Type 0 where
  pub begun : v.begun ≡ w.begun
  pub last : v.last ≡ w.last
  pub found : (x : Entity) → IsFound v.own x → IsFound w.own x

all-found : (uses : List Addition) → DeclareNone uses → (additions : List Addition) (x : Entity) → IsFound (fold with_addition additions uses) x → IsFound additions x
all-found [] none additions x h = h
all-found (a ∷ uses) none additions x h =
    sym (addition_at-with_addition additions a (entity_key x.path) ∙ ap (λ t. cond t (Some a) (addition_at additions (entity_key x.path))) (none.0 (folded (name_of x.path)) (scope_of x.path)))
    ∙ all-found uses none.1 (with_addition additions a) x h

uses-found : (n : List ℕ) (r : Reach) (scopes : List Scope) (additions : List Addition) (x : Entity) → IsFound (with_uses n r scopes additions) x → IsFound additions x
uses-found n r scopes additions x h = all-found (uses_of n r scopes additions) (uses-none n r scopes additions) additions x h

module _ (facts : List UnitFacts) (k : IsSettled (world facts)) (turns : ℕ) (enough : turns_for facts ≤ turns) where
  abbrev names : Names
  names = D facts k turns enough

  abbrev around : List Scope
  around = scopes facts k turns enough

  used-by-rest : (is_local : Bool) (name : ScopedName) (w : Walk) (r : Result Found NameFault) → IsUpTo {A = Found} (length name.rest) r
      → (outcome (used_by turns (answers facts) (AsBase is_local) name w r) (answers facts)).faults ≡ [] → IsRest w (outcome (used_by turns (answers facts) (AsBase is_local) name w r) (answers facts)).after
  used-by-rest is_local name w (Ok found) up none =
      let query = under w.own (looked_through (turns_at turns w) (AsBase is_local) found.entity) in
      let same = outcome-and_then query (λ behind. Done (used_visit w (AsBase is_local) name found behind)) (answers facts) in
      subst (λ (v : Visit). IsRest w v.after) (sym same) (record { begun = refl; last = refl; found = λ x h. uses-found (folded name.first) found.reach w.cursor w.own x h })
  used-by-rest is_local name w (Err (Faulty why part)) up none = cc
  used-by-rest is_local name w (Err Memory) up none = absurd up

  used-rest : (is_local : Bool) (name : ScopedName) (w : Walk) → (outcome (used turns (AsBase is_local) name w) (answers facts)).faults ≡ [] → IsRest w (outcome (used turns (AsBase is_local) name w) (answers facts)).after
  unfolding used
  used-rest is_local name w none =
      let query = under w.own (denoted (turns_at turns w) w.cursor name) in
      let same = outcome-and_then query (used_by turns (answers facts) (AsBase is_local) name w) (answers facts) in
      subst (λ (v : Visit). IsRest w v.after) (sym same)
      (used-by-rest is_local name w (outcome query (answers facts)) (denoted-up turns (answers facts) name w) (ap (λ (v : Visit). v.faults) (sym same) ∙ none))

  rest-on : (w v u : Walk) → IsRest w v → IsRest v u → IsRest w u
  rest-on w v u g h = record { begun = h.begun ∙ g.begun; last = h.last ∙ g.last; found = λ x f. g.found x (h.found x f) }

  sites-rest : (sites : List Item) (w : Walk) → AreRest sites → visit_faults turns (answers facts) sites w ≡ [] → IsRest w (walked turns (answers facts) sites w)
  unfolding visit
  sites-rest [] w h none = record { begun = refl; last = refl; found = λ x f. f }
  sites-rest (item.Plain n ∷ sites) w h none =
      let v = visited turns (answers facts) (item.Plain n) w in
      let parts = none-append v.faults (visit_faults turns (answers facts) sites v.after) none in
      rest-on w (passed n w) (walked turns (answers facts) sites (passed n w)) (record { begun = refl; last = refl; found = λ x f. f }) (sites-rest sites (passed n w) h parts.1)
  sites-rest (item.Uses (AsBase is_local) name ∷ sites) w h none =
      let v = visited turns (answers facts) (item.Uses (AsBase is_local) name) w in
      let parts = none-append v.faults (visit_faults turns (answers facts) sites v.after) none in
      rest-on w v.after (walked turns (answers facts) sites v.after) (used-rest is_local name w parts.0) (sites-rest sites v.after h parts.1)
  sites-rest (other ∷ sites) w h none = absurd h

  -- ---- the name of the interface

  pub identity-found : (o : Option Entity) (ids : Option Ids) (e x : Entity) → IsFound (with_identity o ids e []) x → ⊥
  identity-found (Some old) ids e x h = none_some h
  identity-found None None e x h = none_some h
  identity-found None (Some ids) e x h = none_some h

  one-found : (st : Standing) (e x : Entity) → IsFound (with_declared st e []) x → e ≡ x
  one-found st e x h = by_stays (stays st.there e) h
    where
      xs : List Addition
      xs = with_identity st.there st.ids e []

      by_key : (b : Bool) → cond b (Some (Declares e)) (addition_at (with_identity st.there st.ids e []) (entity_key x.path)) ≡ Some (Declares x) → e ≡ x
      by_key true g = declares-one e x g
      by_key false g = absurd (identity-found st.there st.ids e x g)

      by_stays : (b : Bool) → IsFound (cond b (with_identity st.there st.ids e []) (with_addition (with_identity st.there st.ids e []) (Declares e))) x → e ≡ x
      by_stays true g = absurd (identity-found st.there st.ids e x g)
      by_stays false g =
          by_key (key_eq (entity_key x.path) (entity_key e.path)) (sym (addition_at-with_addition (with_identity st.there st.ids e []) (Declares e) (entity_key x.path)) ∙ g)

  -- behind it that one alone is declared, and has begun
  record HasBegun (v : Walk) (e : Entity) : Type 0 where
    begun : v.begun ≡ e ∷ []
    last : v.last ≡ Some e
    found : (x : Entity) → IsFound v.own x → e ≡ x

  has-begun : (n : ℕ) (is_local : Bool) (name : List ℕ) (s : Scope) (outer : List Scope) → around ≡ s ∷ outer
      → let w : Walk = passed n (first_walk around) in
      HasBegun (outcome (declared_by turns (answers facts) (declaration.Interface is_local) name w (first around)) (answers facts)).after (entity_of w.written (declaration.Interface is_local) name s.path)
  has-begun n is_local name s outer is =
      let w : Walk = passed n (first_walk around) in
      let way = declaration.Interface is_local in
      let e = entity_of w.written way name s.path in
      let query = under w.own (standing (turns_at turns w) s e) in
      let same = outcome-and_then query (λ there. Done (declared_visit w way s e there)) (answers facts) in
      let here : outcome (declared_by turns (answers facts) way name w (first around)) (answers facts) ≡ declared_visit w way s e (outcome query (answers facts)) =
      ap (λ ss. outcome (declared_by turns (answers facts) way name w (first ss)) (answers facts)) is ∙ same in
      subst (λ (v : Visit). HasBegun v.after e) (sym here) (record { begun = refl; last = refl; found = one-found (outcome query (answers facts)) e })

  module _ (n : ℕ) (is_local : Bool) (name : List ℕ) (rest : List Item) (plain : AreRest rest) (named : is_nameless name ≡ false) (s : Scope) (outer : List Scope) (is : around ≡ s ∷ outer)
      (none : visit_faults turns (answers facts) (item.Plain n ∷ item.Declares (declaration.Interface is_local) name ∷ rest) (first_walk around) ≡ []) where
    abbrev sites : List Item
    sites = item.Plain n ∷ item.Declares (declaration.Interface is_local) name ∷ rest

    abbrev w : Walk
    w = walked turns (answers facts) sites (first_walk around)

    abbrev e : Entity
    e = entity_of (passed n (first_walk around)).written (declaration.Interface is_local) name s.path

    abbrev f : Entity
    f = record e { stage = Open; bases = w.bases.paths }

    behind : HasBegun w e
    unfolding visit
    behind =
        let u = visited turns (answers facts) (item.Declares (declaration.Interface is_local) name) (passed n (first_walk around)) in
        let b = has-begun n is_local name s outer is in
        let r = sites-rest rest u.after plain (none-append u.faults (visit_faults turns (answers facts) rest u.after) none).1 in
        record { begun = r.begun ∙ b.begun; last = r.last ∙ b.last; found = λ x h. b.found x (r.found x h) }

    walks : (t : Scene) × Walks facts k turns enough w t
    walks =
        sites-walk facts k turns enough sites (first_walk around) (record { level = 0; last = None }) (first-walks facts k turns enough)
        (tt, ((refl, (named, λ z. cc)), rest-sited rest (record { level = 0; last = None }) plain)) none

    abbrev xs : List Addition
    xs = with_addition w.own (Declares f)

    is-additions : additions_of facts k turns enough w ≡ xs
    is-additions =
        let finish = finished w.bases.paths w.values.constant w.clauses in
        ap (λ es. with_finished finish w.own (es ++ raising w.last w.clauses)) behind.begun ∙ ap (λ o. with_finished finish w.own ((e ∷ []) ++ raising o w.clauses)) behind.last

    grown : IsGrown names around xs
    grown = subst (IsGrown names around) is-additions (ends-grown facts k turns enough w walks.0 walks.1)

    found-f : IsFound xs f
    found-f = addition_at-with_addition w.own (Declares f) (entity_key f.path) ∙ ap (λ t. cond t (Some (Declares f)) (addition_at w.own (entity_key f.path))) (key_equiv.refl (entity_key f.path))

    in-scope : (x : Entity) → IsFound xs x → x.path ≡ name ∷ s.path
    in-scope x h = by_key (key_eq (entity_key x.path) (entity_key f.path)) (sym (addition_at-with_addition w.own (Declares f) (entity_key x.path)) ∙ h)
      where
        by_key : (t : Bool) → cond t (Some (Declares f)) (addition_at w.own (entity_key x.path)) ≡ Some (Declares x) → x.path ≡ name ∷ s.path
        by_key true g = ap (λ (z : Entity). z.path) (sym (declares-one f x g))
        by_key false g = ap (λ (z : Entity). z.path) (sym (behind.found x g))

    abbrev after : Names
    after = over xs names

    own-before : (m : List ℕ) → own names m (name ∷ s.path) ≡ None
    own-before m = by_own (own names m (name ∷ s.path)) refl
      where
        no : IsScope IsDefined names (name ∷ s.path) → ⊥
        no (inl global) = cc
        no (inr (inl less)) = let z : true ≡ false = sym less ∙ named in cc
        no (inr (inr y)) = y.3 ((grown.added f found-f).fresh y.0 y.1).0

        by_own : (o : Option Entity) → own names m (name ∷ s.path) ≡ o → o ≡ None
        by_own None h = refl
        by_own (Some y) h = absurd (no (k.placed m (name ∷ s.path) y h))

    own-none : (m : List ℕ) → own after m (name ∷ s.path) ≡ None
    own-none m = by_stood (stood names xs m (name ∷ s.path))
      where
        by_stood : Stood names xs m (name ∷ s.path) → own after m (name ∷ s.path) ≡ None
        by_stood (Was same) = same ∙ own-before m
        by_stood (Added x found key now) =
            let scope : name ∷ s.path ≡ s.path = path_same m (folded (name_of x.path)) (name ∷ s.path) (scope_of x.path) key ∙ ap scope_of (in-scope x found) in
            let longer = ap length scope in
            absurd (let nothing : ⊥ = omega (arith, longer) in nothing)

    there-f : there after (name ∷ s.path) ≡ Some f
    there-f = ap (λ o. entity_in (elim o as (λ _. Option Answer) [ None ↦ names (folded name) s.path | Some a ↦ Some (answer_of a) ])) found-f

    opened : (body : ℕ) → IsOpened after (record { path = name ∷ s.path; kind = Interface; body = body }) []
    opened body = record {
      place = inr (inr (f, there-f, refl, (λ z. cc, λ interface z. cc)));
      kind = λ g h at. ap (λ (z : Entity). z.kind) (sym (some_same (sym there-f ∙ h)));
      held = λ g h at interface. subst (λ z. IsHeld after z []) (some_same (sym there-f ∙ h)) (record {
        stage = refl;
        mine = λ m x there operation. absurd (none_some (sym (own-none m) ∙ there));
        base = λ b i. kept-at names after (closed-keeps names around (world facts).inside xs k grown.added grown.once) b (walks.1.bases b (IsIn-Contains b w.bases.paths i));
        told = λ q i. absurd i;
        apart = λ m x t operation. own-none m;
      });
    }

    pub opening-fits : IsFitting (world facts) (record { additions = additions_of facts k turns enough w; step = Opens (name ∷ path_around around) Interface })
    opening-fits =
        let ys = additions_of facts k turns enough w in
        let u = with_additions ys (world facts) in
        let ended = ends-grown facts k turns enough w walks.0 walks.1 in
        let same : u.answers Cursor ≡ answers facts Cursor = ap (λ o. elim o as (λ _. Option Answer) [ None ↦ answers facts Cursor | Some a ↦ Some (answer_of a) ]) (cursor-kept (unstopped (answers facts) ys)) in
        let path : s.path ≡ path_around around = sym (ap path_around is) in
        record {
          once = ended.once;
          added = ended.added;
          step = (
            subst (λ ns. IsOpened ns (record { path = name ∷ path_around around; kind = Interface; body = next_body u (name ∷ path_around around) }) []) (sym (added-names (world facts) ys))
                (subst (λ zs. IsOpened (over zs names) (record { path = name ∷ path_around around; kind = Interface; body = next_body u (name ∷ path_around around) }) []) (sym is-additions)
                (subst (λ q. IsOpened after (record { path = name ∷ q; kind = Interface; body = next_body u (name ∷ q) }) []) path (opened (next_body u (name ∷ s.path))))),
            subst (λ o. IsUnder (record { path = name ∷ path_around around; kind = Interface; body = next_body u (name ∷ path_around around) }) (scopes_in o)) (sym same)
                (under-around name Interface (next_body u (name ∷ path_around around)) around),
          );
        }
