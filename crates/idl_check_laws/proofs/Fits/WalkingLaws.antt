-- A walk over the sites of a unit that is no module and declares nothing ahead: what it adds fits the facts before it.
use Rattle.std.proofs.Common.{◌≡◌, ◌∙◌, ℕ, zero, suc, ◌≤◌, ◌<◌, Bool, true, false, cond, List, [], ◌∷◌, length, Option, Some, None, refl, sym, ap, subst, arith, inl, inr}
use Rattle.std.proofs.lemmas.Bool.{and_parts, not-false}
use Rattle.std.specs.List.{list_any}
use Rattle.std.specs.Prelude.{◌≢◌, ◌&&◌, ◌||◌, is_some}
use Rattle.idl_check_laws.proofs.Fits.ClosingLaws.{IsSettled}
use Rattle.idl_check_laws.proofs.Fits.GrowingLaws.{Grows, IsGrown, IsMine, IsNew, grows-beside, grows-none, grows-on, grows-with, found-new, same-names}
use Rattle.idl_check_laws.proofs.Fits.InheritedLaws.{standing-inherited}
use Rattle.idl_check_laws.proofs.Nests.Scenes.{Scene, is_operation_way, is_other, scene_after}
use Rattle.idl_check_laws.proofs.Fits.ReachedLaws.{IsClosedAt, Names, Place, names_in, only, own, there, through-on, through-only}
use Rattle.idl_check_laws.proofs.Fits.SettledLaws.{Added, AreOpened, IsDefined, IsFound, IsNamed, IsNameless, IsOpen, IsOpened, IsPlace, IsScope, IsUnder, Stood, Was, closed-keeps, is_nameless, named-global, named-nameless, over, scope-stays, stood, there-stays}
use Rattle.idl_check.proofs.Faults.TableLaws.{no-codes, no-row}
use Rattle.idl_check.specs.told.Bodies.{Body}
use Rattle.idl_check.specs.tables.Codes.{codes_in, faults_by}
use Rattle.idl_check.specs.tables.Declaring.{declared_table, entity_of, inherited, is_any, standing, stays, with_declared}
use Rattle.idl_check.specs.ids.Identifying.{ids_of, with_identity}
use Rattle.idl_check.specs.tables.Rules.{has_other_prefix, is_ahead, is_declared, brings_operation, is_introduced, is_name_of_scope, is_other_ahead, is_reached, may_be_ahead, may_follow}
use Rattle.idl_check.specs.walk.Walk.{Walk, turns_at}
use Rattle.idl_check.specs.declared.ids.identifying.Ids.{Ids}
use Rattle.idl_check.specs.declared.tables.standing.Standing.{Standing}
use Rattle.idl_fault.specs.declared.code.Code.TheVariants.{AlreadyDeclared, NameOfScope, DeclaredAfterUse, OtherForward, DeclaredAgain, ReachedThroughBase, OtherPrefix}
use Rattle.idl_lex.specs.kinds.Keywords.{folded}
use Rattle.idl_memo.proofs.QueryLaws.{outcome-and_then}
use Rattle.idl_memo.specs.Query.{Done, and_then, outcome}
use Rattle.idl_scope.proofs.Constructors.{some_same, none_some}
use Rattle.idl_scope.proofs.FactsLaws.{outcome-under}
use Rattle.idl_env.proofs.Membership.{IsIn}
use Rattle.idl_entity.specs.Entity.{is_operation}
use Rattle.idl_env.specs.Facts.{UnitFacts, answers, entity_in, path_around, scopes_in, world, with_addition}
use Rattle.idl_entity.specs.Kind.{kind_eq, same_stage, inherits}
use Rattle.idl_scope.specs.Lookup.{under}
use Rattle.idl_scope.specs.Meaning.{InheritsOperation, Through, bases_of, seen}
use Rattle.idl_entity.specs.Path.{name_of}
use Rattle.idl_env.specs.Turns.{turns_for}
use Rattle.idl_env.specs.declared.additions.addition.Addition.{Addition}
use Rattle.idl_env.specs.declared.additions.addition.Addition.TheVariants.{Declares, Appears}
use Rattle.idl_env.specs.declared.answering.answer.Answer.{Answer}
use Rattle.idl_env.specs.declared.answering.answer.Scope.{Scope}
use Rattle.idl_entity.specs.declared.entity.Entity.{Entity}
use Rattle.idl_env.specs.declared.keys.key.Key.{Key}
use Rattle.idl_env.specs.declared.keys.key.Key.TheVariants.{Cursor, Declared, Introduced}
use Rattle.idl_entity.specs.declared.kind.Kind.{Kind}
use Rattle.idl_entity.specs.declared.kind.Kind.TheVariants as kind
use Rattle.idl_entity.specs.declared.kind.Stage.TheVariants.{Ahead, Open, Complete}
use Rattle.idl_parts.specs.Item.{Item}
use Rattle.idl_parts.specs.Part.{Part as item}
use Rattle.idl_parts.specs.declared.part.Declaration.{Declaration}
use Rattle.idl_parts.specs.declared.part.Declaration.TheVariants as declaration

-- ---- what stands around a site

-- such names alone are declared, operations and attributes in no scope that has begun, and a scope begins behind its own name
abbrev pub IsSited : Item → Scene → Type 0
IsSited (item.Declares way name) s = (is_other way ≡ true) × ((is_nameless name ≡ false) × (is_operation_way way ≡ true → s.level ≡ 0))
IsSited (item.ScopeBegins way name) s = s.last ≡ Some name
IsSited item.ScopeEnds s = 1 ≤ s.level
IsSited other s = Unit {0}

abbrev pub AreSited : List Item → Scene → Type 0
AreSited [] s = Unit {0}
AreSited (site ∷ sites) s = IsSited site s × AreSited sites (scene_after site s)

-- ---- what a declared name is refused for

-- none of its rows holds
pub record IsAllowed (s : Scope) (st : Standing) (e : Entity) : Type 0 where
  pub declared : is_declared st.there e ≡ false
  pub inherited : brings_operation s st ≡ false

pub allowed : (n : ℕ) (s : Scope) (st : Standing) (e : Entity) → faults_by n (declared_table s st e) ≡ [] → IsAllowed s st e
allowed n s st e h =
    let r5 = codes_in ((has_other_prefix st.ids, OtherPrefix) ∷ []) in
    let r4 = cond (is_reached s st) (ReachedThroughBase ∷ r5) r5 in
    let r0 = cond (brings_operation s st) (DeclaredAgain ∷ r4) r4 in
    let r3 = cond (is_other_ahead st.there e) (OtherForward ∷ r0) r0 in
    let r2 = cond (is_introduced st) (DeclaredAfterUse ∷ r3) r3 in
    let r1 = cond (is_name_of_scope s e) (NameOfScope ∷ r2) r2 in
    let a = no-row (is_declared st.there e) AlreadyDeclared r1 (no-codes n (codes_in (declared_table s st e)) h) in
    let b = no-row (is_name_of_scope s e) NameOfScope r2 a.1 in
    let c = no-row (is_introduced st) DeclaredAfterUse r3 b.1 in
    let d = no-row (is_other_ahead st.there e) OtherForward r0 c.1 in
    let g = no-row (brings_operation s st) DeclaredAgain r4 d.1 in
    record { declared = a.0; inherited = g.0 }

or-second : (a b : Bool) → a ≡ false → (a || b) ≡ true → b ≡ true
or-second true b h g = cc
or-second false b h g = g

or-first : (a b : Bool) → b ≡ false → (a || b) ≡ true → a ≡ true
or-first true b h g = refl
or-first false b h g = let z : false ≡ true = sym h ∙ g in cc

ahead-kind : (k : Kind) → may_be_ahead k ≡ true → (e : Entity) → e.kind ≡ k → is_operation e ≡ false
ahead-kind kind.Interface h e is = ap (λ x. is_operation (record e { kind = x })) is
ahead-kind kind.Structure h e is = ap (λ x. is_operation (record e { kind = x })) is
ahead-kind kind.Union h e is = ap (λ x. is_operation (record e { kind = x })) is
ahead-kind other h e is = cc

-- what such a name may follow is declared ahead
follows-ahead : (old e : Entity) → kind_eq e.kind kind.Module ≡ false → is_ahead e ≡ false → may_follow old e ≡ true → (old.stage ≡ Ahead) × (is_operation old ≡ false)
follows-ahead old e module_no ahead_no h =
    let parts = and_parts _ _ h in
    let no_modules : (kind_eq old.kind kind.Module && kind_eq e.kind kind.Module) ≡ false = and-second (kind_eq old.kind kind.Module) (kind_eq e.kind kind.Module) module_no in
    let come = or-second _ _ no_modules parts.1 in
    let sides = and_parts _ _ come in
    (same_stage old.stage Ahead (or-first (is_ahead old) (is_ahead e) ahead_no sides.1), ahead-kind old.kind (and_parts _ _ sides.0).0 old refl)
  where
    and-second : (a b : Bool) → b ≡ false → (a && b) ≡ false
    and-second true b h = h
    and-second false b h = refl

or-none : (a b : Bool) → a ≡ false → b ≡ false → (a || b) ≡ false
or-none true b h g = cc
or-none false b h g = g

pub there-follows : (o : Option Entity) (e old : Entity) → is_declared o e ≡ false → o ≡ Some old → may_follow old e ≡ true
there-follows None e old h is = absurd (none_some is)
there-follows (Some x) e old h is = ap (λ y. may_follow y e) (sym (some_same is)) ∙ not-false (may_follow x e) h

-- what it is declared as
pub record IsFresh (e : Entity) (way : Declaration) : Type 0 where
  pub unclosed : e.kind ≡ kind.Interface → e.stage ≢ Complete
  pub ahead : e.stage ≢ Ahead
  pub module_no : kind_eq e.kind kind.Module ≡ false
  pub ahead_no : is_ahead e ≡ false
  pub operation : is_operation e ≡ true → is_operation_way way ≡ true

module _ (turns : ℕ) (bank : Key → Option Answer) where
  -- what stands there is told
  pub standing-there : (s : Scope) (e : Entity) → (outcome (standing turns s e) bank).there ≡ entity_in (bank (Declared (folded (name_of e.path)) s.path))
  standing-there s e =
      let n = folded (name_of e.path) in
      let here = entity_in (bank (Declared n s.path)) in
      let told : List Entity → Option Ids → Standing = λ found ids. record {
        there = here;
        is_used = is_some (bank (Introduced n s.path s.body));
        brings_operation = list_any is_operation found;
        is_reached = is_any found;
        ids = ids;
      } in
      ap (λ (x : Standing). x.there) (outcome-and_then (inherited turns s n) (λ found. and_then (ids_of here e) (λ ids. Done (told found ids))) bank)
      ∙ ap (λ (x : Standing). x.there) (outcome-and_then (ids_of here e) (λ ids. Done (told (outcome (inherited turns s n) bank) ids)) bank)

pub fresh-way : (w : Walk) (way : Declaration) (name : List ℕ) (scope : Place) → is_other way ≡ true → IsFresh (entity_of w.written way name scope) way
fresh-way w declaration.Module name scope h = cc
fresh-way w (declaration.InterfaceAhead is_local) name scope h = cc
fresh-way w declaration.StructureAhead name scope h = cc
fresh-way w declaration.UnionAhead name scope h = cc
fresh-way w (declaration.Attribute is_readonly) name scope h = record { unclosed = λ z u. cc; ahead = λ z. cc; module_no = refl; ahead_no = refl; operation = λ z. refl }
fresh-way w (declaration.Operation is_oneway) name scope h = record { unclosed = λ z u. cc; ahead = λ z. cc; module_no = refl; ahead_no = refl; operation = λ z. refl }
fresh-way w other name scope h = record { unclosed = λ z u. cc; ahead = λ z. cc; module_no = refl; ahead_no = refl; operation = λ z. cc }

-- ---- over settled facts

module _ (facts : List UnitFacts) (k : IsSettled (world facts)) (turns : ℕ) (enough : turns_for facts ≤ turns) where
  abbrev pub D : Names
  D = names_in (answers facts)

  abbrev pub scopes : List Scope
  scopes = scopes_in (answers facts Cursor)

  -- a scope has begun that is deeper than the unit, behind a name of the unit's own
  pub record IsBegun (own : List Addition) (path : Place) : Type 0 where
    pub deeper : length (path_around scopes) < length path
    pub entity : Entity
    pub mine : IsMine D scopes own entity
    pub path_is : entity.path ≡ path

  -- it has a name, and nothing was declared in it
  pub begun-named : (own : List Addition) → IsGrown D scopes own → (path : Place) → IsBegun own path → IsNamed path
  begun-named own g path b = let x = b.mine.1 in subst IsNamed (x.2 ∙ b.path_is) (g.added x.0 x.1).named

  pub begun-none : (own_ : List Addition) → IsGrown D scopes own_ → (path : Place) → IsBegun own_ path → (n : List ℕ) → own D n path ≡ None
  begun-none own_ g path b n = by_own (own D n path) refl
    where
      x : Entity
      x = b.mine.1.0

      fresh : (y : Entity) → there D path ≡ Some y → y.stage ≡ Ahead
      fresh y h = ((g.added x b.mine.1.1).fresh y (ap (there D) (b.mine.1.2 ∙ b.path_is) ∙ h)).0

      named : IsNamed path
      named = begun-named own_ g path b

      no : IsScope IsDefined D path → ⊥
      no (inl global) = named-global path named global
      no (inr (inl less)) = named-nameless path named less
      no (inr (inr y)) = y.3 (fresh y.0 y.1)

      by_own : (o : Option Entity) → own D n path ≡ o → o ≡ None
      by_own None h = refl
      by_own (Some y) h = absurd (no (k.placed n path y h))

  -- so many scopes have begun, in which names may be declared
  abbrev pub IsCursor : List Addition → ℕ → List Scope → Type 0
  IsCursor own zero cursor = cursor ≡ scopes
  IsCursor own (suc n) [] = ⊥
  IsCursor own (suc n) (t ∷ cursor) = IsPlace (over own D) t.path × (IsBegun own t.path × (IsUnder t cursor × IsCursor own n cursor))

  -- where a walk stands in a scene
  pub record Walks (w : Walk) (s : Scene) : Type 0 where
    pub grown : IsGrown D scopes w.own
    pub begun : (e : Entity) → IsIn e w.begun → IsMine D scopes w.own e
    pub last : (e : Entity) → w.last ≡ Some e → IsMine D scopes w.own e
    pub named : (name : List ℕ) (t : Scope) (rest : List Scope) → s.last ≡ Some name → w.cursor ≡ t ∷ rest → (e : Entity) × (w.last ≡ Some e) × (e.path ≡ name ∷ t.path) × (e.kind ≢ kind.Interface)
    pub bodies : (b : Body) → IsIn b w.bodies → (e : Entity) → b.entity ≡ Some e → IsMine D scopes w.own e × (e.kind ≢ kind.Interface)
    pub cursor : IsCursor w.own s.level w.cursor
    pub bases : (b : Place) → IsIn b w.bases.paths → IsClosedAt D b

  pub cursor-on : (xs ys : List Addition) → Grows D scopes xs ys → (n : ℕ) (cursor : List Scope) → IsCursor xs n cursor → IsCursor ys n cursor
  cursor-on xs ys g zero cursor h = h
  cursor-on xs ys g (suc n) [] h = h
  cursor-on xs ys g (suc n) (t ∷ cursor) h =
      let b = h.1.0 in
      (g.places t.path h.0, (record { deeper = b.deeper; entity = b.entity; mine = g.mine b.entity b.mine; path_is = b.path_is }, (h.1.1.0, cursor-on xs ys g n cursor h.1.1.1)))

  -- the innermost of the scopes around a unit
  around-opened : (ss : List Scope) (os : List (List Place)) → AreOpened D ss os → (s : Scope) (rest : List Scope) → ss ≡ s ∷ rest → (paths : List Place) × IsOpened D s paths
  around-opened [] os h s rest is = cc
  around-opened (t ∷ ss) [] h s rest is = absurd h
  around-opened (t ∷ ss) (paths ∷ os) h s rest is = let same : t ≡ s = cc in (paths, subst (λ u. IsOpened D u paths) same h.0)

  -- the scope in which a name is declared: the innermost around the unit, or one that has begun
  pub data Stands (own : List Addition) (level : ℕ) (s : Scope) : Type 0 where
    Around : level ≡ 0 → s.path ≡ path_around scopes → (paths : List Place) → IsOpened D s paths → Stands own level s
    Begun-in : IsPlace (over own D) s.path → IsBegun own s.path → (level ≡ 0 → ⊥) → Stands own level s

  stands : (own : List Addition) (level : ℕ) (s : Scope) (rest cursor : List Scope) → cursor ≡ s ∷ rest → IsCursor own level cursor → Stands own level s
  stands own zero s rest cursor is h =
      let all : scopes ≡ s ∷ rest = sym h ∙ is in
      let o = around-opened scopes (world facts).inside k.opened s rest all in
      Around refl (sym (ap path_around all)) o.0 o.1
  stands own (suc n) s rest [] is h = cc
  stands own (suc n) s rest (t ∷ cursor) is h =
      let same : t ≡ s = cc in
      Begun-in (subst (λ (u : Scope). IsPlace (over own D) u.path) same h.0) (subst (λ (u : Scope). IsBegun own u.path) same h.1.0) (λ z. cc)

  module _ (w : Walk) (scene : Scene) (walks : Walks w scene) (s : Scope) (rest : List Scope) (is : w.cursor ≡ s ∷ rest) (way : Declaration) (name : List ℕ) where
    abbrev pub e : Entity
    e = entity_of w.written way name s.path

    abbrev pub st : Standing
    st = outcome (under w.own (standing (turns_at turns w) s e)) (answers facts)

    abbrev pub B : Names
    B = over w.own D

    pub told-there : st.there ≡ there B e.path
    told-there = ap (λ (x : Standing). x.there) (outcome-under w.own (answers facts) (standing (turns_at turns w) s e)) ∙ standing-there (turns_at turns w) (seen w.own facts) s e

    pub at_scope : Stands w.own scene.level s
    at_scope = stands w.own scene.level s rest w.cursor is walks.cursor

    settled_place : (q : Place) → IsPlace D q → IsPlace B q
    settled_place q p = scope-stays D scopes (world facts).inside w.own k walks.grown.added walks.grown.once IsOpen (λ y d. d.0) q p

    pub place-here : Stands w.own scene.level s → IsPlace B s.path
    place-here (Around level path paths o) = settled_place s.path o.place
    place-here (Begun-in place begun level) = place

    pub inner-here : Stands w.own scene.level s → length (path_around scopes) ≤ length s.path
    inner-here (Around level path paths o) = let same = ap length path in omega (arith, same)
    inner-here (Begun-in place begun level) = let longer = begun.deeper in omega (arith, longer)

    pub beside-here : Stands w.own scene.level s → IsNameless s.path → s.path ≡ path_around scopes
    beside-here (Around level path paths o) less = path
    beside-here (Begun-in place begun level) less = absurd (named-nameless s.path (begun-named w.own walks.grown s.path begun) less)

    pub apart-here : brings_operation s st ≡ false → Stands w.own scene.level s → s.path ≡ path_around scopes → (f y : Entity) → there D (path_around scopes) ≡ Some f → f.path ≡ path_around scopes → f.kind ≡ kind.Interface
        → Through (only D) (folded name) (bases_of (Some f)) y → is_operation y ≡ true → ⊥
    apart-here inherited_no (Begun-in place begun level) path f y at at_path interface t operation =
        let same = ap length path in
        let longer = begun.deeper in
        let none : ⊥ = omega (arith, longer, same) in none
    apart-here inherited_no (Around level path paths o) same f y at at_path interface t operation =
        let there_f : there D s.path ≡ Some f = ap (there D) path ∙ at in
        let held = o.held f there_f (at_path ∙ sym path) interface in
        let scope_kind : s.kind ≡ kind.Interface = sym (o.kind f there_f (at_path ∙ sym path)) ∙ interface in
        let bases : bases_of (Some f) ≡ f.bases = ap (λ stage. bases_of (Some (record f { stage = stage }))) held.stage in
        let stays_f : there B s.path ≡ Some f = there-stays D scopes (world facts).inside w.own k walks.grown.added walks.grown.once s.path f there_f (λ z. let q : Open ≡ Ahead = sym held.stage ∙ z in cc) in
        let keeps = closed-keeps D scopes (world facts).inside w.own k walks.grown.added walks.grown.once in
        let on : Through (only B) (folded name) f.bases y = through-on D B keeps k.whole (folded name) held.base (subst (λ bs. Through (only D) (folded name) bs y) bases t) in
        let told : Through (only B) (folded name) (bases_of (there B s.path)) y = subst (λ bs. Through (only B) (folded name) bs y) (sym (ap bases_of stays_f ∙ bases)) on in
        let all : InheritsOperation (seen w.own facts) s (folded name) y = (ap inherits scope_kind, (through-only (seen w.own facts) (folded name) told, operation)) in
        let yes : brings_operation s st ≡ true = ap (λ k. kind_eq k kind.Interface && st.brings_operation) scope_kind ∙ (standing-inherited facts turns w s e enough).1 (y, all) in
        let z : true ≡ false = sym yes ∙ inherited_no in cc

    module _ (sited : IsSited (item.Declares way name) scene) (ok : IsAllowed s st e) where
      fresh : IsFresh e way
      fresh = fresh-way w way name s.path sited.0

      follows : (old : Entity) → there B e.path ≡ Some old → (old.stage ≡ Ahead) × (is_operation old ≡ false)
      follows old h = follows-ahead old e fresh.module_no fresh.ahead_no (there-follows st.there e old ok.declared (told-there ∙ h))

      fresh-before : (y : Entity) → there D e.path ≡ Some y → (y.stage ≡ Ahead) × (is_operation y ≡ false)
      fresh-before y h = by_stood (stood D w.own (folded name) s.path)
        where
          by_stood : Stood D w.own (folded name) s.path → (y.stage ≡ Ahead) × (is_operation y ≡ false)
          by_stood (Was same) = follows y (same ∙ h)
          by_stood (Added x found key now) = absurd ((walks.grown.other x found).0 (follows x now).0)

      level-here : Stands w.own scene.level s → is_operation e ≡ true → s.path ≡ path_around scopes
      level-here (Around level path paths o) operation = path
      level-here (Begun-in place begun level) operation = absurd (level (sited.1.1 (fresh.operation operation)))

      -- so it is new
      is-new : IsNew D scopes B e
      is-new = record {
        other = (fresh.ahead, fresh.unclosed);
        named = sited.1.0;
        fresh = fresh-before;
        place = place-here at_scope;
        inner = inner-here at_scope;
        level = level-here at_scope;
        beside = beside-here at_scope;
        apart = apart-here ok.inherited at_scope;
        replaces = λ y h ahead. absurd (ahead (follows y h).0);
      }

      stays-no : stays st.there e ≡ false
      stays-no = by_there st.there
        where
          nothing : (b : Bool) → (b && (kind_eq e.kind kind.Module || is_ahead e)) ≡ false
          nothing true = or-none (kind_eq e.kind kind.Module) (is_ahead e) fresh.module_no fresh.ahead_no
          nothing false = refl

          by_there : (o : Option Entity) → stays o e ≡ false
          by_there None = refl
          by_there (Some old) = nothing (may_follow old e)

      -- its id changes no name
      identity-grows : (o : Option Entity) (ids : Option Ids) → Grows D scopes w.own (with_identity o ids e w.own) × (over w.own D ≡ over (with_identity o ids e w.own) D)
      identity-grows (Some old) ids = (grows-none D scopes w.own walks.grown, refl)
      identity-grows None None = (grows-none D scopes w.own walks.grown, refl)
      identity-grows None (Some ids) =
          (grows-beside D scopes w.own (Appears e.path ids.prefix) walks.grown (λ n q. refl), same-names D scopes w.own (Appears e.path ids.prefix) walks.grown (λ n q. refl))

      -- and it lets what is added grow, and is among that
      pub declared-grows : Grows D scopes w.own (with_declared st e w.own) × IsFound (with_declared st e w.own) e
      declared-grows =
          let id = identity-grows st.there st.ids in
          let xs = with_identity st.there st.ids e w.own in
          let new : IsNew D scopes (over xs D) e = subst (λ names. IsNew D scopes names e) id.1 is-new in
          subst (λ b. Grows D scopes w.own (cond b xs (with_addition xs (Declares e))) × IsFound (cond b xs (with_addition xs (Declares e))) e) (sym stays-no)
          (grows-on D scopes w.own xs (with_addition xs (Declares e)) id.0 (grows-with D scopes xs e id.0.grown new), found-new D scopes xs e id.0.grown new)
