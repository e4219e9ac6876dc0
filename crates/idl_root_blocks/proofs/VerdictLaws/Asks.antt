-- A unit asks what is looked at behind its facts.
use Rattle.std.proofs.Common.{◌≡◌, ◌≢◌, ℕ, ◌+◌, Bool, true, false, cond, List, [], ◌∷◌, ◌++◌, Option, Some, None, Result, Ok, Err, refl, sym, ap, ◌∙◌, subst, arith, inl, inr}
use Rattle.std.specs.Prelude.{Contains, fold, map}
use Rattle.std.proofs.lemmas.List.Elements.{All-contains_itself, All-head, All-nil, All-tail, Contains-append_left, Contains-push}
use Rattle.idl_check_laws.proofs.IdlCheck.UseLemmas.{DeclareNone}
use Rattle.idl_check_laws.specs.idl_check.ids.About.{Said, about, about_entity, refused_for, said_at, unnamed_faults, with_faults}
use Rattle.idl_check_laws.specs.idl_check.ids.Pragmas.{said_by, text_faults}
use Rattle.idl_check_laws.specs.idl_check.tables.Declaring.{entity_of, finished, standing, with_finished}
use Rattle.idl_check_laws.specs.idl_check.tables.Rules.{has_id}
use Rattle.idl_check_laws.specs.idl_check.told.Bodies.{raising, signature_of}
use Rattle.idl_check_laws.specs.idl_check.walk.Placing.{faulty_step, opened_kind, step_of}
use Rattle.idl_check_laws.specs.idl_check.walk.Verdict.{asking, by_names, by_tree, faulty, judged, placed_walk, pragma_judged, pragma_verdict, refused, sound, token_verdict, unit_tree, verdict}
use Rattle.idl_check_laws.specs.idl_check.walk.Walk.{Visit, Walk, declared_visit, is_over, looked_at, noted_in, passed, quiet, turns_at, visit, walk}
use Rattle.idl_check_laws.specs.idl_check.declared.tables.standing.Standing.{Standing}
use Rattle.idl_check_laws.specs.idl_check.declared.walk.verdict.Verdict.{Verdict}
use Rattle.idl_entity.specs.Path.{name_of, scope_of}
use Rattle.idl_entity.specs.declared.entity.Entity.{Entity}
use Rattle.idl_entity.specs.declared.identity.Fixed.{Fixed}
use Rattle.idl_entity.specs.declared.identity.Fixed.TheVariants.{Id, Version}
use Rattle.idl_entity.specs.declared.kind.Kind.{Kind}
use Rattle.idl_entity.specs.declared.kind.Kind.TheVariants.{Attribute, Interface}
use Rattle.idl_entity.specs.declared.kind.Stage.TheVariants.{Complete, Open}
use Rattle.idl_entity.specs.Kind.{kind_eq}
use Rattle.idl_entity.specs.declared.identity.Identity.{Identity}
use Rattle.idl_env.proofs.FirstLemmas.{addition_at-with_addition}
use Rattle.idl_env.proofs.Membership.{IsIn, IsIn-Contains, IsIn-left, IsIn-right}
use Rattle.idl_env.specs.Facts.{UnitFacts, addition_at, entity_key, key_of, path_around, scopes_in, with_addition}
use Rattle.idl_env.specs.declared.additions.addition.Addition.{Addition}
use Rattle.idl_env.specs.declared.additions.addition.Addition.TheVariants.{Declares}
use Rattle.idl_env.specs.declared.additions.addition.Step.{Step}
use Rattle.idl_env.specs.declared.additions.addition.Step.TheVariants.{Stays, Opens, OpensNameless, Closes, Prefixes, Enters, Leaves}
use Rattle.idl_env.specs.declared.answering.answer.Answer.{Answer}
use Rattle.idl_env.specs.declared.answering.answer.Scope.{Scope}
use Rattle.idl_env.specs.declared.keys.key.Key.{Key}
use Rattle.idl_env.specs.declared.keys.key.Key.TheVariants.{Cursor, Nameless, Opened}
use Rattle.idl_env.specs.keys.Digested.{key_equiv}
use Rattle.idl_env.specs.keys.Key.{key_eq}
use Rattle.idl_block.proofs.FactLaws.Seen.Sees.{Sees, sees-first, sees-second}
use Rattle.idl_block.specs.facts.Known.{HasAsked, HasAskedStep, NoneInside}
use Rattle.idl_fault.specs.declared.code.Code.TheVariants.{NoRepositoryId}
use Rattle.idl_lex.specs.kinds.Keywords.{folded}
use Rattle.idl_lex.specs.tokens.Tokens.{Token}
use Rattle.idl_memo.proofs.QueryLaws.{outcome-and_then}
use Rattle.idl_memo.specs.Query.{Ask, Done, and_then, asked, outcome}
use Rattle.idl_parts.specs.Item.{Item, items}
use Rattle.idl_parts.specs.Part.{Part as item}
use Rattle.idl_parts.specs.UnitParts.{unit_parts}
use Rattle.idl_parts.specs.declared.part.Declaration.TheVariants as declaration
use Rattle.idl_scope.specs.Known.{known}
use Rattle.idl_scope.specs.Lookup.{Lookup, by_result, denoted, under}
use Rattle.idl_scope.specs.declared.fault.NameFault.{NameFault}
use Rattle.idl_scope.specs.declared.found.Found.{Found}
use Rattle.idl_check_laws.specs.idl_parse.Parse.{pragma_faults}
use Rattle.idl_tree.specs.NameParts.{last_at}
use Rattle.idl_tree.specs.Pragma.{pragma_of}
use Rattle.idl_tree.specs.declared.name.ScopedName.{ScopedName}
use Rattle.idl_tree.specs.declared.pragma.Pragma.{Pragma}
use Rattle.idl_tree.specs.declared.pragma.Pragma.TheVariants as pragma
use Rattle.idl_tree.specs.declared.unit.Tree.{Tree}
use Rattle.idl_tree.specs.declared.unit.Tree.TheVariants as tree
use Rattle.idl_unit.specs.Ending.{rule_of}
use Rattle.idl_unit.specs.Faults.{least_fault}
use Rattle.idl_unit.specs.TokenRules.{fault_at, first}
use Rattle.idl_unit.specs.declared.fault.Fault.{Fault}
use Rattle.idl_unit.specs.declared.unit.UnitText.{UnitText}
use Rattle.idl_unit.specs.declared.unit.UnitText.TheVariants as unit
use Rattle.idl_root_blocks.specs.verdicts.Owned.{AreOwned}
use Rattle.idl_root_blocks.proofs.VerdictLaws.Knows.{IsKnown, Knows, begun-more, finished-known, raising-known}
use Rattle.idl_root_blocks.proofs.VerdictLaws.Orders.{verdict-ordered}
use Rattle.idl_root_blocks.proofs.VerdictLaws.Visits.{entity-none, site-goes, walk-goes}
use Rattle.idl_unit.specs.Scoping.{is_closing_by}

-- ---- what is found among additions

-- a name that is declared stays so where more are
found-stays : (own : List Addition) (begun : List Entity) (k : Key) → ((e : Entity) × (addition_at own k ≡ Some (Declares e)))
    → (e : Entity) × (addition_at (fold with_addition own (map (λ e. Declares e) begun)) k ≡ Some (Declares e))
found-stays own [] k found = found
found-stays own (x ∷ begun) k found = found-stays (with_addition own (Declares x)) begun k (by (key_eq k (entity_key x.path)) refl)
  where
    by : (b : Bool) → key_eq k (entity_key x.path) ≡ b → (e : Entity) × (addition_at (with_addition own (Declares x)) k ≡ Some (Declares e))
    by true is = (x, addition_at-with_addition own (Declares x) k ∙ ap (λ t. cond t (Some (Declares x)) (addition_at own k)) is)
    by false is = (found.0, addition_at-with_addition own (Declares x) k ∙ ap (λ t. cond t (Some (Declares x)) (addition_at own k)) is ∙ found.1)

-- and each of these is
found-new : (own : List Addition) (begun : List Entity) (x : Entity) → IsIn x begun
    → (e : Entity) × (addition_at (fold with_addition own (map (λ e. Declares e) begun)) (entity_key x.path) ≡ Some (Declares e))
found-new own [] x i = absurd i
found-new own (y ∷ begun) x (inr i) = found-new (with_addition own (Declares y)) begun x i
found-new own (y ∷ begun) x (inl is) =
    found-stays (with_addition own (Declares y)) begun (entity_key x.path) (
      y,
      addition_at-with_addition own (Declares y) (entity_key x.path)
          ∙ ap (λ t. cond t (Some (Declares y)) (addition_at own (entity_key x.path))) (ap (λ (z : Entity). key_eq (entity_key x.path) (entity_key z.path)) is ∙ key_equiv.refl (entity_key x.path)),
    )

map-finished : (finish : Entity → Entity) (begun : List Entity) → map (λ e. Declares e) (map finish begun) ≡ map (λ e. Declares (finish e)) begun
map-finished finish [] = refl
map-finished finish (e ∷ begun) = ap (λ xs. Declares (finish e) ∷ xs) (map-finished finish begun)

in-map : (finish : Entity → Entity) (begun : List Entity) (e : Entity) → IsIn e begun → IsIn (finish e) (map finish begun)
in-map finish [] e i = absurd i
in-map finish (x ∷ begun) e (inl is) = inl (ap finish is)
in-map finish (x ∷ begun) e (inr i) = inr (in-map finish begun e i)

found-finished : (finish : Entity → Entity) (own : List Addition) (begun : List Entity) (x : Entity) → IsIn x begun → (finish x).path ≡ x.path
    → (e : Entity) × (addition_at (with_finished finish own begun) (entity_key x.path) ≡ Some (Declares e))
found-finished finish own begun x i same =
    subst (λ k. (e : Entity) × (addition_at (with_finished finish own begun) k ≡ Some (Declares e))) (ap entity_key same)
    (subst (λ xs. (e : Entity) × (addition_at (fold with_addition own xs) (entity_key (finish x).path) ≡ Some (Declares e))) (map-finished finish begun)
    (found-new own (map finish begun) (finish x) (in-map finish begun x i)))

module _ (bank : Key → Option Answer) (owned : AreOwned bank) (some : scopes_in (bank Cursor) ≢ []) (keys : List Key) where
  -- what is asked of a verdict
  pub record IsFine (f : UnitFacts) : Type 0 where
    pub step : HasAskedStep keys f
    pub declared : (e : Entity) → Contains f.additions (Declares e) → IsKnown keys e

  abbrev Fine : Verdict → Type 0
  Fine v = IsFine v.writes

  nothing-declared : (e : Entity) → Contains [] (Declares e) → IsKnown keys e
  nothing-declared e h = absurd (omega (arith, h.1))

  -- ---- a faulty unit

  nameless-asked : (o : Option Kind) (v : Verdict) → Sees bank keys (elim o as (λ _. Lookup Verdict) [ None ↦ Done v | Some kind ↦ Ask Nameless (λ count. Done v) ]) → (kind : Kind) → o ≡ Some kind → Contains keys Nameless
  nameless-asked None v sees kind is = cc
  nameless-asked (Some kind) v sees other is = All-head (Contains keys) Nameless [] sees

  refused-is : (o : Option Kind) (v : Verdict) → outcome (elim o as (λ _. Lookup Verdict) [ None ↦ Done v | Some kind ↦ Ask Nameless (λ count. Done v) ]) bank ≡ v
  refused-is None v = refl
  refused-is (Some kind) v = refl

  faulty-step : (o : Option Kind) (b : Bool) → ((kind : Kind) → o ≡ Some kind → Contains keys Nameless)
      → HasAskedStep keys (record { additions = []; step = elim o as (λ _. Step) [ None ↦ cond b Closes Stays | Some kind ↦ OpensNameless kind ] })
  faulty-step None true asked = tt
  faulty-step None false asked = tt
  faulty-step (Some kind) b asked = asked kind refl

  refused-fine : (tokens : List Token) (fault : Fault) → Sees bank keys (refused tokens fault) → Fine (outcome (refused tokens fault) bank)
  refused-fine tokens fault sees =
      subst Fine (sym (refused-is (opened_kind tokens) (faulty fault (faulty_step tokens)))) (record {
        step = faulty-step (opened_kind tokens) (is_closing_by (rule_of tokens)) (nameless-asked (opened_kind tokens) (faulty fault (faulty_step tokens)) sees);
        declared = nothing-declared;
      })

  -- ---- a unit without fault

  abbrev scopes : List Scope
  scopes = scopes_in (bank Cursor)

  -- an interface has begun where it opens
  abbrev HasBegun : Tree → Walk → Type 0
  HasBegun (tree.Interface i) w = (e : Entity) × IsIn e w.begun × (e.path ≡ i.name ∷ path_around scopes)
  HasBegun other w = Unit {0}

  asking-is : (step : Step) (v : Verdict) → outcome (asking step v) bank ≡ v
  asking-is (Opens path kind) v = refl
  asking-is Stays v = refl
  asking-is (OpensNameless kind) v = refl
  asking-is Closes v = refl
  asking-is (Prefixes text) v = refl
  asking-is Enters v = refl
  asking-is Leaves v = refl

  finish-path : (w : Walk) (e : Entity) → (finished w.bases.paths w.values.constant w.clauses e).path ≡ e.path
  finish-path w e = by (kind_eq e.kind Interface) (kind_eq e.kind Attribute)
    where
      by : (b c : Bool)
          → (cond b (record e { stage = Open; bases = w.bases.paths }) (cond c (record e { signature = Some (signature_of [] w.clauses) }) (record e { stage = Complete; value = w.values.constant }))).path ≡ e.path
      by true c = refl
      by false true = refl
      by false false = refl

  sound-step : (tokens : List Token) (t : Tree) (w : Walk) → HasBegun t w → Sees bank keys (asking (step_of t (path_around scopes)) (sound tokens scopes t w)) → HasAskedStep keys (sound tokens scopes t w).writes
  sound-step tokens (tree.Module name) w begun sees = (All-head (Contains keys) (Opened (name ∷ path_around scopes)) [] sees, λ is. cc)
  sound-step tokens (tree.Interface i) w begun sees = (
    All-head (Contains keys) (Opened (i.name ∷ path_around scopes)) [] sees,
    λ is. subst (λ path. (e : Entity) × (addition_at (sound tokens scopes (tree.Interface i) w).writes.additions (entity_key path) ≡ Some (Declares e))) begun.2
        (found-finished (finished w.bases.paths w.values.constant w.clauses) w.own (w.begun ++ raising w.last w.clauses) begun.0 (IsIn-left begun.0 w.begun (raising w.last w.clauses) begun.1) (finish-path w begun.0)),
  )
  sound-step tokens tree.Closing w begun sees = tt
  sound-step tokens other w begun sees = tt

  judged-fine : (tokens : List Token) (t : Tree) (w : Walk) → Knows keys [] w → (w.fault ≡ None → HasBegun t w) → Sees bank keys (judged tokens scopes t w) → Fine (outcome (judged tokens scopes t w) bank)
  judged-fine tokens t w k begun sees = by w.fault refl sees
    where
      by : (o : Option Fault) → w.fault ≡ o
          → Sees bank keys (elim o as (λ _. Lookup Verdict) [ Some fault ↦ refused tokens fault | None ↦ asking (step_of t (path_around scopes)) (sound tokens scopes t w) ])
          → Fine (outcome (elim o as (λ _. Lookup Verdict) [ Some fault ↦ refused tokens fault | None ↦ asking (step_of t (path_around scopes)) (sound tokens scopes t w) ]) bank)
      by (Some fault) is sees = refused-fine tokens fault sees
      by None is sees =
          let v : Verdict = sound tokens scopes t w in
          subst Fine (sym (asking-is (step_of t (path_around scopes)) v)) (record {
            step = sound-step tokens t w (begun is) sees;
            declared = λ e there.
                finished-known keys w.bases.paths w.values.constant w.clauses w.own (w.begun ++ raising w.last w.clauses) k.bases k.own
                (begun-more keys w.begun (raising w.last w.clauses) k.begun (raising-known keys w.last w.clauses k.last)) e (IsIn-Contains (Declares e) v.writes.additions there);
          })

  -- ---- where an interface begins

  module _ (turns : ℕ) where
    not-over : (w : Walk) → w.fault ≡ None → is_over w ≡ true → true ≡ false
    not-over w none over = sym over ∙ ap (λ (o : Option Fault). is_over (record w { fault = o })) none

    -- an interface has begun behind its name
    module _ (is_local : Bool) (name : List ℕ) (w : Walk) (s : Scope) (outer : List Scope) (is : w.cursor ≡ s ∷ outer) (k : Knows keys [] w) where
      abbrev site : Item
      site = item.Declares (declaration.Interface is_local) name

      abbrev new : Entity
      new = entity_of w.written (declaration.Interface is_local) name s.path

      abbrev query : Lookup Standing
      query = under w.own (standing (turns_at turns w) s new)

      declared-is : outcome (looked_at turns site w) bank ≡ declared_visit w (declaration.Interface is_local) s new (outcome query bank)
      unfolding visit
      declared-is =
          ap (λ (o : Option Scope). outcome (elim o as (λ _. Lookup Visit) [
            | None ↦ Done (quiet (passed 1 w))
            | Some t ↦ and_then (under w.own (standing (turns_at turns w) t (entity_of w.written (declaration.Interface is_local) name t.path)))
                (λ there. Done (declared_visit w (declaration.Interface is_local) t (entity_of w.written (declaration.Interface is_local) name t.path) there))
          ]) bank) (ap first is)
          ∙ outcome-and_then query (λ there. Done (declared_visit w (declaration.Interface is_local) s new there)) bank

      declared-begun : IsIn new (outcome (looked_at turns site w) bank).after.begun
      declared-begun = subst (λ (v : Visit). IsIn new v.after.begun) (sym declared-is) (IsIn-right new w.begun (new ∷ []) (inl refl))

      behind-begun : (rest : List Item) → Sees bank keys (and_then (looked_at turns site w) (λ v. walk turns rest (noted_in v w.fault)))
          → IsIn new (outcome (and_then (looked_at turns site w) (λ v. walk turns rest (noted_in v w.fault))) bank).begun
      behind-begun rest sees =
          let first_query : Lookup Visit = looked_at turns site w in
          let next : Visit → Lookup Walk = λ v. walk turns rest (noted_in v w.fault) in
          let v : Visit = outcome first_query bank in
          let one : Knows keys [] v.after = site-goes bank owned keys [] turns site w k (sees-first bank keys first_query next sees) in
          let two : Knows keys (new ∷ []) (noted_in v w.fault) = record { own = one.own; begun = one.begun; last = one.last; bases = one.bases; bodies = one.bodies; kept = kept } in
          subst (λ (u : Walk). IsIn new u.begun) (sym (outcome-and_then first_query next bank))
          ((walk-goes bank owned keys (new ∷ []) turns rest (noted_in v w.fault) two (sees-second bank keys first_query next v refl sees)).kept new (inl refl))
        where
          kept : (e : Entity) → IsIn e (new ∷ []) → IsIn e (outcome (looked_at turns site w) bank).after.begun
          kept e (inl same) = subst (λ x. IsIn x (outcome (looked_at turns site w) bank).after.begun) same declared-begun
          kept e (inr i) = absurd i

      -- where it ends without fault
      site-begun : (rest : List Item) → Sees bank keys (walk turns (site ∷ rest) w) → (outcome (walk turns (site ∷ rest) w) bank).fault ≡ None → IsIn new (outcome (walk turns (site ∷ rest) w) bank).begun
      unfolding walk
      site-begun rest sees none = by (is_over w) refl sees none
        where
          by : (b : Bool) → is_over w ≡ b → Sees bank keys (cond b (Done w) (and_then (looked_at turns site w) (λ v. walk turns rest (noted_in v w.fault))))
              → (outcome (cond b (Done w) (and_then (looked_at turns site w) (λ v. walk turns rest (noted_in v w.fault)))) bank).fault ≡ None
              → IsIn new (outcome (cond b (Done w) (and_then (looked_at turns site w) (λ v. walk turns rest (noted_in v w.fault)))) bank).begun
          by true over sees none = let never : true ≡ false = not-over w none over in cc
          by false over sees none = behind-begun rest sees

    opens-begun : (n : ℕ) (is_local : Bool) (name : List ℕ) (rest : List Item) (w : Walk) (s : Scope) (outer : List Scope) → w.cursor ≡ s ∷ outer → Knows keys [] w
        → Sees bank keys (walk turns (item.Plain n ∷ item.Declares (declaration.Interface is_local) name ∷ rest) w)
        → (outcome (walk turns (item.Plain n ∷ item.Declares (declaration.Interface is_local) name ∷ rest) w) bank).fault ≡ None
        → (e : Entity) × IsIn e (outcome (walk turns (item.Plain n ∷ item.Declares (declaration.Interface is_local) name ∷ rest) w) bank).begun × (e.path ≡ name ∷ s.path)
    unfolding walk visit
    opens-begun n is_local name rest w s outer is k sees none = by (is_over w) refl sees none
      where
        known : Knows keys [] (noted_in (quiet (passed n w)) w.fault)
        known = record { own = k.own; begun = k.begun; last = k.last; bases = k.bases; bodies = k.bodies; kept = k.kept }

        by : (b : Bool) → is_over w ≡ b
            → Sees bank keys (cond b (Done w) (walk turns (item.Declares (declaration.Interface is_local) name ∷ rest) (noted_in (quiet (passed n w)) w.fault)))
            → (outcome (cond b (Done w) (walk turns (item.Declares (declaration.Interface is_local) name ∷ rest) (noted_in (quiet (passed n w)) w.fault))) bank).fault ≡ None
            → (e : Entity) × IsIn e (outcome (cond b (Done w) (walk turns (item.Declares (declaration.Interface is_local) name ∷ rest) (noted_in (quiet (passed n w)) w.fault))) bank).begun × (e.path ≡ name ∷ s.path)
        by true over sees none = let never : true ≡ false = not-over w none over in cc
        by false over sees none =
            let u : Walk = noted_in (quiet (passed n w)) w.fault in
            (entity_of u.written (declaration.Interface is_local) name s.path, site-begun is_local name u s outer is known rest sees none, refl)

    around-is : (ss : List Scope) → scopes ≡ ss → ss ≢ [] → (s : Scope) × (outer : List Scope) × (scopes ≡ s ∷ outer)
    around-is [] is there = absurd (there refl)
    around-is (s ∷ outer) is there = (s, outer, is)

    first-knows : (t : Tree) → Knows keys [] (placed_walk scopes t)
    first-knows t = record {
      own = λ e i. absurd i;
      begun = λ e i. absurd i;
      last = λ e h. cc;
      bases = All-nil (λ b. Contains keys (entity_key b));
      bodies = λ b i. absurd i;
      kept = λ e i. absurd i;
    }

    tree-begun : (t : Tree) → Sees bank keys (walk turns (items (unit_parts t)) (placed_walk scopes t)) → (outcome (walk turns (items (unit_parts t)) (placed_walk scopes t)) bank).fault ≡ None
        → HasBegun t (outcome (walk turns (items (unit_parts t)) (placed_walk scopes t)) bank)
    unfolding unit_parts
    tree-begun (tree.Interface i) sees none =
        let a = around-is scopes refl some in
        let e = opens-begun _ i.is_local i.name _ (placed_walk scopes (tree.Interface i)) a.0 a.1 a.2 (first-knows (tree.Interface i)) sees none in
        (e.0, e.1, e.2 ∙ ap (λ ss. i.name ∷ path_around ss) (sym a.2))
    tree-begun tree.Closing sees none = tt
    tree-begun (tree.Module name) sees none = tt
    tree-begun (tree.Forward f) sees none = tt
    tree-begun (tree.Typedef t) sees none = tt
    tree-begun (tree.Construction c) sees none = tt
    tree-begun (tree.Native name) sees none = tt
    tree-begun (tree.Constant c) sees none = tt
    tree-begun (tree.Exception e) sees none = tt
    tree-begun (tree.ReadonlyAttribute a) sees none = tt
    tree-begun (tree.Attribute a) sees none = tt
    tree-begun (tree.Operation o) sees none = tt
    tree-begun (tree.Typeid t) sees none = tt
    tree-begun (tree.Typeprefix t) sees none = tt

    -- ---- a unit of tokens

    names-fine : (tokens : List Token) (t : Tree) → Sees bank keys (by_names turns tokens scopes t) → Fine (outcome (by_names turns tokens scopes t) bank)
    names-fine tokens t sees =
        let query : Lookup Walk = walk turns (items (unit_parts t)) (placed_walk scopes t) in
        let next : Walk → Lookup Verdict = λ w. judged tokens scopes t w in
        let first_sees = sees-first bank keys query next sees in
        subst Fine (sym (outcome-and_then query next bank))
        (judged-fine tokens t (outcome query bank) (walk-goes bank owned keys [] turns (items (unit_parts t)) (placed_walk scopes t) (first-knows t) first_sees) (tree-begun t first_sees)
        (sees-second bank keys query next (outcome query bank) refl sees))

    tree-fine : (tokens : List Token) (r : Result Tree Fault) → Sees bank keys (by_tree turns tokens scopes r) → Fine (outcome (by_tree turns tokens scopes r) bank)
    tree-fine tokens (Err fault) sees = refused-fine tokens fault sees
    tree-fine tokens (Ok t) sees = names-fine tokens t sees

    tokens-fine : (tokens : List Token) → Sees bank keys (token_verdict turns tokens scopes) → Fine (outcome (token_verdict turns tokens scopes) bank)
    tokens-fine tokens sees = tree-fine tokens (unit_tree tokens scopes) sees

    -- ---- a pragma

    pub record IsCalm (s : Said) : Type 0 where
      pub none : DeclareNone s.additions
      pub step : HasAskedStep keys (record { additions = s.additions; step = s.step })

    stays-calm : (s : Said) → DeclareNone s.additions → s.step ≡ Stays → IsCalm s
    stays-calm s none is = record { none = none; step = subst (λ step. HasAskedStep keys (record { additions = s.additions; step = step })) (sym is) tt }

    entity-stays : (at : ℕ) (change : Fixed) (e : Entity) → (outcome (about_entity at change e) bank).step ≡ Stays
    entity-stays at change e = by (has_id e.kind)
      where
        one : (o : Option Identity) → (elim o as (λ _. Said) [ None ↦ refused_for [] | Some d ↦ said_at at change e.path d ]).step ≡ Stays
        one None = refl
        one (Some d) = refl

        by : (b : Bool)
            → (outcome (cond b (and_then (known e.path) (λ d. Done (elim d as (λ _. Said) [ None ↦ refused_for [] | Some d ↦ said_at at change e.path d ]))) (Done (refused_for (fault_at at NoRepositoryId ∷ [])))) bank).step ≡ Stays
        by true =
            ap (λ (s : Said). s.step) (outcome-and_then (known e.path) (λ d. Done (elim d as (λ _. Said) [ None ↦ refused_for [] | Some d ↦ said_at at change e.path d ])) bank)
            ∙ one (outcome (known e.path) bank)
        by false = refl

    about-calm : (ss : List Scope) (name : ScopedName) (change : Fixed) → IsCalm (outcome (about 2 turns ss name change) bank)
    about-calm ss name change =
        let query : Lookup (Result Found NameFault) = denoted turns ss name in
        let next : Result Found NameFault → Lookup Said = λ r. by_result r (λ found. about_entity (last_at 2 name) change found.entity) (λ fault. Done (refused_for (unnamed_faults 2 name fault))) in
        subst IsCalm (sym (outcome-and_then query next bank)) (by (outcome query bank))
      where
        by : (r : Result Found NameFault) → IsCalm (outcome (by_result r (λ found. about_entity (last_at 2 name) change found.entity) (λ fault. Done (refused_for (unnamed_faults 2 name fault)))) bank)
        by (Ok found) =
            stays-calm (outcome (about_entity (last_at 2 name) change found.entity) bank) (entity-none bank (last_at 2 name) change found.entity) (entity-stays (last_at 2 name) change found.entity)
        by (Err fault) = record { none = tt; step = tt }

    said-calm : (ss : List Scope) (o : Option Pragma) → IsCalm (outcome (said_by turns ss o) bank)
    said-calm ss None = record { none = tt; step = tt }
    said-calm ss (Some (pragma.Prefix text)) = record { none = tt; step = tt }
    said-calm ss (Some (pragma.Version name major minor)) = about-calm ss name (Version major minor)
    said-calm ss (Some (pragma.Id name text)) =
        let query : Lookup Said = about 2 turns ss name (Id text) in
        let calm = about-calm ss name (Id text) in
        subst IsCalm (sym (outcome-and_then query (λ s. Done (with_faults (text_faults (last_at 2 name + 1) text) s)) bank)) (record { none = calm.none; step = calm.step })

    none-declared : (additions : List Addition) → DeclareNone additions → (e : Entity) → IsIn (Declares e) additions → IsKnown keys e
    none-declared [] none e i = absurd i
    none-declared (a ∷ additions) none e (inr i) = none-declared additions none.1 e i
    none-declared (a ∷ additions) none e (inl is) =
        let same : key_eq (entity_key e.path) (key_of a) ≡ true = ap (λ (x : Addition). key_eq (entity_key e.path) (key_of x)) is ∙ key_equiv.refl (entity_key e.path) in
        let never : true ≡ false = sym same ∙ none.0 (folded (name_of e.path)) (scope_of e.path) in cc

    verdict-calm : (s : Said) → IsCalm s → Fine (pragma_verdict s)
    verdict-calm s calm = by (least_fault s.faults)
      where
        by : (o : Option Fault)
            → Fine (elim o as (λ _. Verdict) [
              | Some fault ↦ faulty fault Stays
              | None ↦ record { fault = None; writes = record { additions = s.additions; step = s.step }; row = None }
            ])
        by (Some fault) = record { step = tt; declared = nothing-declared }
        by None = record { step = calm.step; declared = λ e there. none-declared s.additions calm.none e (IsIn-Contains (Declares e) s.additions there) }

    pragma-fine : (tokens : List Token) (inside : Bool) → Fine (outcome (pragma_judged turns tokens inside scopes) bank)
    pragma-fine tokens inside = by (least_fault (pragma_faults tokens inside))
      where
        by : (o : Option Fault)
            → Fine (outcome (elim o as (λ _. Lookup Verdict) [ Some fault ↦ Done (faulty fault Stays) | None ↦ and_then (said_by turns scopes (pragma_of tokens)) (λ s. Done (pragma_verdict s)) ]) bank)
        by (Some fault) = record { step = tt; declared = nothing-declared }
        by None =
            let query : Lookup Said = said_by turns scopes (pragma_of tokens) in
            subst Fine (sym (outcome-and_then query (λ s. Done (pragma_verdict s)) bank)) (verdict-calm (outcome query bank) (said-calm scopes (pragma_of tokens)))

    pub unit-fine : (text : UnitText) → Sees bank keys (verdict turns text) → Fine (outcome (verdict turns text) bank)
    unfolding verdict
    unit-fine (unit.Tokens tokens) sees = tokens-fine tokens (All-tail (Contains keys) Cursor (asked (token_verdict turns tokens scopes) bank) sees)
    unit-fine (unit.Pragma tokens inside) sees = pragma-fine tokens inside

cursor-asked : (turns : ℕ) (text : UnitText) (bank : Key → Option Answer) → Contains (asked (verdict turns text) bank) Cursor
unfolding verdict
cursor-asked turns (unit.Tokens tokens) bank = Contains-append_left (Cursor ∷ []) (asked (token_verdict turns tokens (scopes_in (bank Cursor))) bank) Cursor (Contains-push [] Cursor)
cursor-asked turns (unit.Pragma tokens inside) bank =
    Contains-append_left (Cursor ∷ []) (asked (pragma_judged turns tokens inside (scopes_in (bank Cursor))) bank) Cursor (Contains-push [] Cursor)

-- a unit asks what is looked at behind its facts
pub unit-asks : (turns : ℕ) (text : UnitText) (bank : Key → Option Answer) → AreOwned bank → scopes_in (bank Cursor) ≢ [] → NoneInside (scopes_in (bank Cursor)) (path_around (scopes_in (bank Cursor)))
    → HasAsked (scopes_in (bank Cursor)) (asked (verdict turns text) bank) (outcome (verdict turns text) bank).writes
unit-asks turns text bank owned some deepest =
    let keys : List Key = asked (verdict turns text) bank in
    let fine = unit-fine bank owned some keys turns text (All-contains_itself keys) in
    record { cursor = cursor-asked turns text bank; step = fine.step; declared = fine.declared; behind = verdict-ordered turns text bank some deepest }
