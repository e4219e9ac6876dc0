-- What a unit declares ahead is new and its only name, at the token before the last.
use Rattle.std.proofs.Common.{◌≡◌, ◌∙◌, ◌+◌, ◌-◌, ℕ, Bool, true, false, cond, List, [], ◌∷◌, ◌++◌, length, Option, None, Some, refl, sym, ap, subst, inl, inr, arith}
use Rattle.std.specs.Prelude.{◌≢◌, ◌&&◌, ◌||◌}
use Rattle.idl_check.proofs.Faults.VisitFaults.{visit_faults}
use Rattle.idl_check.proofs.Visits.JudgeLemmas.{sites-length}
use Rattle.idl_check.proofs.Visits.NamesLemmas.{names-end}
use Rattle.idl_check.proofs.Visits.SiteLaws.{visited}
use Rattle.idl_check.proofs.Visits.VerdictLaws.{faulty-is, sound-is}
use Rattle.idl_check.proofs.Visits.WalkLaws.{none-append}
use Rattle.idl_check.proofs.Visits.WholeLaws.{whole-none}
use Rattle.idl_check.specs.ids.Identifying.{with_identity}
use Rattle.idl_check.specs.tables.Declaring.{entity_of, finished, stage_of, standing, stays, with_finished}
use Rattle.idl_check.specs.tables.Rules.{is_ahead, may_follow}
use Rattle.idl_check.specs.told.Bodies.{raises, raising}
use Rattle.idl_check.specs.walk.Judging.{walked}
use Rattle.idl_check.specs.walk.Names.{names_at, site_names, unit_names}
use Rattle.idl_check.specs.walk.Verdict.{verdict}
use Rattle.idl_check.specs.walk.Walk.{Visit, Walk, declared_visit, first_walk, passed, turns_at, visit}
use Rattle.idl_check.specs.declared.ids.identifying.Ids.{Ids}
use Rattle.idl_check.specs.declared.tables.standing.Standing.{Standing}
use Rattle.idl_check.specs.declared.walk.names.NamedSite.{NamedSite}
use Rattle.idl_check.specs.declared.walk.names.NameRole.TheVariants.{Declared as IsDeclared}
use Rattle.idl_check.specs.declared.walk.verdict.Verdict.{Verdict}
use Rattle.idl_check_laws.proofs.Fits.GrowingLaws.{declares-one}
use Rattle.idl_check_laws.proofs.Fits.LoneLaws.{IsLone}
use Rattle.idl_check_laws.proofs.Fits.OpeningLaws.{AreRest}
use Rattle.idl_check_laws.proofs.Fits.SoundLaws.{bases-rest}
use Rattle.idl_check_laws.proofs.Fits.WalkingLaws.{allowed, there-follows}
use Rattle.idl_check_laws.proofs.Nests.Scenes.{ArePlaced, Scene, is_other, scene_after}
use Rattle.idl_check_laws.proofs.Nests.UnitNesting.{is_plain, unit-whole}
use Rattle.idl_check_laws.proofs.Visits.NameLaws.{sound-names, sound-sites}
use Rattle.idl_entity.specs.Kind.{kind_eq}
use Rattle.idl_entity.specs.declared.entity.Entity.{Entity}
use Rattle.idl_entity.specs.declared.kind.Kind.TheVariants.{Module}
use Rattle.idl_entity.specs.declared.kind.Stage.TheVariants.{Ahead}
use Rattle.idl_env.proofs.Membership.{IsIn}
use Rattle.idl_env.specs.Facts.{entity_in, entity_key, scopes_in, with_addition}
use Rattle.idl_env.specs.declared.additions.addition.Addition.{Addition}
use Rattle.idl_env.specs.declared.additions.addition.Addition.TheVariants.{Declares}
use Rattle.idl_env.specs.declared.answering.answer.Answer.{Answer}
use Rattle.idl_env.specs.declared.answering.answer.Scope.{Scope}
use Rattle.idl_env.specs.declared.keys.key.Key.{Key}
use Rattle.idl_env.specs.declared.keys.key.Key.TheVariants.{Cursor}
use Rattle.idl_lex.specs.tokens.Tokens.{Token}
use Rattle.idl_memo.proofs.QueryLaws.{outcome-and_then}
use Rattle.idl_memo.specs.Query.{Done, outcome}
use Rattle.idl_parts.specs.Item.{Item, items, items_length}
use Rattle.idl_lex.specs.declared.kinds.mark.Mark.TheVariants as mark
use Rattle.idl_parts.specs.Part.{Part as item, if_some, punctuation}
use Rattle.idl_parts.specs.UnitParts.{bases_parts, unit_parts}
use Rattle.idl_parts.specs.declared.part.Declaration.{Declaration}
use Rattle.idl_parts.specs.declared.part.Declaration.TheVariants as declaration
use Rattle.idl_parts.specs.declared.part.Use.TheVariants.{AsBase}
use Rattle.idl_scope.specs.Lookup.{under}
use Rattle.idl_tree.specs.declared.declarations.interface.Forward.TheVariants as forward
use Rattle.idl_tree.specs.declared.unit.Tree.{Tree}
use Rattle.idl_tree.specs.declared.unit.Tree.TheVariants as tree
use Rattle.idl_unit.specs.declared.fault.Fault.{Fault}
use Rattle.idl_unit.specs.declared.unit.UnitText.TheVariants as unit
use Rattle.idl_check_laws.proofs.Visits.KnownLaws.{standing-is}
use Rattle.idl_check_laws.proofs.Visits.FurtherLaws.{SitesSo, additions_at, ends-so, none-ahead, walked-so}

-- ---- the units that declare nothing ahead

other-so : (way : Declaration) → is_other way ≡ true → stage_of way ≢ Ahead
other-so declaration.Module h = cc
other-so (declaration.InterfaceAhead is_local) h = cc
other-so declaration.StructureAhead h = cc
other-so declaration.UnionAhead h = cc
other-so other h = λ z. cc

placed-so : (sites : List Item) (s : Scene) → ArePlaced sites s → SitesSo sites
placed-so [] s h = tt
placed-so (item.Declares way name ∷ sites) s h = (other-so way h.0.0, placed-so sites (scene_after (item.Declares way name) s) h.1)
placed-so (other ∷ sites) s h = (tt, placed-so sites (scene_after other s) h.1)

rest-so : (sites : List Item) → AreRest sites → SitesSo sites
rest-so [] h = tt
rest-so (item.Plain n ∷ sites) h = (tt, rest-so sites h)
rest-so (item.Uses (AsBase is_local) name ∷ sites) h = (tt, rest-so sites h)
rest-so (other ∷ sites) h = absurd h

-- a unit that declares no name ahead
abbrev IsFurther : Tree → Type 0
IsFurther (tree.Forward f) = ⊥
IsFurther other = Unit {0}

plain-sites : (t : Tree) → is_plain t ≡ true → SitesSo (items (unit_parts t))
plain-sites t plain = placed-so (items (unit_parts t)) (record { level = 0; last = None }) ((unit-whole t).placed plain)

tree-so : (t : Tree) → IsFurther t → SitesSo (items (unit_parts t))
unfolding unit_parts
tree-so (tree.Module name) h = (tt, (λ z. cc, (tt, tt)))
tree-so (tree.Interface i) h = (tt, (λ z. cc, rest-so (items (if_some (bases_parts i.is_local) i.bases ++ punctuation mark.OpenBrace ∷ [])) (bases-rest i.is_local i.bases)))
tree-so (tree.Forward f) h = absurd h
tree-so other h = plain-sites other refl

-- ---- the units that do

and-true : (a b : Bool) → a ≡ true → b ≡ true → (a && b) ≡ true
and-true true b h g = g
and-true false b h g = cc

module _ (turns : ℕ) (answers : Key → Option Answer) where
  -- what is told of one that is declared ahead, in a unit of so many tokens
  abbrev pub IsLast : ℕ → List NamedSite → Entity → Type 0
  IsLast count names x = (names ≡ record { index = count - 2; role = IsDeclared; path = x.path } ∷ []) × (entity_in (answers (entity_key x.path)) ≡ None)

  module _ (n : ℕ) (way : Declaration) (name : List ℕ) (s : Scope) (outer : List Scope) where
    abbrev sites : List Item
    sites = item.Plain n ∷ item.Declares way name ∷ item.Plain 1 ∷ []

    abbrev w : Walk
    w = passed n (first_walk (s ∷ outer))

    abbrev e : Entity
    e = entity_of w.written way name s.path

    abbrev st : Standing
    st = outcome (under w.own (standing (turns_at turns w) s e)) answers

    abbrev v : Visit
    v = declared_visit w way s e st

    abbrev all : Option Entity → Option Ids → List Addition
    all o ids = cond (stays o e) (with_identity o ids e []) (with_addition (with_identity o ids e []) (Declares e))

    here : visited turns answers (item.Declares way name) w ≡ v
    unfolding visit
    here = outcome-and_then (under w.own (standing (turns_at turns w) s e)) (λ there. Done (declared_visit w way s e there)) answers

    module _ (lone : IsLone e) where
      ends : additions_at (walked turns answers sites (first_walk (s ∷ outer))) ≡ all st.there st.ids
      unfolding visit
      ends =
          let after = v.after in
          let finish = finished after.bases.paths after.values.constant after.clauses in
          ap (λ (v : Visit). additions_at (passed 1 v.after)) here
          ∙ ap (λ b. with_finished finish after.own (cond b (e ∷ []) [] ++ raising (Some e) after.clauses)) lone.begun
          ∙ ap (λ b. with_finished finish after.own (cond (b && raises after.clauses) (e ∷ []) [])) lone.raising

      module _ (none : visit_faults turns answers sites (first_walk (s ∷ outer)) ≡ []) where
        parts : (v.faults ≡ []) × (visit_faults turns answers (item.Plain 1 ∷ []) (visited turns answers (item.Declares way name) w).after ≡ [])
        unfolding visit
        parts =
            let u = visited turns answers (item.Declares way name) w in
            let p = none-append u.faults (visit_faults turns answers (item.Plain 1 ∷ []) u.after) none in
            (ap (λ (u : Visit). u.faults) (sym here) ∙ p.0, p.1)

        lone-names : site_names turns answers sites (first_walk (s ∷ outer)) ≡ record { index = 0 + n; role = IsDeclared; path = e.path } ∷ []
        unfolding visit
        lone-names =
            let u = visited turns answers (item.Declares way name) w in
            sound-names turns answers (item.Plain n) (item.Declares way name ∷ item.Plain 1 ∷ []) (first_walk (s ∷ outer)) refl refl
            ∙ sound-names turns answers (item.Declares way name) (item.Plain 1 ∷ []) w refl (ap (λ (u : Visit). u.faults) here ∙ parts.0)
            ∙ ap (λ (u : Visit). names_at (item.Declares way name) w u.after ++ site_names turns answers (item.Plain 1 ∷ []) u.after) here
            ∙ ap (λ ns. record { index = 0 + n; role = IsDeclared; path = e.path } ∷ ns) (sound-names turns answers (item.Plain 1) [] v.after refl refl ∙ names-end turns answers (passed 1 v.after))

        -- where nothing is there, it alone is declared
        new-one : (ids : Option Ids) (x : Entity) → IsIn (Declares x) (all None ids) → e ≡ x
        new-one None x (inl is) = declares-one e x (ap Some is)
        new-one None x (inr i) = absurd i
        new-one (Some ids) x (inl is) = cc
        new-one (Some ids) x (inr (inl is)) = declares-one e x (ap Some is)
        new-one (Some ids) x (inr (inr i)) = absurd i

        by-there : (o : Option Entity) → st.there ≡ o → (x : Entity) → IsIn (Declares x) (all o st.ids) → (st.there ≡ None) × (e ≡ x)
        by-there None is x i = (is, new-one st.ids x i)
        by-there (Some old) is x i =
            let ok = allowed w.at s st e parts.0 in
            let kept : stays (Some old) e ≡ true = and-true (may_follow old e) (kind_eq e.kind Module || is_ahead e) (there-follows st.there e old ok.declared is) lone.stays_where in
            absurd (subst (λ b. IsIn (Declares x) (cond b [] (with_addition [] (Declares e)))) kept i)

        lone-last : (count : ℕ) → n + 2 ≡ count → (x : Entity) → IsIn (Declares x) (additions_at (walked turns answers sites (first_walk (s ∷ outer))))
            → IsLast count (site_names turns answers sites (first_walk (s ∷ outer))) x
        lone-last count is x i =
            let one = by-there st.there refl x (subst (IsIn (Declares x)) ends i) in
            let index : 0 + n ≡ count - 2 = omega (arith, is) in
            subst (IsLast count (site_names turns answers sites (first_walk (s ∷ outer)))) one.1
            (lone-names ∙ ap (λ k. record { index = k; role = IsDeclared; path = e.path } ∷ []) index, sym (standing-is answers turns w s way name) ∙ one.0)

  -- with or without an open scope
  abbrev Ends : List Item → List Scope → ℕ → Type 0
  Ends sites scopes count =
      visit_faults turns answers sites (first_walk scopes) ≡ [] → (x : Entity) → IsIn (Declares x) (additions_at (walked turns answers sites (first_walk scopes)))
      → IsLast count (site_names turns answers sites (first_walk scopes)) x

  lone-ends : (n : ℕ) (way : Declaration) (name : List ℕ) (scopes : List Scope) → ((path : List (List ℕ)) → IsLone (entity_of (first_walk scopes).written way name path)) → (count : ℕ) → n + 2 ≡ count
      → Ends (item.Plain n ∷ item.Declares way name ∷ item.Plain 1 ∷ []) scopes count
  unfolding visit
  lone-ends n way name [] lone count is none x i = absurd i
  lone-ends n way name (s ∷ outer) lone count is none x i = lone-last n way name s outer (lone s.path) none count is x i

  tree-ends : (t : Tree) (scopes : List Scope) (count : ℕ) → items_length (items (unit_parts t)) ≡ count → visit_faults turns answers (items (unit_parts t)) (first_walk scopes) ≡ [] → (x : Entity)
      → IsIn (Declares x) (additions_at (walked turns answers (items (unit_parts t)) (first_walk scopes))) → x.stage ≡ Ahead → IsLast count (site_names turns answers (items (unit_parts t)) (first_walk scopes)) x
  unfolding unit_parts
  tree-ends (tree.Forward (forward.Interface is_local name)) scopes count is none x i ahead =
      lone-ends _ (declaration.InterfaceAhead is_local) name scopes
      (λ path. record { stays_where = refl; begun = refl; raising = refl; operation = refl; unclosed = λ z u. cc; module_there = λ z. cc }) count (omega (arith, is)) none x i
  tree-ends (tree.Forward (forward.Structure name)) scopes count is none x i ahead =
      lone-ends 1 declaration.StructureAhead name scopes
      (λ path. record { stays_where = refl; begun = refl; raising = refl; operation = refl; unclosed = λ z u. cc; module_there = λ z. cc }) count is none x i
  tree-ends (tree.Forward (forward.Union name)) scopes count is none x i ahead =
      lone-ends 1 declaration.UnionAhead name scopes
      (λ path. record { stays_where = refl; begun = refl; raising = refl; operation = refl; unclosed = λ z u. cc; module_there = λ z. cc }) count is none x i
  tree-ends other scopes count is none x i ahead =
      let w = walked turns answers (items (unit_parts other)) (first_walk scopes) in
      absurd (none-ahead (additions_at w) x (ends-so w (walked-so turns answers (items (unit_parts other)) (first_walk scopes) (tree-so other tt) (tt, (tt, (tt, tt))))) i ahead)

  pub unit-ahead : (tokens : List Token) (x : Entity) → IsIn (Declares x) (outcome (verdict turns (unit.Tokens tokens)) answers).writes.additions → x.stage ≡ Ahead
      → IsLast (length tokens) (unit_names turns answers (unit.Tokens tokens)) x
  unit-ahead tokens x i ahead = by (outcome (verdict turns (unit.Tokens tokens)) answers).fault refl
    where
      by : (o : Option Fault) → (outcome (verdict turns (unit.Tokens tokens)) answers).fault ≡ o → IsLast (length tokens) (unit_names turns answers (unit.Tokens tokens)) x
      by (Some fault) is = absurd (subst (λ (v : Verdict). IsIn (Declares x) v.writes.additions) (faulty-is turns answers tokens fault is) i)
      by None is =
          let scopes = scopes_in (answers Cursor) in
          let s = sound-is turns answers tokens is in
          let there = subst (λ (v : Verdict). IsIn (Declares x) v.writes.additions) s.is i in
          subst (λ ns. IsLast (length tokens) ns x) (sym (sound-sites turns answers tokens scopes (outcome (verdict turns (unit.Tokens tokens)) answers) s))
          (tree-ends s.tree scopes (length tokens) (sites-length tokens s.tree s.spelled) (whole-none turns answers (items (unit_parts s.tree)) (first_walk scopes) s.named) x there ahead)
