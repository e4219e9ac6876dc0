-- Of the uses that a unit adds, where facts are told: the scopes that may stop each.
use Rattle.std.proofs.Common.{◌≡◌, ◌∙◌, ◌≤◌, ◌+◌, ℕ, Bool, true, false, cond, List, [], ◌∷◌, ◌++◌, Option, Some, None, Result, Ok, Err, refl, sym, ap, subst, arith, inl, inr}
use Rattle.std.proofs.lemmas.List.Elements.{All-cons, All-head, All-nil, All-tail}
use Rattle.std.specs.Prelude.{All, fold}
use Rattle.idl_check_laws.proofs.IdlCheck.Visits.RemarkLaws.{IsOfIds, remark-is}
use Rattle.idl_check_laws.proofs.IdlCheck.Visits.SiteLaws.{declared_by, spoken_by, union_visit, used_by, visited}
use Rattle.idl_check_laws.proofs.IdlCheck.Visits.VerdictLaws.{faulty-is, sound-is}
use Rattle.idl_check_laws.proofs.IdlCheck.Visits.WalkLaws.{none-append}
use Rattle.idl_check_laws.proofs.IdlCheck.Visits.WholeLaws.{whole-none}
use Rattle.idl_check_laws.proofs.IdlCheck.Faults.VisitFaults.{visit_faults}
use Rattle.idl_check_laws.specs.idl_check.declared.ids.identifying.Ids.{Ids}
use Rattle.idl_check_laws.specs.idl_check.declared.tables.standing.Standing.{Standing}
use Rattle.idl_check_laws.specs.idl_check.declared.walk.verdict.Verdict.{Verdict}
use Rattle.idl_check_laws.specs.idl_check.ids.About.{Said, about, about_entity, refused_for, said_at, unnamed_faults, with_faults}
use Rattle.idl_check_laws.specs.idl_check.ids.Identifying.{with_identity}
use Rattle.idl_check_laws.specs.idl_check.ids.Pragmas.{said, text_faults}
use Rattle.idl_check_laws.specs.idl_check.ids.Remarks.{purpose_of, remark}
use Rattle.idl_check_laws.specs.idl_check.tables.Declaring.{entity_of, finished, standing, stays, with_declared, with_finished}
use Rattle.idl_check_laws.specs.idl_check.tables.Rules.{has_id}
use Rattle.idl_check_laws.specs.idl_check.tables.Using.{last_after, own_after, uses_of, with_uses}
use Rattle.idl_check_laws.specs.idl_check.told.Bodies.{array_of, raising}
use Rattle.idl_check_laws.specs.idl_check.told.Types.{looked_through}
use Rattle.idl_check_laws.specs.idl_check.walk.AllFaults.{site_faults}
use Rattle.idl_check_laws.specs.idl_check.walk.Judging.{IsSound, walked}
use Rattle.idl_check_laws.specs.idl_check.walk.Verdict.{verdict}
use Rattle.idl_check_laws.specs.idl_check.walk.Walk.{Visit, Walk, declared_visit, first_walk, outcome_at, passed, plain_name, quiet, spoken_of, spoken_visit, turns_at, used, used_visit, value_visit, visit, with_array}
use Rattle.idl_root_blocks.proofs.VerdictLaws.Stacks.{settled, told-kept}
use Rattle.idl_root_blocks.proofs.VerdictLaws.Stops.{AreOutward, cursor-outward, nowhere-stops, reached-stops, stops-fold, stops-with}
use Rattle.idl_check_laws.proofs.Fits.ClosingLaws.{IsSettled}
use Rattle.idl_check_laws.proofs.Fits.OpeningLaws.{rest-sited}
use Rattle.idl_check_laws.proofs.Fits.SoundLaws.{bases-rest, declared-named, tree-sited}
use Rattle.idl_check_laws.proofs.Fits.WalkedLaws.{first-walks, site-walks}
use Rattle.idl_check_laws.proofs.Fits.WalkingLaws.{AreSited, Walks}
use Rattle.idl_check_laws.proofs.Nests.Scenes.{Scene, scene_after}
use Rattle.idl_check_laws.proofs.Nests.UnitNesting.{is_plain, scene}
use Rattle.idl_check_laws.proofs.PragmaLaws.{faulty-pragma, spoken-pragma}
use Rattle.idl_check_laws.specs.Closing.{AreTold}
use Rattle.idl_entity.specs.declared.entity.Entity.{Entity}
use Rattle.idl_entity.specs.declared.identity.Fixed.{Fixed}
use Rattle.idl_entity.specs.declared.identity.Fixed.TheVariants.{Id, Version}
use Rattle.idl_entity.specs.declared.identity.Identity.{Identity}
use Rattle.idl_entity.specs.declared.kind.Kind.TheVariants.{Union}
use Rattle.idl_entity.specs.Kind.{kind_eq}
use Rattle.idl_env.specs.Facts.{UnitFacts, answers, over, scopes_in, with_addition, world}
use Rattle.idl_env.specs.Turns.{turns_for}
use Rattle.idl_env.specs.declared.additions.addition.Addition.{Addition}
use Rattle.idl_env.specs.declared.additions.addition.Addition.TheVariants.{Appears, Declares, Identifies, TypePrefixes}
use Rattle.idl_env.specs.declared.answering.answer.Answer.{Answer}
use Rattle.idl_env.specs.declared.answering.answer.Scope.{Scope}
use Rattle.idl_env.specs.declared.keys.key.Key.{Key}
use Rattle.idl_env.specs.declared.keys.key.Key.TheVariants.{Cursor}
use Rattle.idl_block.specs.facts.Answered.{AreStops}
use Rattle.idl_fault.specs.declared.code.Code.TheVariants.{NoRepositoryId}
use Rattle.idl_lex.specs.declared.kinds.mark.Mark.TheVariants as mark
use Rattle.idl_lex.specs.kinds.Keywords.{folded}
use Rattle.idl_lex.specs.tokens.Tokens.{Token}
use Rattle.idl_memo.proofs.QueryLaws.{outcome-and_then}
use Rattle.idl_memo.specs.Query.{Done, and_then, outcome}
use Rattle.idl_parts.specs.Item.{Item, items}
use Rattle.idl_parts.specs.Part.{Part as item, if_some, punctuation}
use Rattle.idl_parts.specs.UnitParts.{bases_parts, unit_parts}
use Rattle.idl_parts.specs.declared.part.Declaration.{Declaration}
use Rattle.idl_parts.specs.declared.part.Declaration.TheVariants as declaration
use Rattle.idl_parts.specs.declared.part.Purpose.{Purpose}
use Rattle.idl_parts.specs.declared.part.Purpose.TheVariants as purpose
use Rattle.idl_parts.specs.declared.part.TextPurpose.{TextPurpose}
use Rattle.idl_parts.specs.declared.part.Use.{Use}
use Rattle.idl_parts.specs.declared.part.Use.TheVariants.{AsStructBase}
use Rattle.idl_scope.proofs.FactsLaws.{outcome-under}
use Rattle.idl_scope.specs.Known.{known}
use Rattle.idl_scope.specs.Lookup.{Lookup, by_result, denoted, first_part, found_as, further, reach, reach_of, under}
use Rattle.idl_scope.specs.declared.fault.NameFault.{NameFault}
use Rattle.idl_scope.specs.declared.fault.NameFault.TheVariants.{At, Memory}
use Rattle.idl_scope.specs.declared.found.Found.{Found}
use Rattle.idl_tree.specs.Lexeme.{lexemes}
use Rattle.idl_tree.specs.NameParts.{last_at}
use Rattle.idl_tree.specs.Unit.{spell}
use Rattle.idl_tree.specs.declared.declarations.interface.Forward.TheVariants as forward
use Rattle.idl_tree.specs.declared.name.ScopedName.{ScopedName}
use Rattle.idl_tree.specs.declared.pragma.Pragma.{Pragma}
use Rattle.idl_tree.specs.declared.pragma.Pragma.TheVariants as pragma
use Rattle.idl_tree.specs.declared.unit.Tree.{Tree}
use Rattle.idl_tree.specs.declared.unit.Tree.TheVariants as tree
use Rattle.idl_unit.specs.TokenRules.{fault_at, first}
use Rattle.idl_unit.specs.declared.fault.Fault.{Fault}
use Rattle.idl_unit.specs.declared.unit.UnitText.{UnitText}
use Rattle.idl_unit.specs.declared.unit.UnitText.TheVariants as unit
use Rattle.idl_value.specs.declared.outcome.Outcome.{Outcome}
use Rattle.idl_value.specs.declared.outcome.Outcome.TheVariants as outcome_is

-- ---- how far a name that is found is used

module _ (bank : Key → Option Answer) (turns : ℕ) (cursor : List Scope) (name : ScopedName) where
  abbrev on : Result Entity NameFault × ℕ → Lookup (Result Found NameFault)
  on r = by_result r.0 (λ first. and_then (further turns 0 first name.rest) (λ last. Done (found_as (reach_of name cursor r.1 first) last))) (λ fault. Done (Err fault))

  abbrev Reached : Found → Type 0
  Reached found = (inside : ℕ) × (e : Entity) × (found.reach ≡ reach_of name cursor inside e)

  pub found-reach : (found : Found) → outcome (denoted turns cursor name) bank ≡ Ok found → Reached found
  found-reach found is =
      let r : Result Entity NameFault × ℕ = outcome (first_part turns cursor name) bank in
      by r.0 r.1 (sym (outcome-and_then (first_part turns cursor name) on bank) ∙ is)
    where
      last-is : (inside : ℕ) (e : Entity) (r : Result Entity NameFault) → found_as (reach_of name cursor inside e) r ≡ Ok found → Reached found
      last-is inside e (Ok last) is = (inside, e, (let same : record { entity = last; reach = reach_of name cursor inside e } ≡ found = cc in ap (λ (f : Found). f.reach) (sym same)))
      last-is inside e (Err fault) is = cc

      by : (r : Result Entity NameFault) (inside : ℕ) → outcome (on (r, inside)) bank ≡ Ok found → Reached found
      by (Ok e) inside is =
          last-is inside e (outcome (further turns 0 e name.rest) bank)
          (sym (outcome-and_then (further turns 0 e name.rest) (λ last. Done (found_as (reach_of name cursor inside e) last)) bank) ∙ is)
      by (Err fault) inside is = cc

-- ---- sites

module _ (bank : Key → Option Answer) (turns : ℕ) where
  abbrev pub Fine : List Addition → Type 0
  Fine own = All (AreStops bank) own

  fine-with : (own : List Addition) (e : Entity) → Fine own → Fine (with_addition own (Declares e))
  fine-with own e fine = stops-with bank own (Declares e) fine tt

  ids-stop : (a : Addition) → IsOfIds a → AreStops bank a
  ids-stop (Identifies path d) h = tt
  ids-stop (TypePrefixes path text) h = tt
  ids-stop other h = absurd h

  ids-fine : (own more : List Addition) → Fine own → All IsOfIds more → Fine (fold with_addition own more)
  ids-fine own [] fine all = fine
  ids-fine own (a ∷ more) fine all =
      ids-fine (with_addition own a) more (stops-with bank own a fine (ids-stop a (All-head IsOfIds a more all))) (All-tail IsOfIds a more all)

  identity-fine : (o : Option Entity) (ids : Option Ids) (e : Entity) (own : List Addition) → Fine own → Fine (with_identity o ids e own)
  identity-fine (Some old) ids e own fine = fine
  identity-fine None None e own fine = fine
  identity-fine None (Some ids) e own fine = stops-with bank own (Appears e.path ids.prefix) fine tt

  declared-fine : (st : Standing) (e : Entity) (own : List Addition) → Fine own → Fine (with_declared st e own)
  declared-fine st e own fine = by (stays st.there e) (identity-fine st.there st.ids e own fine)
    where
      by : (b : Bool) → Fine (with_identity st.there st.ids e own)
          → Fine (cond b (with_identity st.there st.ids e own) (with_addition (with_identity st.there st.ids e own) (Declares e)))
      by true fine = fine
      by false fine = fine-with (with_identity st.there st.ids e own) e fine

  array-fine : (lengths : List ℕ) (o : Option Entity) (own : List Addition) → Fine own → Fine (with_array lengths o own)
  array-fine lengths None own fine = fine
  array-fine lengths (Some e) own fine = fine-with own (array_of lengths e) fine

  finished-fine : (finish : Entity → Entity) (es : List Entity) (own : List Addition) → Fine own → Fine (with_finished finish own es)
  finished-fine finish [] own fine = fine
  finished-fine finish (e ∷ es) own fine = finished-fine finish es (with_addition own (Declares (finish e))) (fine-with own (finish e) fine)

  -- a struct takes its own place over its base
  over-fine : (way : Use) (o : Option Entity) (own : List Addition) → Fine own → Fine (own_after way o own)
  over-fine AsStructBase (Some e) own fine = fine-with own e fine
  over-fine AsStructBase None own fine = fine
  over-fine other o own fine = fine

  module _ (w : Walk) (fine : Fine w.own) where
    named-fine : (n : List ℕ) (name : ScopedName) (inside : ℕ) (e : Entity) → AreOutward bank w.cursor → All (AreStops bank) (uses_of n (reach_of name w.cursor inside e) w.cursor w.own)
    named-fine n name inside e nested = by name.is_global
      where
        by : (b : Bool) → All (AreStops bank) (uses_of n (cond b (record { certain = 0; further = 0 }) (reach w.cursor inside e)) w.cursor w.own)
        by true = nowhere-stops bank n w.cursor w.own
        by false = reached-stops bank n inside e w.cursor w.own nested

    found-fine : (way : Use) (name : ScopedName) (found : Found) → AreOutward bank w.cursor → outcome (under w.own (denoted (turns_at turns w) w.cursor name)) bank ≡ Ok found
        → Fine (with_uses (folded name.first) found.reach w.cursor w.own)
    found-fine way name found nested is =
        let r = found-reach (λ k. over w.own k (bank k)) (turns_at turns w) w.cursor name found (sym (outcome-under w.own bank (denoted (turns_at turns w) w.cursor name)) ∙ is) in
        stops-fold bank w.own (uses_of (folded name.first) found.reach w.cursor w.own) fine
        (subst (λ reach. All (AreStops bank) (uses_of (folded name.first) reach w.cursor w.own)) (sym r.2) (named-fine (folded name.first) name r.0 r.1 nested))

    used-by-fine : (way : Use) (name : ScopedName) (r : Result Found NameFault) → AreOutward bank w.cursor → outcome (under w.own (denoted (turns_at turns w) w.cursor name)) bank ≡ r
        → Fine (outcome (used_by turns bank way name w r) bank).after.own
    used-by-fine way name (Ok found) nested is =
        let query = under w.own (looked_through (turns_at turns w) way found.entity) in
        subst (λ (v : Visit). Fine v.after.own) (sym (outcome-and_then query (λ behind. Done (used_visit w way name found behind)) bank))
        (over-fine way (last_after way found.entity.path w.last) (with_uses (folded name.first) found.reach w.cursor w.own) (found-fine way name found nested is))
    used-by-fine way name (Err (At why part)) nested is = fine
    used-by-fine way name (Err Memory) nested is = fine

    used-fine : (way : Use) (name : ScopedName) → AreOutward bank w.cursor → Fine (outcome (used turns way name w) bank).after.own
    unfolding used
    used-fine way name nested =
        let query = under w.own (denoted (turns_at turns w) w.cursor name) in
        subst (λ (v : Visit). Fine v.after.own) (sym (outcome-and_then query (used_by turns bank way name w) bank)) (used-by-fine way name (outcome query bank) nested refl)

    spoken-by-fine : (p : TextPurpose) (name : ScopedName) (r : Result Found NameFault) → Fine (outcome (spoken_by turns bank p name w r) bank).after.own
    spoken-by-fine p name (Ok found) =
        let query = under w.own (remark p (last_at w.at name) w.text found.entity) in
        subst (λ (v : Visit). Fine v.after.own) (sym (outcome-and_then query (λ s. Done (spoken_visit w name found s)) bank))
        (ids-fine w.own (outcome query bank).additions fine (remark-is w.own bank p (last_at w.at name) w.text found.entity).adds)
    spoken-by-fine p name (Err fault) = fine

    spoken-fine : (p : TextPurpose) (name : ScopedName) → Fine (outcome (spoken_of turns p name w) bank).after.own
    unfolding spoken_of
    spoken-fine p name =
        let query = under w.own (denoted (turns_at turns w) w.cursor name) in
        subst (λ (v : Visit). Fine v.after.own) (sym (outcome-and_then query (spoken_by turns bank p name w) bank)) (spoken-by-fine p name (outcome query bank))

    plain-fine : (way : Use) (name : ScopedName) → AreOutward bank w.cursor → Fine (outcome (plain_name turns way name w) bank).after.own
    plain-fine way name nested = by (purpose_of way)
      where
        by : (o : Option TextPurpose) → Fine (outcome (elim o as (λ _. Lookup Visit) [ None ↦ used turns way name w | Some p ↦ spoken_of turns p name w ]) bank).after.own
        by (Some p) = spoken-fine p name
        by None = used-fine way name nested

    declares-fine : (way : Declaration) (name : List ℕ) (o : Option Scope) → Fine (outcome (declared_by turns bank way name w o) bank).after.own
    declares-fine way name None = fine
    declares-fine way name (Some s) =
        let e : Entity = entity_of w.written way name s.path in
        let query = under w.own (standing (turns_at turns w) s e) in
        subst (λ (v : Visit). Fine v.after.own) (sym (outcome-and_then query (λ there. Done (declared_visit w way s e there)) bank)) (declared-fine (outcome query bank) e w.own fine)

    value-fine : (way : Purpose) (o : Outcome) → Fine (value_visit w way o).after.own
    value-fine purpose.Label (outcome_is.Value v) = fine
    value-fine other (outcome_is.Value v) = fine
    value-fine way (outcome_is.Fault f) = fine
    value-fine way outcome_is.Told = fine

    ends-fine : (o : Option Scope)
        → Fine (elim o as (λ _. Visit) [ None ↦ quiet w | Some s ↦ union_visit w (kind_eq s.kind Union) ]).after.own
    ends-fine None = fine
    ends-fine (Some s) = by (kind_eq s.kind Union)
      where
        by : (b : Bool) → Fine (union_visit w b).after.own
        by true = fine
        by false = fine

    pub site-fine : (site : Item) → AreOutward bank w.cursor → Fine (visited turns bank site w).after.own
    unfolding visit
    site-fine (item.Uses way name) nested = plain-fine way name nested
    site-fine (item.Declares way name) nested = declares-fine way name (first w.cursor)
    site-fine item.ScopeEnds nested = ends-fine (first w.cursor)
    site-fine (item.ValueEnds way e) nested = value-fine way (outcome_at w way e)
    site-fine item.ArrayEnds nested = array-fine w.values.lengths w.last w.own fine
    site-fine (item.ScopeBegins way name) nested = fine
    site-fine item.ValueBegins nested = fine
    site-fine (item.TypeEnds shape) nested = fine
    site-fine (item.Enumerates names) nested = fine
    site-fine (item.Identifies text) nested = fine
    site-fine (item.Switches discrete) nested = fine
    site-fine item.Default nested = fine
    site-fine item.GivesBack nested = fine
    site-fine (item.Plain n) nested = fine
    site-fine (item.Says purpose text) nested = fine

  -- what a pragma says
  abbrev FineSaid : Said → Type 0
  FineSaid s = Fine s.additions

  entity-fine : (at : ℕ) (change : Fixed) (e : Entity) → FineSaid (outcome (about_entity at change e) bank)
  entity-fine at change e = by (has_id e.kind)
    where
      one : (o : Option Identity) → FineSaid (elim o as (λ _. Said) [ None ↦ refused_for [] | Some d ↦ said_at at change e.path d ])
      one None = All-nil (AreStops bank)
      one (Some d) = All-cons (AreStops bank) _ [] tt (All-nil (AreStops bank))

      by : (b : Bool)
          → FineSaid (outcome (cond b (and_then (known e.path) (λ d. Done (elim d as (λ _. Said) [ None ↦ refused_for [] | Some d ↦ said_at at change e.path d ]))) (Done (refused_for (fault_at at NoRepositoryId ∷ [])))) bank)
      by true =
          subst FineSaid (sym (outcome-and_then (known e.path) (λ d. Done (elim d as (λ _. Said) [ None ↦ refused_for [] | Some d ↦ said_at at change e.path d ])) bank))
          (one (outcome (known e.path) bank))
      by false = All-nil (AreStops bank)

  about-fine : (scopes : List Scope) (name : ScopedName) (change : Fixed) → FineSaid (outcome (about 2 turns scopes name change) bank)
  about-fine scopes name change =
      let next : Result Found NameFault → Lookup Said = λ r. by_result r (λ found. about_entity (last_at 2 name) change found.entity) (λ fault. Done (refused_for (unnamed_faults 2 name fault))) in
      subst FineSaid (sym (outcome-and_then (denoted turns scopes name) next bank)) (by (outcome (denoted turns scopes name) bank))
    where
      by : (r : Result Found NameFault) → FineSaid (outcome (by_result r (λ found. about_entity (last_at 2 name) change found.entity) (λ fault. Done (refused_for (unnamed_faults 2 name fault)))) bank)
      by (Ok found) = entity-fine (last_at 2 name) change found.entity
      by (Err fault) = All-nil (AreStops bank)

  said-fine : (scopes : List Scope) (p : Pragma) → FineSaid (outcome (said turns scopes p) bank)
  said-fine scopes (pragma.Prefix text) = All-nil (AreStops bank)
  said-fine scopes (pragma.Version name major minor) = about-fine scopes name (Version major minor)
  said-fine scopes (pragma.Id name text) =
      subst FineSaid (sym (outcome-and_then (about 2 turns scopes name (Id text)) (λ s. Done (with_faults (text_faults (last_at 2 name + 1) text) s)) bank)) (about-fine scopes name (Id text))

-- ---- units

module _ (facts : List UnitFacts) (told : AreTold facts) where
  k : IsSettled (world facts)
  k = settled facts told

  abbrev turns : ℕ
  turns = turns_for facts

  abbrev bank : Key → Option Answer
  bank = answers facts

  abbrev around : List Scope
  around = scopes_in (answers facts Cursor)

  enough : turns_for facts ≤ turns_for facts
  enough = omega arith

  sites-fine : (sites : List Item) (w : Walk) (s : Scene) → Walks facts k turns enough w s → AreSited sites s → visit_faults turns bank sites w ≡ [] → Fine bank turns w.own → Fine bank turns (walked turns bank sites w).own
  sites-fine [] w s walks sited none fine = fine
  sites-fine (site ∷ sites) w s walks sited none fine =
      let v : Visit = visited turns bank site w in
      let parts = none-append v.faults (visit_faults turns bank sites v.after) none in
      let nested : AreOutward bank w.cursor = cursor-outward facts k (told-kept facts told).stacked turns enough w.own walks.grown s.level w.cursor walks.cursor in
      sites-fine sites v.after (scene_after site s) (site-walks facts k turns enough site w s walks sited.0 parts.0) sited.1 parts.1 (site-fine bank turns w fine site nested)

  -- the sites of a unit
  tree-fine : (t : Tree) → AreSited (items (unit_parts t)) scene → site_faults turns bank (items (unit_parts t)) (first_walk around) ≡ [] → Fine bank turns (walked turns bank (items (unit_parts t)) (first_walk around)).own
  tree-fine t sited none =
      sites-fine (items (unit_parts t)) (first_walk around) scene (first-walks facts k turns enough) sited (whole-none turns bank (items (unit_parts t)) (first_walk around) none) (All-nil (AreStops bank))

  -- a name alone uses nothing
  lone-fine : (n m : ℕ) (way : Declaration) (name : List ℕ) → Fine bank turns (walked turns bank (item.Plain n ∷ item.Declares way name ∷ item.Plain m ∷ []) (first_walk around)).own
  unfolding visit
  lone-fine n m way name = declares-fine bank turns (passed n (first_walk around)) (All-nil (AreStops bank)) way name (first around)

  module _ (tokens : List Token) where
    abbrev Fits : Tree → Type 0
    Fits t =
        lexemes tokens ≡ spell t → site_faults turns bank (items (unit_parts t)) (first_walk around) ≡ [] → Fine bank turns (walked turns bank (items (unit_parts t)) (first_walk around)).own

    ahead-fine : (t : Tree) → is_plain t ≡ false → Fits t
    unfolding unit_parts
    ahead-fine (tree.Module name) plain spelled none = lone-fine 1 1 declaration.Module name
    ahead-fine (tree.Forward (forward.Interface is_local name)) plain spelled none = lone-fine _ 1 (declaration.InterfaceAhead is_local) name
    ahead-fine (tree.Forward (forward.Structure name)) plain spelled none = lone-fine 1 1 declaration.StructureAhead name
    ahead-fine (tree.Forward (forward.Union name)) plain spelled none = lone-fine 1 1 declaration.UnionAhead name
    ahead-fine (tree.Interface i) plain spelled none =
        tree-fine (tree.Interface i) (
          tt,
          (
            (refl, (declared-named tokens (tree.Interface i) spelled (declaration.Interface i.is_local) i.name (inr (inl refl)), λ z. cc)),
            rest-sited (items (if_some (bases_parts i.is_local) i.bases ++ punctuation mark.OpenBrace ∷ [])) scene (bases-rest i.is_local i.bases),
          ),
        ) none
    ahead-fine other plain spelled none = cc

    any-fine : (t : Tree) → Fits t
    any-fine t = by (is_plain t) refl
      where
        by : (b : Bool) → is_plain t ≡ b → Fits t
        by true plain spelled none = tree-fine t (tree-sited tokens t spelled plain) none
        by false plain spelled none = ahead-fine t plain spelled none

    sound-fine : (v : Verdict) → IsSound turns bank around tokens v → Fine bank turns v.writes.additions
    sound-fine v s =
        let w : Walk = walked turns bank (items (unit_parts s.tree)) (first_walk around) in
        subst (λ (v : Verdict). Fine bank turns v.writes.additions) (sym s.is)
        (finished-fine bank turns (finished w.bases.paths w.values.constant w.clauses) (w.begun ++ raising w.last w.clauses) w.own (any-fine s.tree s.spelled s.named))

  -- the uses of a unit are stopped by such scopes alone
  pub unit-stops : (text : UnitText) → All (AreStops bank) (outcome (verdict turns text) bank).writes.additions
  unit-stops (unit.Tokens tokens) = by (outcome (verdict turns (unit.Tokens tokens)) bank).fault refl
    where
      by : (o : Option Fault) → (outcome (verdict turns (unit.Tokens tokens)) bank).fault ≡ o → All (AreStops bank) (outcome (verdict turns (unit.Tokens tokens)) bank).writes.additions
      by (Some f) is = subst (λ (v : Verdict). All (AreStops bank) v.writes.additions) (sym (faulty-is turns bank tokens f is)) (All-nil (AreStops bank))
      by None is = sound-fine tokens (outcome (verdict turns (unit.Tokens tokens)) bank) (sound-is turns bank tokens is)
  unit-stops (unit.Pragma tokens inside) = by (outcome (verdict turns (unit.Pragma tokens inside)) bank).fault refl
    where
      by : (o : Option Fault) → (outcome (verdict turns (unit.Pragma tokens inside)) bank).fault ≡ o → All (AreStops bank) (outcome (verdict turns (unit.Pragma tokens inside)) bank).writes.additions
      by (Some f) is = subst (λ (v : Verdict). All (AreStops bank) v.writes.additions) (sym (faulty-pragma turns tokens inside bank f is)) (All-nil (AreStops bank))
      by None is =
          let s = spoken-pragma turns tokens inside bank is in
          subst (λ (v : Verdict). All (AreStops bank) v.writes.additions) (sym s.is) (said-fine bank turns around s.pragma)
