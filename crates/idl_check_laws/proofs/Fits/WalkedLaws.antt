-- What a walk over such a unit comes to fits the facts before it.
use Rattle.std.proofs.Common.{◌≡◌, ◌⊎◌, ◌∙◌, ℕ, zero, suc, ◌-◌, ◌≤◌, Bool, true, false, cond, List, [], ◌∷◌, ◌++◌, length, Option, Some, None, Result, Ok, Err, refl, sym, ap, subst, arith, inl, inr}
use Rattle.std.proofs.lemmas.Bool.{not-false}
use Rattle.std.specs.Prelude.{◌≢◌, ◌&&◌, drop, All, fold}
use Rattle.idl_check.proofs.UseLemmas.{DeclareNone, uses-none}
use Rattle.idl_scope.specs.declared.found.Reach.{Reach}
use Rattle.idl_check_laws.proofs.Fits.ClosingLaws.{IsFitting, IsSettled, StepFits}
use Rattle.idl_check_laws.proofs.Fits.GrowingLaws.{Grows, IsGrown, IsMine, IsNew, grows-beside, grows-none, grows-on, grows-with}
use Rattle.idl_check_laws.proofs.Nests.AroundLaws.{used-none}
use Rattle.idl_check_laws.proofs.StandingLaws.{IsDeclared, denoted-declared}
use Rattle.idl_check_laws.proofs.Fits.TurnedLaws.{joined-out}
use Rattle.idl_check.proofs.Visits.VisitLemmas.{turns-here}
use Rattle.idl_check_laws.proofs.Fits.ReachedLaws.{IsClosed, IsClosedAt, Names, Place, only, own, there}
use Rattle.idl_check_laws.proofs.Fits.SettledLaws.{IsNamed, IsNameless, IsOpen, IsPlace, added-kept, closed-before, over}
use Rattle.idl_check.proofs.PartLemmas.{IsUpTo}
use Rattle.idl_check.proofs.Visits.SiteLaws.{declared_by, denoted-up, end_visit, union_visit, used_by, visited, spoken_by}
use Rattle.idl_check.proofs.Faults.VisitFaults.{visit_faults}
use Rattle.idl_check.proofs.Visits.WalkLaws.{none-append}
use Rattle.idl_check.proofs.Visits.WholeLaws.{whole-none}
use Rattle.idl_check_laws.proofs.Fits.WalkingLaws.{AreSited, D, IsCursor, IsSited, Walks, allowed, cursor-on, declared-grows, fresh-way, scopes}
use Rattle.idl_check_laws.proofs.Nests.Scenes.{Scene, scene_after}
use Rattle.idl_check.proofs.Faults.TableLaws.{no-row}
use Rattle.idl_check.specs.told.Bodies.{Body, Clauses, array_of, told_innermost, begun_body, is_member, member_of, raises, raising, signature_of, with_array_member, with_array_type, with_body_label, with_innermost, with_last_type, with_member, with_next_label}
use Rattle.idl_check.specs.tables.Declaring.{entity_of, finished, kind_of, standing, with_finished}
use Rattle.idl_check.specs.walk.AllFaults.{site_faults}
use Rattle.idl_check.specs.walk.Judging.{walked}
use Rattle.idl_check.specs.told.Labels.{Labels}
use Rattle.idl_tree.specs.NameParts.{last_at}
use Rattle.idl_check.specs.walk.Placing.{step_of}
use Rattle.idl_check.specs.told.Types.{looked_through}
use Rattle.idl_check.specs.tables.Codes.{codes_in}
use Rattle.idl_check.specs.tables.Rules.{is_open_base, suits}
use Rattle.idl_check.specs.tables.Using.{Bases, base_table, bases_after, last_after, own_after, uses_of, with_uses}
use Rattle.idl_fault.specs.declared.code.Code.TheVariants as code
use Rattle.idl_check.specs.walk.Verdict.{sound}
use Rattle.idl_check.specs.walk.Walk.{Visit, Walk, declared_visit, ended_array, ended_scope, first_walk, is_begun, outcome_at, passed, turns_at, used, used_after, used_visit, value_visit, visit, with_array, with_scope, plain_name, spoken_of, spoken_visit, unspoken_visit}
use Rattle.idl_lex.specs.kinds.Keywords.{folded}
use Rattle.idl_lex.specs.tokens.Tokens.{Token}
use Rattle.idl_memo.proofs.QueryLaws.{outcome-and_then}
use Rattle.idl_memo.specs.Query.{Done, outcome}
use Rattle.idl_scope.proofs.Constructors.{some_same, none_some}
use Rattle.idl_scope.proofs.FactsLaws.{outcome-under}
use Rattle.idl_scope.proofs.LookupLaws.LookupLaws.{denotes}
use Rattle.idl_env.proofs.Membership.{IsIn, IsIn-one, IsIn-split}
use Rattle.idl_entity.specs.Entity.{is_operation}
use Rattle.idl_env.specs.Facts.{UnitFacts, World, answer_of, answers, entity_in, path_around, with_addition, with_additions, world}
use Rattle.idl_entity.specs.Kind.{kind_eq, same_kind, same_stage, stage_eq}
use Rattle.idl_scope.specs.Lookup.{denoted, under, Lookup}
use Rattle.idl_scope.specs.Meaning.{Denotes, Through, bases_of, entity_found, seen}
use Rattle.idl_entity.specs.Path.{name_of, scope_of}
use Rattle.idl_env.specs.Turns.{turns_for}
use Rattle.idl_env.specs.declared.additions.addition.Addition.{Addition}
use Rattle.idl_env.specs.declared.additions.addition.Addition.TheVariants.{Declares}
use Rattle.idl_env.specs.declared.answering.answer.Answer.{Answer}
use Rattle.idl_env.specs.declared.answering.answer.Scope.{Scope}
use Rattle.idl_entity.specs.declared.entity.Entity.{Entity}
use Rattle.idl_entity.specs.declared.kind.Kind.{Kind}
use Rattle.idl_entity.specs.declared.kind.Kind.TheVariants as kind
use Rattle.idl_scope.specs.declared.fault.NameFault.{NameFault}
use Rattle.idl_scope.specs.declared.fault.NameFault.TheVariants.{At as Faulty, Memory}
use Rattle.idl_scope.specs.declared.found.Found.{Found}
use Rattle.idl_entity.specs.declared.kind.Stage.TheVariants.{Complete, Open}
use Rattle.idl_parts.specs.Item.{Item, items}
use Rattle.idl_parts.specs.Part.{Part as item}
use Rattle.idl_parts.specs.UnitParts.{unit_parts}
use Rattle.idl_parts.specs.declared.part.Declaration.{Declaration}
use Rattle.idl_parts.specs.declared.part.Purpose.{Purpose}
use Rattle.idl_parts.specs.declared.part.Purpose.TheVariants as purpose
use Rattle.idl_parts.specs.declared.part.Use.{Use}
use Rattle.idl_parts.specs.declared.part.Use.TheVariants.{AsBase, AsStructBase, AsType}
use Rattle.idl_tree.specs.declared.name.ScopedName.{ScopedName}
use Rattle.idl_tree.specs.declared.unit.Tree.{Tree}
use Rattle.idl_value.specs.declared.outcome.Outcome.{Outcome}
use Rattle.idl_value.specs.declared.outcome.Outcome.TheVariants as result
use Rattle.idl_value.specs.declared.value.Value.{Value}
use Rattle.idl_unit.specs.TokenRules.{first}
use Rattle.idl_parts.specs.declared.part.TextPurpose.{TextPurpose}
use Rattle.idl_check.specs.ids.Remarks.{purpose_of, remark}
use Rattle.std.proofs.lemmas.List.Elements.{All-head, All-tail}
use Rattle.idl_check.proofs.Visits.RemarkLaws.{IsOfIds, of-ids-apart, remark-is}

-- ---- bodies are of the same entities

abbrev AreOf : List Body → List Body → Type 0
AreOf bodies more = (b : Body) → IsIn b more → (c : Body) × IsIn c bodies × (c.entity ≡ b.entity)

innermost-of : (f : Body → Body) → ((b : Body) → (f b).entity ≡ b.entity) → (bodies : List Body) → AreOf bodies (with_innermost f bodies)
innermost-of f same [] b i = absurd i
innermost-of f same (c ∷ bodies) b (inl h) = (c, inl refl, sym (same c) ∙ ap (λ (x : Body). x.entity) h)
innermost-of f same (c ∷ bodies) b (inr i) = (b, inr i, refl)

module _ (facts : List UnitFacts) (k : IsSettled (world facts)) (turns : ℕ) (enough : turns_for facts ≤ turns) where
  abbrev names : Names
  names = D facts k turns enough

  abbrev around : List Scope
  around = scopes facts k turns enough

  abbrev Mine : List Addition → Entity → Type 0
  Mine own e = IsMine names around own e

  abbrev Grow : List Addition → List Addition → Type 0
  Grow xs ys = Grows names around xs ys

  abbrev At : Walk → Scene → Type 0
  At w s = Walks facts k turns enough w s

  -- a name of the unit's own that takes its place
  renewed : (additions : List Addition) (e z : Entity) → IsGrown names around additions → Mine additions e → z.path ≡ e.path → z.kind ≡ e.kind → IsOpen z → IsNew names around (over additions names) z
  renewed additions e z g m path kind other =
      let x = m.1.0 in
      let a = g.added x m.1.1 in
      let to_z : x.path ≡ z.path = m.1.2 ∙ sym path in
      let operation : is_operation x ≡ is_operation z = ap (λ q. is_operation (record x { kind = q })) (m.1.3 ∙ sym kind) in
      record {
        other = other;
        named = subst IsNamed to_z a.named;
        fresh = λ y h. a.fresh y (ap (there names) to_z ∙ h);
        place = subst (λ p. IsPlace (over additions names) (scope_of p)) to_z a.place;
        inner = subst (λ p. length (path_around around) ≤ length (scope_of p)) to_z a.inner;
        level = λ h. ap scope_of (sym to_z) ∙ a.level (operation ∙ h);
        beside = λ less. ap scope_of (sym to_z) ∙ a.beside (subst (λ p. IsNameless (scope_of p)) (sym to_z) less);
        apart = λ scope f y at at_path interface t op. a.apart (ap scope_of to_z ∙ scope) f y at at_path interface (subst (λ p. Through (only names) (folded (name_of p)) (bases_of (Some f)) y) (sym to_z) t) op;
        replaces =
            λ y h ahead. let stands : there (over additions names) x.path ≡ Some x = ap (λ o. entity_in (elim o as (λ _. Option Answer) [ None ↦ names (folded (name_of x.path)) (scope_of x.path) | Some b ↦ Some (answer_of b) ])) m.1.1 in
            let one : x ≡ y = some_same (sym stands ∙ ap (there (over additions names)) to_z ∙ h) in
            (ap (λ (q : Entity). q.path) (sym one) ∙ to_z, ap (λ (q : Entity). q.kind) (sym one) ∙ m.1.3 ∙ sym kind);
      }

  renews : (additions : List Addition) (e z : Entity) → IsGrown names around additions → Mine additions e → z.path ≡ e.path → z.kind ≡ e.kind → IsOpen z → Grow additions (with_addition additions (Declares z))
  renews additions e z g m path kind other = grows-with names around additions z g (renewed additions e z g m path kind other)

  -- uses change no name
  all-grow : (uses : List Addition) → DeclareNone uses → (additions : List Addition) → IsGrown names around additions → Grow additions (fold with_addition additions uses)
  all-grow [] none additions g = grows-none names around additions g
  all-grow (a ∷ uses) none additions g =
      let one = grows-beside names around additions a g none.0 in
      grows-on names around additions (with_addition additions a) (fold with_addition (with_addition additions a) uses) one (all-grow uses none.1 (with_addition additions a) one.grown)

  uses-grow : (n : List ℕ) (r : Reach) (scopes : List Scope) (additions : List Addition) → IsGrown names around additions → Grow additions (with_uses n r scopes additions)
  uses-grow n r scopes additions g = all-grow (uses_of n r scopes additions) (uses-none n r scopes additions) additions g

  -- the unit's end finishes names of its own
  abbrev AreMine : List Addition → List Entity → Type 0
  AreMine own es = (e : Entity) → IsIn e es → Mine own e

  pub finish-grows : (finish : Entity → Entity) → ((e : Entity) → IsOpen e → ((finish e).path ≡ e.path) × ((finish e).kind ≡ e.kind) × IsOpen (finish e))
      → (es : List Entity) (own : List Addition) → IsGrown names around own → AreMine own es → Grow own (with_finished finish own es)
  finish-grows finish same [] own g all = grows-none names around own g
  finish-grows finish same (e ∷ es) own g all =
      let m = all e (inl refl) in
      let f = same e m.0 in
      let one = renews own e (finish e) g m f.0 f.1 f.2 in
      let more = with_addition own (Declares (finish e)) in
      grows-on names around own more (with_finished finish own (e ∷ es)) one (finish-grows finish same es more one.grown (λ x i. one.mine x (all x (inr i))))

  -- where more is added, and nothing else but these fields changes
  pub walks-on : (w v : Walk) (s : Scene) → At w s → Grow w.own v.own → v.cursor ≡ w.cursor → v.begun ≡ w.begun → v.last ≡ w.last → AreOf w.bodies v.bodies → ((b : Place) → IsIn b v.bases.paths → IsClosedAt names b) → At v s
  walks-on w v s h g cursor begun last bodies bases = record {
    grown = g.grown;
    begun = λ e i. g.mine e (h.begun e (subst (IsIn e) begun i));
    last = λ e is. g.mine e (h.last e (sym last ∙ is));
    named = λ name t rest is at. let r = h.named name t rest is (sym cursor ∙ at) in (r.0, last ∙ r.1, r.2, r.3);
    bodies = λ b i e is. let c = bodies b i in let m = h.bodies c.0 c.1 e (c.2 ∙ is) in (g.mine e m.0, m.1);
    cursor = subst (IsCursor facts k turns enough v.own s.level) (sym cursor) (cursor-on facts k turns enough w.own v.own g s.level w.cursor h.cursor);
    bases = bases;
  }

  same-bodies : (bodies : List Body) → AreOf bodies bodies
  same-bodies bodies b i = (b, i, refl)

  -- ---- a declared name

  begun-of : (b : Bool) (e x : Entity) → IsIn x (cond b (e ∷ []) []) → e ≡ x
  begun-of true e x (inl h) = h
  begun-of true e x (inr h) = absurd h
  begun-of false e x h = absurd h

  member-of : (way : Declaration) (e : Entity) (bodies : List Body) → AreOf bodies (with_member way e bodies)
  member-of way e bodies = innermost-of (λ b. cond (is_member e.kind) (record b { members = b.members ++ member_of way e b.labels ∷ []; labels = [] }) b) (λ b. by_kind b (is_member e.kind)) bodies
    where
      by_kind : (b : Body) (t : Bool) → (cond t (record b { members = b.members ++ member_of way e b.labels ∷ []; labels = [] }) b).entity ≡ b.entity
      by_kind b true = refl
      by_kind b false = refl

  -- some scope is open
  cursor-some : (added : List Addition) (n : ℕ) → IsCursor facts k turns enough added n [] → ⊥
  cursor-some added zero h = k.some (sym h)
  cursor-some added (suc n) h = h

  last-name : (of : Kind) (name n : List ℕ) → cond (kind_eq of kind.Interface) None (Some name) ≡ Some n → (name ≡ n) × (of ≢ kind.Interface)
  last-name of name n h = by_kind (kind_eq of kind.Interface) refl h
    where
      by_kind : (b : Bool) → kind_eq of kind.Interface ≡ b → cond b None (Some name) ≡ Some n → (name ≡ n) × (of ≢ kind.Interface)
      by_kind true is g = absurd (none_some g)
      by_kind false is g = (some_same g, λ same. let z : true ≡ false = sym (ap (λ q. kind_eq q kind.Interface) same) ∙ is in cc)

  walks-declared : (way : Declaration) (name : List ℕ) (w : Walk) (s : Scene) → At w s → IsSited (item.Declares way name) s → (cursor : List Scope) → w.cursor ≡ cursor
      → (outcome (declared_by turns (answers facts) way name w (first cursor)) (answers facts)).faults ≡ [] → At (outcome (declared_by turns (answers facts) way name w (first cursor)) (answers facts)).after (scene_after (item.Declares way name) s)
  walks-declared way name w s h sited [] is none = absurd (cursor-some w.own s.level (subst (IsCursor facts k turns enough w.own s.level) is h.cursor))
  walks-declared way name w s h sited (t ∷ rest) is none =
      let e = entity_of w.written way name t.path in
      let query = under w.own (standing (turns_at turns w) t e) in
      let st = outcome query (answers facts) in
      let same = outcome-and_then query (λ there. Done (declared_visit w way t e there)) (answers facts) in
      let ok = allowed w.at t st e (ap (λ (v : Visit). v.faults) (sym same) ∙ none) in
      let g = declared-grows facts k turns enough w s h t rest is way name sited ok in
      let fresh = fresh-way w way name t.path sited.0 in
      let mine : Mine (declared_visit w way t e st).after.own e = ((fresh.ahead, fresh.unclosed), (e, g.1, refl, refl)) in
      subst (λ (v : Visit). At v.after (scene_after (item.Declares way name) s)) (sym same)
      (record {
        grown = g.0.grown;
        begun = λ x i. elim (IsIn-split x w.begun (cond (is_begun e) (e ∷ []) []) i) as (λ _. Mine (declared_visit w way t e st).after.own x) [
          | inl j ↦ g.0.mine x (h.begun x j)
          | inr j ↦ subst (Mine (declared_visit w way t e st).after.own) (begun-of (is_begun e) e x j) mine
        ];
        last = λ x at. subst (Mine (declared_visit w way t e st).after.own) (some_same at) mine;
        named = λ n u more last at. (
          e,
          refl,
          let scope : t ≡ u = let z : t ∷ rest ≡ u ∷ more = sym is ∙ at in cc in
              let spelled : name ≡ n = (last-name (kind_of way) name n last).0 in
              λ i. spelled i ∷ (scope i).path,
          (last-name (kind_of way) name n last).1,
        );
        bodies = λ b i x at. let c = member-of way e w.bodies b i in let m = h.bodies c.0 c.1 x (c.2 ∙ at) in (g.0.mine x m.0, m.1);
        cursor = cursor-on facts k turns enough w.own (declared_visit w way t e st).after.own g.0 s.level w.cursor h.cursor;
        bases = h.bases;
      })

  -- ---- a used name

  -- a base is a closed interface
  base-closed : (w : Walk) (s : Scene) (e : Entity) (is_local : Bool) → At w s → IsDeclared (seen w.own facts) e → (suits (AsBase is_local) e ≡ true) × (codes_in (base_table is_local w.bases e) ≡ []) → IsClosedAt names e.path
  base-closed w s e is_local h stands ok =
      let B = over w.own names in
      let after = added-kept names around (world facts).inside w.own k h.grown.added h.grown.once in
      let at = after.named stands.0 stands.1 e stands.2 in
      let there_e : there B e.path ≡ Some e = (λ i. own B (sym at.1 i) (sym at.2 i)) ∙ stands.2 in
      let open_no : is_open_base e ≡ false = (no-row (is_open_base e) code.IncompleteBase _ ok.1).0 in
      let complete : e.stage ≡ Complete = same_stage e.stage Complete (not-false (stage_eq e.stage Complete) open_no) in
      let closed : IsClosed B e = record { stands = there_e; kind = same_kind e.kind kind.Interface ok.0; stage = complete } in
      (e, closed-before names around (world facts).inside w.own k h.grown.added h.grown.once e closed, refl)

  bases-used : (way : Use) (name : ScopedName) (w : Walk) (s : Scene) (found : Found) (behind : Entity) → IsDeclared (seen w.own facts) found.entity
      → (used_visit w way name found behind).faults ≡ [] → At w s → (b : Place) → IsIn b (bases_after way found.entity w.bases).paths → IsClosedAt names b
  bases-used (AsBase is_local) name w s found behind stands none h b i = by_side (joined-out b w.bases.paths (found.entity.path ∷ []) i)
    where
      by_side : IsIn b w.bases.paths ⊎ IsIn b (found.entity.path ∷ []) → IsClosedAt names b
      by_side (inl j) = h.bases b j
      by_side (inr j) =
          subst (IsClosedAt names) (IsIn-one found.entity.path b j)
          (base-closed w s found.entity is_local h stands (used-none (last_at w.at name) w (AsBase is_local) found.entity behind none))
  bases-used AsType name w s found behind stands none h b i = h.bases b i
  bases-used other name w s found behind stands none h b i = h.bases b i

  -- a struct takes its own place over its base
  over-base : (way : Use) (path : Place) (o : Option Entity) (w : Walk) (s : Scene) → w.last ≡ o → At w s
      → At (record w { own = own_after way (last_after way path o) w.own; last = last_after way path o }) s
  over-base AsStructBase path (Some e) w s is h =
      let z : Entity = record e { stage = Open; bases = path ∷ [] } in
      let other : IsOpen z = (λ t. cc, λ interface t. cc) in
      let g = renews w.own e z h.grown (h.last e is) refl refl other in
      record {
        grown = g.grown;
        begun = λ x i. g.mine x (h.begun x i);
        last = λ x at. subst (Mine (with_addition w.own (Declares z))) (some_same at) (other, (g.mine e (h.last e is)).1);
        named = λ name t rest last at. let r = h.named name t rest last at in let same : e ≡ r.0 = some_same (sym is ∙ r.1) in (
          z,
          refl,
          ap (λ (x : Entity). x.path) same ∙ r.2,
          subst (λ (x : Entity). x.kind ≢ kind.Interface) (sym same) r.3,
        );
        bodies = λ b i x at. let m = h.bodies b i x at in (g.mine x m.0, m.1);
        cursor = cursor-on facts k turns enough w.own (with_addition w.own (Declares z)) g s.level w.cursor h.cursor;
        bases = h.bases;
      }
  over-base other path o w s is h = subst (λ o. At (record w { last = o }) s) is h

  used-by-walks : (way : Use) (name : ScopedName) (w : Walk) (s : Scene) (r : Result Found NameFault) → IsUpTo {A = Found} (length name.rest) r → Denotes (seen w.own facts) w.cursor name (entity_found r)
      → (outcome (used_by turns (answers facts) way name w r) (answers facts)).faults ≡ [] → At w s → At (outcome (used_by turns (answers facts) way name w r) (answers facts)).after s
  used-by-walks way name w s (Ok found) up denotes_it none h =
      let query = under w.own (looked_through (turns_at turns w) way found.entity) in
      let same = outcome-and_then query (λ behind. Done (used_visit w way name found behind)) (answers facts) in
      let stands = denoted-declared (seen w.own facts) w.cursor name found.entity denotes_it in
      let behind = outcome query (answers facts) in
      let used_now : Walk = record (used_after w way name found behind) { own = with_uses (folded name.first) found.reach w.cursor w.own; last = w.last } in
      subst (λ (v : Visit). At v.after s) (sym same)
      (over-base way found.entity.path w.last used_now s refl
      (walks-on w used_now s h (uses-grow (folded name.first) found.reach w.cursor w.own h.grown) refl refl refl (same-bodies w.bodies)
      (bases-used way name w s found behind stands (ap (λ (v : Visit). v.faults) (sym same) ∙ none) h)))
  used-by-walks way name w s (Err (Faulty why part)) up denotes_it none h = cc
  used-by-walks way name w s (Err Memory) up denotes_it none h = absurd up

  used-walks : (way : Use) (name : ScopedName) (w : Walk) (s : Scene) → (outcome (used turns way name w) (answers facts)).faults ≡ [] → At w s → At (outcome (used turns way name w) (answers facts)).after s
  unfolding used
  used-walks way name w s none h =
      let query = under w.own (denoted (turns_at turns w) w.cursor name) in
      let same = outcome-and_then query (used_by turns (answers facts) way name w) (answers facts) in
      subst (λ (v : Visit). At v.after s) (sym same)
      (used-by-walks way name w s (outcome query (answers facts)) (denoted-up turns (answers facts) name w)
      (let Q : Result Found NameFault → Type 0 = λ r. Denotes (seen w.own facts) w.cursor name (entity_found r) in
      subst Q (sym (outcome-under w.own (answers facts) (denoted (turns_at turns w) w.cursor name)))
      (denotes facts w.own (turns_at turns w) (turns-here facts w.own turns enough) w.cursor name))
      (ap (λ (v : Visit). v.faults) (sym same) ∙ none) h)

  -- what tells of ids changes no name
  ids-grow : (more own : List Addition) → All IsOfIds more → IsGrown names around own → Grow own (fold with_addition own more)
  ids-grow [] own all g = grows-none names around own g
  ids-grow (a ∷ more) own all g =
      let one = grows-beside names around own a g (λ m q. of-ids-apart a m q (All-head IsOfIds a more all)) in
      grows-on names around own (with_addition own a) (fold with_addition own (a ∷ more)) one (ids-grow more (with_addition own a) (All-tail IsOfIds a more all) one.grown)

  spoken-by-walks : (p : TextPurpose) (name : ScopedName) (w : Walk) (s : Scene) (r : Result Found NameFault) → At w s → At (outcome (spoken_by turns (answers facts) p name w r) (answers facts)).after s
  spoken-by-walks p name w s (Ok found) h =
      let query = under w.own (remark p (last_at w.at name) w.text found.entity) in
      let said = outcome query (answers facts) in
      let is = remark-is w.own (answers facts) p (last_at w.at name) w.text found.entity in
      subst (λ (v : Visit). At v.after s) (sym (outcome-and_then query (λ s. Done (spoken_visit w name found s)) (answers facts)))
      (walks-on w (spoken_visit w name found said).after s h (ids-grow said.additions w.own is.adds h.grown) refl refl refl (same-bodies w.bodies) h.bases)
  spoken-by-walks p name w s (Err fault) h = walks-on w (unspoken_visit w name fault).after s h (grows-none names around w.own h.grown) refl refl refl (same-bodies w.bodies) h.bases

  spoken-walks : (p : TextPurpose) (name : ScopedName) (w : Walk) (s : Scene) → At w s → At (outcome (spoken_of turns p name w) (answers facts)).after s
  unfolding spoken_of
  spoken-walks p name w s h =
      let query = under w.own (denoted (turns_at turns w) w.cursor name) in
      subst (λ (v : Visit). At v.after s) (sym (outcome-and_then query (spoken_by turns (answers facts) p name w) (answers facts)))
      (spoken-by-walks p name w s (outcome query (answers facts)) h)

  any-walks : (way : Use) (name : ScopedName) (w : Walk) (s : Scene) → (outcome (plain_name turns way name w) (answers facts)).faults ≡ [] → At w s → At (outcome (plain_name turns way name w) (answers facts)).after s
  any-walks way name w s none h = by_purpose (purpose_of way) none
    where
      by_purpose : (o : Option TextPurpose) → (outcome (elim o as (λ _. Lookup Visit) [ None ↦ used turns way name w | Some p ↦ spoken_of turns p name w ]) (answers facts)).faults ≡ []
          → At (outcome (elim o as (λ _. Lookup Visit) [ None ↦ used turns way name w | Some p ↦ spoken_of turns p name w ]) (answers facts)).after s
      by_purpose (Some p) clean = spoken-walks p name w s h
      by_purpose None clean = used-walks way name w s clean h

  -- ---- scopes that begin and end

  cursor-least : (added : List Addition) (n : ℕ) (t : Scope) (rest : List Scope) → IsCursor facts k turns enough added n (t ∷ rest) → length (path_around around) ≤ length t.path
  cursor-least added zero t rest h = let same : length t.path ≡ length (path_around around) = ap (λ ss. length (path_around ss)) h in omega (arith, same)
  cursor-least added (suc n) t rest h = let l = h.1.0.deeper in omega (arith, l)

  cursor-ends : (added : List Addition) (n : ℕ) (cursor : List Scope) → 1 ≤ n → IsCursor facts k turns enough added n cursor → IsCursor facts k turns enough added (n - 1) (drop 1 cursor)
  cursor-ends added zero cursor some h = absurd (let none : ⊥ = omega (arith, some) in none)
  cursor-ends added (suc n) [] some h = absurd h
  cursor-ends added (suc n) (t ∷ cursor) some h = let same : n ≡ suc n - 1 = omega arith in subst (λ m. IsCursor facts k turns enough added m cursor) same h.1.1.1

  begins : (way : Declaration) (name : List ℕ) (w : Walk) (s : Scene) → At w s → s.last ≡ Some name → (cursor : List Scope) → w.cursor ≡ cursor
      → At (record w { cursor = with_scope way name cursor; bodies = begun_body w.last w.written.data_type ∷ w.bodies }) (scene_after (item.ScopeBegins way name) s)
  begins way name w s h last cursor is = record {
    grown = h.grown;
    begun = h.begun;
    last = h.last;
    named = λ n t rest none at. absurd (none_some none);
    bodies = by_body;
    cursor = by_cursor cursor is;
    bases = h.bases;
  }
    where
      plain : (ss : List Scope) → w.cursor ≡ ss → (e : Entity) → w.last ≡ Some e → e.kind ≢ kind.Interface
      plain [] at e last_e = absurd (cursor-some w.own s.level (subst (IsCursor facts k turns enough w.own s.level) at h.cursor))
      plain (t ∷ rest) at e last_e = let r = h.named name t rest last at in subst (λ (x : Entity). x.kind ≢ kind.Interface) (some_same (sym r.1 ∙ last_e)) r.3

      by_body : (b : Body) → IsIn b (begun_body w.last w.written.data_type ∷ w.bodies) → (e : Entity) → b.entity ≡ Some e → Mine w.own e × (e.kind ≢ kind.Interface)
      by_body b (inl same) e at = (h.last e (ap (λ (x : Body). x.entity) same ∙ at), plain cursor is e (ap (λ (x : Body). x.entity) same ∙ at))
      by_body b (inr i) e at = h.bodies b i e at

      by_cursor : (ss : List Scope) → w.cursor ≡ ss → IsCursor facts k turns enough w.own (suc s.level) (with_scope way name ss)
      by_cursor [] at = absurd (cursor-some w.own s.level (subst (IsCursor facts k turns enough w.own s.level) at h.cursor))
      by_cursor (t ∷ rest) at =
          let r = h.named name t rest last at in
          let m = h.last r.0 r.1 in
          let x = m.1.0 in
          let other = h.grown.other x m.1.1 in
          let path : x.path ≡ name ∷ t.path = m.1.2 ∙ r.2 in
          let stands : there (over w.own names) x.path ≡ Some x = ap (λ o. entity_in (elim o as (λ _. Option Answer) [ None ↦ names (folded (name_of x.path)) (scope_of x.path) | Some b ↦ Some (answer_of b) ])) m.1.1 in
          let cursor_t = subst (IsCursor facts k turns enough w.own s.level) at h.cursor in
          let least = cursor-least w.own s.level t rest cursor_t in
          (inr (inr (x, ap (there (over w.own names)) (sym path) ∙ stands, path, other)), (record { deeper = omega (arith, least); entity = r.0; mine = m; path_is = r.2 }, ((name, refl), cursor_t)))

  told-of : (clauses : Clauses) (bodies : List Body) (own : List Addition) → ((b : Body) → IsIn b bodies → (e : Entity) → b.entity ≡ Some e → Mine own e × (e.kind ≢ kind.Interface)) → (x : Entity) → IsIn x (told_innermost clauses bodies) → Mine own x
  told-of clauses [] own all x i = absurd i
  told-of clauses (b ∷ bodies) own all x i = by_entity b.entity refl i
    where
      by_entity : (o : Option Entity) → b.entity ≡ o → IsIn x (elim o as (λ _. List Entity) [
        | None ↦ []
        | Some e ↦ record e {
          stage = Complete;
          data_type = cond (kind_eq e.kind kind.Union) b.data_type e.data_type;
          signature = Some (signature_of b.members clauses);
        } ∷ []
      ]) → Mine own x
      by_entity None is j = absurd j
      by_entity (Some e) is (inl same) = let m = all b (inl refl) e is in subst (Mine own) same ((λ z. cc, λ interface. absurd (m.1 interface)), m.0.1)
      by_entity (Some e) is (inr j) = absurd j

  later-in : (b : Body) (bodies : List Body) → IsIn b (drop 1 bodies) → IsIn b bodies
  later-in b [] i = i
  later-in b (c ∷ bodies) i = inr i

  ended : (w : Walk) (s : Scene) (unions : List Labels) → At w s → 1 ≤ s.level → At (record (ended_scope w) { unions = unions }) (scene_after item.ScopeEnds s)
  ended w s unions h some = record {
    grown = h.grown;
    begun = λ x i. elim (IsIn-split x w.begun (told_innermost w.clauses w.bodies) i) as (λ _. Mine w.own x) [ inl j ↦ h.begun x j | inr j ↦ told-of w.clauses w.bodies w.own h.bodies x j ];
    last = h.last;
    named = λ n t rest none at. absurd (none_some none);
    bodies = λ b i e at. h.bodies b (later-in b w.bodies i) e at;
    cursor = cursor-ends w.own s.level w.cursor some h.cursor;
    bases = h.bases;
  }

  union-walks : (w : Walk) (s : Scene) (b : Bool) → At w s → 1 ≤ s.level → At (union_visit w b).after (scene_after item.ScopeEnds s)
  union-walks w s true h some = ended w s (drop 1 w.unions) h some
  union-walks w s false h some = ended w s w.unions h some

  end-walks : (w : Walk) (s : Scene) (cursor : List Scope) → w.cursor ≡ cursor → At w s → 1 ≤ s.level → At (end_visit w (first cursor)).after (scene_after item.ScopeEnds s)
  end-walks w s (t ∷ rest) is h some = union-walks w s (kind_eq t.kind kind.Union) h some
  end-walks w s [] is h some = absurd (cursor-some w.own s.level (subst (IsCursor facts k turns enough w.own s.level) is h.cursor))

  -- ---- an array

  array-member : (lengths : List ℕ) (o : Option Entity) (bodies : List Body) → AreOf bodies (with_array_member lengths o bodies)
  array-member lengths None bodies = same-bodies bodies
  array-member lengths (Some e) bodies = innermost-of (with_array_type (array_of lengths e)) (λ b. by_kind b (kind_eq e.kind kind.Member)) bodies
    where
      by_kind : (b : Body) (t : Bool) → (cond t (record b { members = with_last_type (array_of lengths e).data_type b.members }) b).entity ≡ b.entity
      by_kind b true = refl
      by_kind b false = refl

  array-grows : (lengths : List ℕ) (o : Option Entity) (own : List Addition) → IsGrown names around own → ((e : Entity) → o ≡ Some e → Mine own e) → Grow own (with_array lengths o own)
  array-grows lengths None own g last = grows-none names around own g
  array-grows lengths (Some e) own g last = let m = last e refl in renews own e (array_of lengths e) g m refl refl m.0

  labelled : (label : Option Value) (bodies : List Body) → AreOf bodies (with_body_label label bodies)
  labelled label bodies = innermost-of (with_next_label label) (λ b. refl) bodies

  valued-walks : (w : Walk) (s : Scene) (way : Purpose) (o : Outcome) → At w s → At (value_visit w way o).after s
  valued-walks w s purpose.Label (result.Value v) h = walks-on w (value_visit w purpose.Label (result.Value v)).after s h (grows-none names around w.own h.grown) refl refl refl (labelled (Some v) w.bodies) h.bases
  valued-walks w s purpose.Bound (result.Value v) h = walks-on w (value_visit w purpose.Bound (result.Value v)).after s h (grows-none names around w.own h.grown) refl refl refl (same-bodies w.bodies) h.bases
  valued-walks w s purpose.Constant (result.Value v) h = walks-on w (value_visit w purpose.Constant (result.Value v)).after s h (grows-none names around w.own h.grown) refl refl refl (same-bodies w.bodies) h.bases
  valued-walks w s purpose.Length (result.Value v) h = walks-on w (value_visit w purpose.Length (result.Value v)).after s h (grows-none names around w.own h.grown) refl refl refl (same-bodies w.bodies) h.bases
  valued-walks w s way (result.Fault f) h = walks-on w (value_visit w way (result.Fault f)).after s h (grows-none names around w.own h.grown) refl refl refl (same-bodies w.bodies) h.bases
  valued-walks w s way result.Told h = walks-on w (value_visit w way result.Told).after s h (grows-none names around w.own h.grown) refl refl refl (same-bodies w.bodies) h.bases

  -- ---- sites

  -- a site that changes none of all this
  calm : (w v : Walk) (s : Scene) → At w s → v.own ≡ w.own → v.cursor ≡ w.cursor → v.begun ≡ w.begun → v.last ≡ w.last → v.bodies ≡ w.bodies → v.bases ≡ w.bases → At v s
  calm w v s h own cursor begun last bodies bases =
      walks-on w v s h (subst (Grow w.own) (sym own) (grows-none names around w.own h.grown)) cursor begun last (subst (AreOf w.bodies) (sym bodies) (same-bodies w.bodies)) (λ b i. h.bases b (subst (λ (x : Bases). IsIn b x.paths) bases i))

  pub site-walks : (site : Item) (w : Walk) (s : Scene) → At w s → IsSited site s → (visited turns (answers facts) site w).faults ≡ [] → At (visited turns (answers facts) site w).after (scene_after site s)
  unfolding visit
  site-walks (item.Plain n) w s h sited none = calm w (passed n w) s h refl refl refl refl refl refl
  site-walks (item.Declares way name) w s h sited none = walks-declared way name w s h sited w.cursor refl none
  site-walks (item.Uses way name) w s h sited none = any-walks way name w s none h
  site-walks (item.Says purpose text) w s h sited none = calm w (visited turns (answers facts) (item.Says purpose text) w).after s h refl refl refl refl refl refl
  site-walks item.ValueBegins w s h sited none = calm w (visited turns (answers facts) item.ValueBegins w).after s h refl refl refl refl refl refl
  site-walks (item.ValueEnds way e) w s h sited none = valued-walks w s way (outcome_at w way e) h
  site-walks (item.ScopeBegins way name) w s h sited none = begins way name w s h sited w.cursor refl
  site-walks item.ScopeEnds w s h sited none = end-walks w s w.cursor refl h sited
  site-walks (item.TypeEnds shape) w s h sited none = calm w (visited turns (answers facts) (item.TypeEnds shape) w).after s h refl refl refl refl refl refl
  site-walks item.ArrayEnds w s h sited none =
      walks-on w (ended_array w) s h (array-grows w.values.lengths w.last w.own h.grown h.last) refl refl refl (array-member w.values.lengths w.last w.bodies) h.bases
  site-walks (item.Enumerates names) w s h sited none = calm w (visited turns (answers facts) (item.Enumerates names) w).after s h refl refl refl refl refl refl
  site-walks (item.Identifies text) w s h sited none = calm w (visited turns (answers facts) (item.Identifies text) w).after s h refl refl refl refl refl refl
  site-walks (item.Switches discrete) w s h sited none = calm w (visited turns (answers facts) (item.Switches discrete) w).after s h refl refl refl refl refl refl
  site-walks item.Default w s h sited none = walks-on w (visited turns (answers facts) item.Default w).after s h (grows-none names around w.own h.grown) refl refl refl (labelled None w.bodies) h.bases
  site-walks item.GivesBack w s h sited none = calm w (visited turns (answers facts) item.GivesBack w).after s h refl refl refl refl refl refl

  pub sites-walk : (sites : List Item) (w : Walk) (s : Scene) → At w s → AreSited sites s → visit_faults turns (answers facts) sites w ≡ [] → (t : Scene) × At (walked turns (answers facts) sites w) t
  sites-walk [] w s h sited none = (s, h)
  sites-walk (site ∷ sites) w s h sited none =
      let v = visited turns (answers facts) site w in
      let parts = none-append v.faults (visit_faults turns (answers facts) sites v.after) none in
      sites-walk sites v.after (scene_after site s) (site-walks site w s h sited.0 parts.0) sited.1 parts.1

  pub first-walks : At (first_walk around) (record { level = 0; last = None })
  first-walks = record {
    grown = record { once = tt; added = λ x h. absurd (none_some h); other = λ x h. absurd (none_some h) };
    begun = λ e i. absurd i;
    last = λ e h. absurd (none_some h);
    named = λ n t rest none at. absurd (none_some none);
    bodies = λ b i. absurd i;
    cursor = refl;
    bases = λ b i. absurd i;
  }

  -- ---- the unit's end

  finished-same : (bases : List Place) (v : Option Value) (clauses : Clauses) (e : Entity) → IsOpen e
      → ((finished bases v clauses e).path ≡ e.path) × ((finished bases v clauses e).kind ≡ e.kind) × IsOpen (finished bases v clauses e)
  finished-same bases v clauses e other = by_interface (kind_eq e.kind kind.Interface) refl
    where
      by_attribute : (kind_eq e.kind kind.Interface ≡ false) → (b : Bool) → let f = cond b (record e { signature = Some (signature_of [] clauses) }) (record e { stage = Complete; value = v }) in (f.path ≡ e.path) × (f.kind ≡ e.kind) × IsOpen f
      by_attribute not_one true = (refl, refl, other)
      by_attribute not_one false = (refl, refl, (λ z. cc, λ interface. absurd (let z : true ≡ false = sym (ap (λ q. kind_eq q kind.Interface) interface) ∙ not_one in cc)))

      by_interface : (b : Bool) → kind_eq e.kind kind.Interface ≡ b
          → let f = cond b (record e { stage = Open; bases = bases }) (cond (kind_eq e.kind kind.Attribute) (record e { signature = Some (signature_of [] clauses) }) (record e { stage = Complete; value = v })) in
          (f.path ≡ e.path) × (f.kind ≡ e.kind) × IsOpen f
      by_interface true is = (refl, refl, (λ z. cc, λ interface z. cc))
      by_interface false is = by_attribute is (kind_eq e.kind kind.Attribute)

  raising-mine : (own : List Addition) (o : Option Entity) (clauses : Clauses) → ((e : Entity) → o ≡ Some e → Mine own e) → AreMine own (raising o clauses)
  raising-mine own None clauses last x i = absurd i
  raising-mine own (Some e) clauses last x i = subst (Mine own) (begun-of (kind_eq e.kind kind.Attribute && raises clauses) e x i) (last e refl)

  -- what such a unit adds
  abbrev pub additions_of : Walk → List Addition
  additions_of w = with_finished (finished w.bases.paths w.values.constant w.clauses) w.own (w.begun ++ raising w.last w.clauses)

  pub ends-grown : (w : Walk) (s : Scene) → At w s → IsGrown names around (additions_of w)
  ends-grown w s h =
      let es = w.begun ++ raising w.last w.clauses in
      let all : AreMine w.own es =
      λ x i. elim (IsIn-split x w.begun (raising w.last w.clauses) i) as (λ _. Mine w.own x) [ inl j ↦ h.begun x j | inr j ↦ raising-mine w.own w.last w.clauses h.last x j ] in
      (finish-grows (finished w.bases.paths w.values.constant w.clauses) (finished-same w.bases.paths w.values.constant w.clauses) es w.own h.grown all).grown

  -- so it fits
  pub sited-fits : (tokens : List Token) (tree : Tree) → AreSited (items (unit_parts tree)) (record { level = 0; last = None }) → ((u : World) → StepFits u (step_of tree (path_around around)))
      → site_faults turns (answers facts) (items (unit_parts tree)) (first_walk around) ≡ []
      → IsFitting (world facts) (sound tokens around tree (walked turns (answers facts) (items (unit_parts tree)) (first_walk around))).writes
  sited-fits tokens tree sited step none =
      let sites = items (unit_parts tree) in
      let w = walked turns (answers facts) sites (first_walk around) in
      let h = (sites-walk sites (first_walk around) (record { level = 0; last = None }) first-walks sited (whole-none turns (answers facts) sites (first_walk around) none)).1 in
      let g = ends-grown w (sites-walk sites (first_walk around) (record { level = 0; last = None }) first-walks sited (whole-none turns (answers facts) sites (first_walk around) none)).0 h in
      record { once = g.once; added = g.added; step = step (with_additions (additions_of w) (world facts)) }
