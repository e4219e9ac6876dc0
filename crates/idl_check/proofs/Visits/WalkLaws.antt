-- What a walk over sites comes to: its fault is the least of all, and without one all sites were passed.
use Rattle.std.proofs.Common.{◌≡◌, ◌∙◌, ◌+◌, ◌<◌, ◌≤◌, ℕ, Bool, true, false, cond, List, [], ◌∷◌, ◌++◌, Option, Some, None, refl, sym, ap, subst, arith}
use Rattle.std.proofs.lemmas.Bool.{and_parts, ltb-true}
use Rattle.std.proofs.lemmas.List.Elements.{All-weaker}
use Rattle.std.specs.Prelude.{◌&&◌, All, is_some, nat_lt, not}
use Rattle.idl_check.specs.walk.Judging.{walked}
use Rattle.idl_check.specs.walk.Walk.{Visit, Walk, begin_of, cut_name, is_known, is_over, looked_at, noted, noted_in, used, visit, walk, spoken_of}
use Rattle.idl_memo.specs.Query.{Done, and_then, outcome}
use Rattle.idl_memo.proofs.QueryLaws.{outcome-and_then}
use Rattle.idl_scope.specs.Lookup.{Lookup}
use Rattle.idl_env.specs.declared.answering.answer.Answer.{Answer}
use Rattle.idl_env.specs.declared.keys.key.Key.{Key}
use Rattle.idl_parts.specs.Item.{Item}
use Rattle.idl_parts.specs.Part.{Part as item}
use Rattle.idl_parts.specs.declared.part.Use.{Use}
use Rattle.idl_tree.specs.declared.name.ScopedName.{ScopedName}
use Rattle.idl_unit.specs.declared.fault.Fault.{Fault}
use Rattle.idl_check.proofs.Visits.ApartLaws.{faults-apart, with_fault}
use Rattle.idl_check.proofs.Faults.FaultOrder.{Leads, fold-led, leads-later}
use Rattle.idl_check.proofs.Faults.CutLaws.{IsPast, cut, cut-past, cut-same, named, named-past}
use Rattle.idl_check.proofs.Faults.NotedLemmas.{IsLater, noted-append, noted-behind, noted-none}
use Rattle.idl_check.proofs.Visits.SiteLaws.{IsFrom, IsPlaced, begin_before, faults-from, visit-placed, visited}
use Rattle.idl_check.proofs.Faults.VisitFaults.{visit_faults}
use Rattle.idl_parts.specs.declared.part.TextPurpose.{TextPurpose}
use Rattle.idl_check.specs.ids.Remarks.{purpose_of}

-- the fault of a walk that is over stands before those of all later sites
abbrev over_by : Option Fault → Option ℕ → ℕ → Bool
over_by o begin at = elim o [ None ↦ false | Some f ↦ nat_lt f.index at && not (is_some begin) ]

pub none-noted : (fs : List Fault) → noted None fs ≡ None → fs ≡ []
none-noted [] h = refl
none-noted (f ∷ fs) h = cc

pub none-append : (fs gs : List Fault) → fs ++ gs ≡ [] → (fs ≡ []) × (gs ≡ [])
none-append [] gs h = (refl, h)
none-append (f ∷ fs) gs h = (cc, cc)

pub not-over : (o : Option Fault) (begin : Option ℕ) (at : ℕ) → o ≡ None → over_by o begin at ≡ false
not-over None begin at h = refl
not-over (Some f) begin at h = cc

-- what is known before a token is a fault at an earlier one, outside of expressions
known-fault : (o : Option Fault) (begin : Option ℕ) (at : ℕ) → over_by o begin at ≡ true → (f : Fault) × (o ≡ Some f) × (f.index < at) × (begin ≡ None)
known-fault None begin at h = cc
known-fault (Some f) (Some b) at h = let both = and_parts (nat_lt f.index at) false h in let no : false ≡ true = both.1 in cc
known-fault (Some f) None at h = let both = and_parts (nat_lt f.index at) true h in (f, refl, ltb-true f.index at both.0, refl)

still-least : (o : Option Fault) (begin : Option ℕ) (at : ℕ) (fs : List Fault) → over_by o begin at ≡ true → All (IsFrom (begin_before begin at)) fs → o ≡ noted o fs
still-least o begin at fs h from =
    let known = known-fault o begin at h in
    let f = known.0 in
    let after : All (IsFrom at) fs = subst (λ b. All (IsFrom (begin_before b at)) fs) known.3 from in
    subst (λ o. o ≡ noted o fs) (sym known.1) (ap Some (sym (fold-led f fs (All-weaker (IsFrom at) (Leads f) (λ g le. leads-later f g (omega (arith, le, known.2))) fs after))))

module _ (turns : ℕ) (answers : Key → Option Answer) where
  -- ---- a name that is cut

  module _ (way : Use) (name : ScopedName) (sites : List Item) (w : Walk) where
    -- the faults from there on, where this comes of the name
    abbrev all_from : Visit → List Fault
    all_from v = v.faults ++ visit_faults turns answers sites v.after

    rest-later : (v : Visit) → IsPast turns answers way name w v → w.values.begin ≡ None → IsLater w.at (visit_faults turns answers sites v.after)
    rest-later v past none =
        let at : begin_of v.after ≡ v.after.at = ap (λ o. begin_before o v.after.at) (past.1 ∙ none) in
        All-weaker (IsFrom (begin_of v.after)) (λ g. w.at < g.index) (λ g from. omega (arith, from, at, past.0)) (visit_faults turns answers sites v.after) (faults-from turns answers sites v.after)

    known-alike : (o : Option Fault) (begin : Option ℕ) → w.fault ≡ o → w.values.begin ≡ begin → over_by o begin (w.at + 1) ≡ true
        → noted w.fault (all_from (cut turns answers way name w name.is_global name.rest)) ≡ noted w.fault (all_from (named turns answers way name w))
    known-alike o begin is begins h =
        let known = known-fault o begin (w.at + 1) h in
        let f = known.0 in
        let le : f.index ≤ w.at = omega (arith, known.2) in
        let none : w.values.begin ≡ None = begins ∙ known.3 in
        let c = cut turns answers way name w name.is_global name.rest in
        let v = named turns answers way name w in
        subst (λ o. noted o (all_from c) ≡ noted o (all_from v)) (sym (is ∙ known.1))
        (noted-behind f w.at c.faults (visit_faults turns answers sites c.after) le (rest-later c (cut-past turns answers way name w name.is_global name.rest) none)
        ∙ cut-same turns answers way name w f le name.is_global name.rest refl refl
        ∙ sym (noted-behind f w.at v.faults (visit_faults turns answers sites v.after) le (rest-later v (named-past turns answers way name w) none)))

    name-alike : (o : Option TextPurpose) (b : Bool) → is_known (w.at + 1) w ≡ b
        → noted w.fault (all_from (outcome (elim o as (λ _. Lookup Visit) [ None ↦ cond b (cut_name turns way name w) (used turns way name w) | Some p ↦ spoken_of turns p name w ]) answers))
        ≡ noted w.fault (all_from (outcome (elim o as (λ _. Lookup Visit) [ None ↦ used turns way name w | Some p ↦ spoken_of turns p name w ]) answers))
    unfolding cut_name
    name-alike (Some p) b is = refl
    name-alike None true is = known-alike w.fault w.values.begin refl refl is
    name-alike None false is = refl

  -- what is looked at of a site tells as much as the whole
  abbrev pub looked : Item → Walk → Visit
  looked site w = outcome (looked_at turns site w) answers

  looked-alike : (site : Item) (sites : List Item) (w : Walk)
      → noted w.fault ((looked site w).faults ++ visit_faults turns answers sites (looked site w).after) ≡ noted w.fault ((visited turns answers site w).faults ++ visit_faults turns answers sites (visited turns answers site w).after)
  unfolding visit
  looked-alike (item.Uses way name) sites w = name-alike way name sites w (purpose_of way) (is_known (w.at + 1) w) refl
  looked-alike other sites w = refl

  -- and comes to the same where nothing is known
  name-whole : (way : Use) (name : ScopedName) (w : Walk) (o : Option TextPurpose) (b : Bool) → b ≡ false
      → outcome (elim o as (λ _. Lookup Visit) [ None ↦ cond b (cut_name turns way name w) (used turns way name w) | Some p ↦ spoken_of turns p name w ]) answers
      ≡ outcome (elim o as (λ _. Lookup Visit) [ None ↦ used turns way name w | Some p ↦ spoken_of turns p name w ]) answers
  name-whole way name w (Some p) b h = refl
  name-whole way name w None true h = cc
  name-whole way name w None false h = refl

  pub looked-whole : (site : Item) (w : Walk) → w.fault ≡ None → looked site w ≡ visited turns answers site w
  unfolding visit
  looked-whole (item.Uses way name) w none = name-whole way name w (purpose_of way) (is_known (w.at + 1) w) (not-over w.fault w.values.begin (w.at + 1) none)
  looked-whole other w none = refl

  -- ---- all sites

  -- a walk that goes on, unless it is over
  abbrev on : Bool → Item → List Item → Walk → Lookup Walk
  on b site sites w = cond b (Done w) (and_then (looked_at turns site w) (λ v. walk turns sites (noted_in v w.fault)))

  on-goes : (site : Item) (sites : List Item) (w : Walk) → outcome (on false site sites w) answers ≡ outcome (walk turns sites (noted_in (looked site w) w.fault)) answers
  on-goes site sites w = outcome-and_then (looked_at turns site w) (λ v. walk turns sites (noted_in v w.fault)) answers

  noted-on : (b : Bool) (site : Item) (sites : List Item) (w : Walk) → is_over w ≡ b
      → ((u : Walk) → (outcome (walk turns sites u) answers).fault ≡ noted u.fault (visit_faults turns answers sites u))
      → (outcome (on b site sites w) answers).fault ≡ noted w.fault (visit_faults turns answers (site ∷ sites) w)
  noted-on true site sites w is more = still-least w.fault w.values.begin w.at (visit_faults turns answers (site ∷ sites) w) is (faults-from turns answers (site ∷ sites) w)
  noted-on false site sites w is more =
      let v = looked site w in
      let f = noted w.fault v.faults in
      ap (λ (u : Walk). u.fault) (on-goes site sites w)
      ∙ more (noted_in v w.fault)
      ∙ ap (noted f) (faults-apart turns answers f sites v.after)
      ∙ noted-append w.fault v.faults (visit_faults turns answers sites v.after)
      ∙ looked-alike site sites w

  -- its fault is the least of all, also of those of sites to which it doesn't come
  pub walk-noted : (sites : List Item) (w : Walk) → (outcome (walk turns sites w) answers).fault ≡ noted w.fault (visit_faults turns answers sites w)
  unfolding walk
  walk-noted [] w = sym (noted-none w.fault)
  walk-noted (site ∷ sites) w = noted-on (is_over w) site sites w refl (walk-noted sites)

  on-sound : (b : Bool) (site : Item) (sites : List Item) (w : Walk) → b ≡ false → w.fault ≡ None → visit_faults turns answers (site ∷ sites) w ≡ []
      → ((u : Walk) → u.fault ≡ None → visit_faults turns answers sites u ≡ [] → outcome (walk turns sites u) answers ≡ walked turns answers sites u)
      → outcome (on b site sites w) answers ≡ walked turns answers (site ∷ sites) w
  on-sound true site sites w is none h more = cc
  on-sound false site sites w is none h more =
      let v = visited turns answers site w in
      let p : IsPlaced site w v = visit-placed turns answers site w in
      let parts = none-append v.faults (visit_faults turns answers sites v.after) h in
      let kept : v.after.fault ≡ None = p.keeps ∙ none in
      let same : noted w.fault v.faults ≡ v.after.fault = ap (noted w.fault) parts.0 ∙ noted-none w.fault ∙ none ∙ sym kept in
      on-goes site sites w
      ∙ ap (λ (u : Visit). outcome (walk turns sites (noted_in u w.fault)) answers) (looked-whole site w none)
      ∙ ap (λ o. outcome (walk turns sites (with_fault o v.after)) answers) same
      ∙ more v.after kept parts.1

  -- without any fault it passes all sites
  pub walk-sound : (sites : List Item) (w : Walk) → w.fault ≡ None → visit_faults turns answers sites w ≡ [] → outcome (walk turns sites w) answers ≡ walked turns answers sites w
  unfolding walk
  walk-sound [] w none h = refl
  walk-sound (site ∷ sites) w none h = on-sound (is_over w) site sites w (not-over w.fault w.values.begin w.at none) none h (walk-sound sites)
