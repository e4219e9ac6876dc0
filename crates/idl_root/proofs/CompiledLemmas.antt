-- What a root compiles to is what its units come to, each by its verdict over the facts before it.
use Rattle.std.proofs.Common.{◌≡◌, ◌≤◌, ◌<◌, ◌^◌, ◌∙◌, ℕ, List, [], ◌∷◌, ◌++◌, append-nil, arith, flat_map, length, length-append, refl, subst, sym, ap}
use Rattle.std.specs.List.{AllByRecursion}
use Rattle.std.specs.Prelude.{◌↔◌}
use Rattle.idl_root_blocks.proofs.IdlCheckLaws.ToldLaws.{turns-grow}
use Rattle.idl_root_blocks.specs.idl_check.declared.walk.verdict.Verdict.{Verdict}
use Rattle.idl_root_blocks.specs.idl_check.walk.Judging.{FitsMemory}
use Rattle.idl_root_blocks.specs.idl_check.walk.Verdict.{added, verdict, verdict_over}
use Rattle.idl_env.specs.Facts.{UnitFacts, answers, boundary}
use Rattle.idl_env.specs.Turns.{most_turns, turns_for}
use Rattle.idl_env.specs.declared.additions.addition.Step.TheVariants.{Enters, Leaves}
use Rattle.idl_event.specs.declared.told.event.Event.{Event}
use Rattle.idl_event.specs.declared.told.site.Site.{Site}
use Rattle.idl_fault.specs.declared.place.Place.{Place}
use Rattle.idl_memo.specs.Query.{outcome}
use Rattle.idl_root.specs.Compile.{compile, told}
use Rattle.idl_root.specs.Compiled.{AreJudged, CompilesTo, outcome_over}
use Rattle.idl_root.specs.Judged.{Judged, facts_after, judged_after}
use Rattle.idl_root.specs.Turns.{FitsU64}
use Rattle.idl_root.specs.Verdict.{IsVerdict}
use Rattle.idl_root.specs.declared.compiling.compiled.Compiled.{Compiled}
use Rattle.idl_root.proofs.FactsTold.{turns-after}
use Rattle.idl_unit.specs.Held.{text_in}
use Rattle.idl_unit.specs.Parts.{joined}
use Rattle.idl_unit.specs.Units.{units_of}
use Rattle.idl_unit.specs.declared.unit.Unit.{Unit as RootUnit}
use Rattle.idl_unit.specs.declared.unit.Unit.TheVariants.{Spelled, Entered, Left, End}
use Rattle.idl_unit.specs.declared.unit.UnitText.{UnitText}
use Rattle.idl_unit.specs.declared.unit.UnitText.TheVariants as unit

-- ---- units that are no longer than memory

abbrev pub IsShort : RootUnit → Type 0
IsShort (Spelled text sites) = FitsMemory text
IsShort other = Unit {0}

-- none is longer than all together
pub units-short : (units : List RootUnit) → length (joined (flat_map text_in units)) < 2 ^ 64 → AllByRecursion IsShort units
units-short [] small = tt
units-short (Spelled (unit.Tokens tokens) sites ∷ units) small =
    let both = length-append tokens (joined (flat_map text_in units)) in
    let here : length tokens < 2 ^ 64 = omega (arith, both, small) in
    (here, units-short units (omega (arith, both, small)))
units-short (Spelled (unit.Pragma tokens inside) sites ∷ units) small = (tt, units-short units small)
units-short (Entered file inside ∷ units) small = (tt, units-short units small)
units-short (Left file inside ∷ units) small = (tt, units-short units small)
units-short (End ∷ units) small = (tt, units-short units small)

-- a unit with this verdict
abbrev with_verdict : UnitText → List Site → Verdict → Judged
with_verdict text sites v = record { text = text; sites = sites; verdict = v }

-- turns for all units are enough before the first of them
enough-here : (u : RootUnit) (units : List RootUnit) (facts : List UnitFacts) → turns_for (facts_after facts (u ∷ units)) ≤ most_turns → turns_for facts ≤ most_turns
unfolding facts_after
enough-here u units facts enough =
    let here = turns-grow facts (added facts u) in
    let there = turns-after units (facts ++ added facts u) in
    omega (arith, here, there, enough)

-- ---- a root comes to one thing

module _ (once : (facts : List UnitFacts) (text : UnitText) (v w : Verdict) → IsVerdict facts text v → IsVerdict facts text w → v ≡ w) where
  judged-once : (units : List RootUnit) (facts : List UnitFacts) (js ks : List Judged) (last end : List UnitFacts) → AreJudged facts units js last → AreJudged facts units ks end
      → (js ≡ ks) × (last ≡ end)
  judged-once [] facts js ks last end a b = (a.0 ∙ sym b.0, a.1 ∙ sym b.1)
  judged-once (Spelled text sites ∷ units) facts js ks last end a b =
      let same : a.0 ≡ b.0 = once facts text a.0 b.0 a.2 b.2 in
      let rest = judged-once units (facts ++ (b.0).writes ∷ []) a.1 b.1 last end (subst (λ (v : Verdict). AreJudged (facts ++ v.writes ∷ []) units a.1 last) same a.3) b.3 in (
        a.4
            ∙ ap (λ (v : Verdict). with_verdict text sites v ∷ a.1) same
            ∙ ap (λ (more : List Judged). with_verdict text sites b.0 ∷ more) rest.0
            ∙ sym b.4,
        rest.1,
      )
  judged-once (Entered file inside ∷ units) facts js ks last end a b = judged-once units (facts ++ boundary Enters ∷ []) js ks last end a b
  judged-once (Left file inside ∷ units) facts js ks last end a b = judged-once units (facts ++ boundary Leaves ∷ []) js ks last end a b
  judged-once (End ∷ units) facts js ks last end a b = judged-once units facts js ks last end a b

  pub compiles-once : (end : Place) (events : List Event) (c d : Compiled) → CompilesTo end events c → CompilesTo end events d → c ≡ d
  compiles-once end events c d h k =
      let same = judged-once (units_of events) [] h.judged k.judged h.facts k.facts h.are_judged k.are_judged in
      h.is ∙ (λ i. told end events (outcome_over events (same.0 i) (same.1 i))) ∙ sym k.is

-- ---- it is what the units come to

module _
    (once : (facts : List UnitFacts) (text : UnitText) (v w : Verdict) → IsVerdict facts text v → IsVerdict facts text w → v ≡ w)
    (judging : (facts : List UnitFacts) (turns : ℕ) (text : UnitText) (v : Verdict) → turns_for facts ≤ turns → FitsMemory text
    → IsVerdict facts text v ↔ (v ≡ outcome (verdict turns text) (answers facts)))
  where
    -- ---- units

    units-judged : (units : List RootUnit) (facts : List UnitFacts) → turns_for (facts_after facts units) ≤ most_turns → AllByRecursion IsShort units
        → AreJudged facts units (judged_after facts units) (facts_after facts units)
    unfolding facts_after judged_after
    units-judged [] facts enough short = (refl, refl)
    units-judged (Spelled text sites ∷ units) facts enough short =
        let v = verdict_over facts text in
        let next = facts ++ v.writes ∷ [] in
        let is = (judging facts most_turns text v (enough-here (Spelled text sites) units facts enough) short.0).1 refl in
        (v, judged_after next units, is, units-judged units next enough short.1, refl)
    units-judged (Entered file inside ∷ units) facts enough short = units-judged units (facts ++ boundary Enters ∷ []) enough short.1
    units-judged (Left file inside ∷ units) facts enough short = units-judged units (facts ++ boundary Leaves ∷ []) enough short.1
    units-judged (End ∷ units) facts enough short =
        let same = append-nil facts in
        subst (λ (fs : List UnitFacts). AreJudged facts units (judged_after fs units) (facts_after fs units)) (sym same)
        (units-judged units facts (subst (λ (fs : List UnitFacts). turns_for (facts_after fs units) ≤ most_turns) same enough) short.1)

    -- ---- a root

    pub compiles-to : (end : Place) (events : List Event) (compiled : Compiled) → FitsU64 events → AllByRecursion IsShort (units_of events)
        → CompilesTo end events compiled ↔ (compiled ≡ compile end events)
    unfolding compile
    compiles-to end events compiled within short = (
      λ h.
          let same = judged-once once (units_of events) [] h.judged (judged_after [] (units_of events)) h.facts (facts_after [] (units_of events)) h.are_judged (units-judged (units_of events) [] within.turns short) in
          h.is ∙ (λ i. told end events (outcome_over events (same.0 i) (same.1 i))),
      λ is. record {
        judged = judged_after [] (units_of events);
        facts = facts_after [] (units_of events);
        are_judged = units-judged (units_of events) [] within.turns short;
        is = is;
      },
    )
