-- What is to come of units in front of which a block stands.
use Rattle.std.proofs.Common.{◌≡◌, ◌∙◌, false, List, [], ◌∷◌, ◌++◌, append_assoc, flat_map, refl, sym, ap}
use Rattle.std.proofs.lemmas.Grind.{flat_map-append}
use Rattle.idl_env.specs.Facts.{UnitFacts}
use Rattle.idl_root.proofs.FactsTold.{after-append}
use Rattle.idl_root.proofs.JudgingLemmas.{to_come-end}
use Rattle.idl_root.proofs.TextLaws.{facts-text}
use Rattle.idl_root.specs.Compile.{Outcome, row_in}
use Rattle.idl_root.specs.Findings.{unit_finding}
use Rattle.idl_root.specs.Held.{to_come, with_gathered, with_units}
use Rattle.idl_root.specs.Judged.{Judged, facts_after, judged_after, judged_at}
use Rattle.idl_root_blocks.specs.idl_check.walk.Verdict.{added}
use Rattle.idl_root.specs.Printed.{listed_in}
use Rattle.idl_root.specs.declared.compiling.judging.Accumulator.{Accumulator}
use Rattle.idl_root_blocks.proofs.Cuts.{cut-whole}
use Rattle.idl_root_blocks.specs.Blocks.{cut, text_in}
use Rattle.idl_root_blocks.specs.Finding.{IsFirstBlock}
use Rattle.idl_root_blocks.specs.Places.{facts_behind, facts_over, with_entering}
use Rattle.idl_root_blocks.specs.Units.{parts_of_unit, text_of}
use Rattle.idl_root_blocks.specs.declared.text.BlockPart.TheVariants.{Enters, Leaves}
use Rattle.idl_unit.specs.declared.unit.Unit.{Unit as RootUnit}
use Rattle.idl_unit.specs.declared.unit.Unit.TheVariants.{Spelled, Entered, Left, End}

judged-append : (a b : List RootUnit) (facts : List UnitFacts) → judged_after facts (a ++ b) ≡ judged_after facts a ++ judged_after (facts_after facts a) b
unfolding facts_after judged_after
judged-append [] b facts = refl
judged-append (u ∷ a) b facts =
    ap (λ (js : List Judged). judged_at facts u ++ js) (judged-append a b (facts ++ added facts u))
    ∙ sym (append_assoc (judged_at facts u) (judged_after (facts ++ added facts u) a) (judged_after (facts_after (facts ++ added facts u) a) b))

-- a file boundary adds what its kind does, and nothing is gathered of it
enters-unit : (facts : List UnitFacts) (u : RootUnit) → parts_of_unit u ≡ Enters false ∷ [] → (facts ++ added facts u ≡ with_entering facts) × (judged_at facts u ≡ [])
enters-unit facts (Spelled text sites) is = cc
enters-unit facts (Entered file inside) is = (refl, refl)
enters-unit facts (Left file inside) is = cc
enters-unit facts End is = cc

leaves-unit : (facts : List UnitFacts) (u : RootUnit) → parts_of_unit u ≡ Leaves false ∷ [] → (facts ++ added facts u ≡ facts_over facts (Leaves false ∷ [])) × (judged_at facts u ≡ [])
leaves-unit facts (Spelled text sites) is = cc
leaves-unit facts (Entered file inside) is = cc
leaves-unit facts (Left file inside) is = (refl, refl)
leaves-unit facts End is = cc

module _ (facts : List UnitFacts) (unit : RootUnit) (units inside others : List RootUnit) (first : IsFirstBlock unit units inside others) where
  abbrev leaving : RootUnit
  leaving = first.behind.leaving

  abbrev over : List UnitFacts
  over = facts_after (with_entering facts) inside

  abbrev behind : List UnitFacts
  behind = facts_behind facts (cut (text_of inside))

  over-is : over ≡ facts_over (with_entering facts) (text_in (cut (text_of inside)))
  over-is = facts-text inside (with_entering facts) ∙ ap (facts_over (with_entering facts)) (sym (cut-whole (text_of inside)))

  next : over ++ added over leaving ≡ behind
  next = (leaves-unit over leaving first.behind.left).0 ∙ ap (λ (fs : List UnitFacts). facts_over fs (Leaves false ∷ [])) over-is

  facts-block : facts_after facts (unit ∷ units) ≡ facts_after behind others
  unfolding facts_after
  facts-block =
      ap (λ (fs : List UnitFacts). facts_after fs units) (enters-unit facts unit first.entered).0
      ∙ ap (facts_after (with_entering facts)) first.behind.whole
      ∙ after-append inside (leaving ∷ others) (with_entering facts)
      ∙ ap (λ (fs : List UnitFacts). facts_after fs others) next

  judged-block : judged_after facts (unit ∷ units) ≡ judged_after (with_entering facts) inside ++ judged_after behind others
  unfolding judged_after
  judged-block =
      (λ i. (enters-unit facts unit first.entered).1 i ++ judged_after ((enters-unit facts unit first.entered).0 i) units)
      ∙ ap (judged_after (with_entering facts)) first.behind.whole
      ∙ judged-append inside (leaving ∷ others) (with_entering facts)
      ∙ (λ i. judged_after (with_entering facts) inside ++ ((leaves-unit over leaving first.behind.left).1 i ++ judged_after (next i) others))

  -- what comes of a block, of which this is gathered, and of the units behind it
  pub come-block : (after : List UnitFacts) (old new : Accumulator) → after ≡ behind
      → ((fs : List UnitFacts) → with_gathered fs new ≡ with_units (with_gathered fs old) (judged_after (with_entering facts) inside))
      → to_come (with_gathered after new) others ≡ to_come (with_gathered facts old) (unit ∷ units)
  come-block after old new is gathers =
      let o : Outcome = with_gathered facts old in
      let own : List Judged = judged_after (with_entering facts) inside in
      let rest : List Judged = judged_after behind others in
      ap (λ (p : Outcome). to_come p others) (gathers after ∙ ap (λ (fs : List UnitFacts). with_units (with_gathered fs old) own) is)
      ∙ (λ i. record {
        facts = sym facts-block i;
        found = (append_assoc o.found (flat_map unit_finding own) (flat_map unit_finding rest) ∙ ap (λ l. o.found ++ l) (sym (flat_map-append unit_finding own rest) ∙ ap (flat_map unit_finding) (sym judged-block))) i;
        rows = (append_assoc o.rows (flat_map row_in own) (flat_map row_in rest) ∙ ap (λ l. o.rows ++ l) (sym (flat_map-append row_in own rest) ∙ ap (flat_map row_in) (sym judged-block))) i;
        listed = (append_assoc o.listed (flat_map listed_in own) (flat_map listed_in rest) ∙ ap (λ l. o.listed ++ l) (sym (flat_map-append listed_in own rest) ∙ ap (flat_map listed_in) (sym judged-block))) i;
      })

-- nothing is to come any more, so all facts and all that is gathered are there
pub come-facts : (facts after : List UnitFacts) (old new : Accumulator) (left units : List RootUnit) → left ≡ [] → to_come (with_gathered after new) left ≡ to_come (with_gathered facts old) units
    → after ≡ facts_after facts units
come-facts facts after old new left units none is =
    ap (λ (o : Outcome). o.facts) (sym (to_come-end (with_gathered after new)) ∙ ap (to_come (with_gathered after new)) (sym none) ∙ is)

pub come-gathered : (facts after : List UnitFacts) (old new : Accumulator) (left units : List RootUnit) → left ≡ [] → to_come (with_gathered after new) left ≡ to_come (with_gathered facts old) units
    → (fs : List UnitFacts) → with_gathered fs new ≡ with_units (with_gathered fs old) (judged_after facts units)
come-gathered facts after old new left units none is fs =
    ap (λ (o : Outcome). record o { facts = fs }) (sym (to_come-end (with_gathered after new)) ∙ ap (to_come (with_gathered after new)) (sym none) ∙ is)

-- and where all is there at once
pub come-all : (facts after : List UnitFacts) (old new : Accumulator) (units : List RootUnit) → after ≡ facts_after facts units
    → ((fs : List UnitFacts) → with_gathered fs new ≡ with_units (with_gathered fs old) (judged_after facts units))
    → with_gathered after new ≡ to_come (with_gathered facts old) units
come-all facts after old new units is gathers = gathers after ∙ ap (λ (fs : List UnitFacts). with_units (with_gathered fs old) (judged_after facts units)) is
