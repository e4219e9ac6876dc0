use Rattle.std.proofs.Common.{◌≡◌, ◌∙◌, ◌+◌, ◌∷◌, ◌++◌, List, ap, drop, subst, sym}
use Rattle.std.proofs.lemmas.List.{at_drop_all, at_drop_more}
use Rattle.idl_root.specs.AsBefore.{judged_beside}
use Rattle.idl_root.specs.Followed.{IsKeeping, added_by}
use Rattle.idl_root.specs.Held.{with_gathered, with_units}
use Rattle.idl_root.specs.Passed.{known_results}
use Rattle.idl_kept.specs.Texts.{DeclarationResult}
use Rattle.idl_root.specs.Results.{marks_of}
use Rattle.idl_root.specs.declared.kept.keeping.Keeping.{Keeping}
use Rattle.idl_root_blocks.specs.Finding.{texts_in}
use Rattle.idl_root_blocks.specs.Units.{text_of}
use Rattle.idl_root.proofs.JudgingLemmas.{with-none}
use Rattle.idl_root.proofs.KeptLemmas.{marks-more}
use Rattle.idl_store.specs.Stored.{Stored}
use Rattle.idl_unit.specs.declared.unit.Unit.{Unit as RootUnit}
use Rattle.idl_root.proofs.compiling.judging.Accumulator.add_known.Goals as goal

pub loop-unit-preserved : goal.loop-unit-preserved
loop-unit-preserved c =
    let units = c.args.units.now in
    let i = c.loop-unit.unit-index in
    let unit = c.unit-item.result in
    let rest = drop (i + 1) units in
    let here : drop i units ≡ unit ∷ rest =
    at_drop_more (λ (l : List RootUnit). l) units i unit c.loop-unit-test.true ∙ ap (λ u. u ∷ rest) (sym c.unit-item.is) in
    let known = c.loop-unit.known in
    let env = c.loop-unit.env in
    let gathered = c.loop-unit.self in
    let keeping = c.loop-unit.keeping in
    let new = c.add_next.new.keeping in
    let behind = c.in_ok-behind.behind in
    let told = c.in_ok-behind.ensures in
    let inv = c.loop-unit.invariant in (
      told.env rest ∙ ap (λ (us : List RootUnit). env ++ added_by (marks_of us) (known_results known (texts_in (text_of us)))) (sym here) ∙ inv.0,
      λ facts. told.gathered facts rest
          ∙ ap (λ (us : List RootUnit). with_units (with_gathered facts gathered) (judged_beside us (known_results known (texts_in (text_of us))))) (sym here)
          ∙ inv.1 facts,
      marks-more keeping.marks.items new.marks.items unit rest told.marks ∙ ap (λ (us : List RootUnit). keeping.marks.items ++ marks_of us) (sym here) ∙ inv.2,
      subst (λ (s : Stored DeclarationResult). IsKeeping s.lists new behind) (sym told.known) told.keeping,
      told.known ∙ inv.4,
      told.rest ∙ ap (λ (k : Keeping). record k { marks = new.marks; following = new.following; scratch = new.scratch }) inv.5,
    )

pub returns-clause-gathered : goal.returns-clause-gathered
returns-clause-gathered c = λ facts.
    let known = c.loop-unit.known in
    let own = with_gathered facts c.loop-unit.self in
    let over =
    at_drop_all (λ (us : List RootUnit). with_units own (judged_beside us (known_results known (texts_in (text_of us))))) c.args.units.now c.loop-unit.unit-index c.loop-unit-test.false in
    with-none own ∙ sym over ∙ c.loop-unit.invariant.1 facts
