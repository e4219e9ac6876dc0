use Rattle.std.proofs.Common.{◌≡◌, ◌∙◌, true, false, subst, sym}
use Rattle.std.proofs.lemmas.List.Elements.{All-nil}
use Rattle.idl_related.specs.Judged.{AreOfFindings}
use Rattle.idl_related.specs.Related.{AreOfFinding}
use Rattle.idl_related.specs.declared.told.RelatedPlaces.{RelatedPlaces}
use Rattle.idl_related.proofs.FirstDeclaredLemmas.{none-redeclared}
use Rattle.idl_related.proofs.related.unrelated.Goals as goal

pub returns : goal.returns
returns c = λ events.
    let are =
    c.in_ok-matched.ensures.lists events
    (subst (AreOfFindings events) (sym c.new.ensures.items) (All-nil (λ (t : RelatedPlaces). AreOfFinding events t.related))) in
    let none = none-redeclared c.args.findings.now (sym c.may_have_second.ensures ∙ c.if-may_have_second.false) in record {
      count = are.0;
      lists = are.1;
      first_declared = λ asks. absurd (let both : true ≡ false = sym asks ∙ none in cc);
    }
