use Rattle.std.proofs.Common.{◌∙◌, sym}
use Rattle.idl_unit.specs.contracts.unit.UnitTextDatum.TheImpl.Laws.{same-law}
use Rattle.idl_root.proofs.kept.course.Course.first_of.Goals as goal

pub returns-then-eq-clause-text : goal.returns-then-eq-clause-text
returns-then-eq-clause-text c = sym c.unit_text.ensures ∙ same-law c.unit_text.result.now c.args.text.now (sym c.eq.ensures ∙ c.if-eq.true)
