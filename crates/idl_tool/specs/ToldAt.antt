-- A finding with its second places, as `check` holds them.
use Rattle.idl_tool.specs.Checked.{Told}
use Rattle.idl_tool.specs.declared.check.RelatedFinding.{RelatedFinding}

abbrev pub told_at : RelatedFinding → Told
told_at told = (told.finding.now, told.related.now)
