use Rattle.std.proofs.Common.{◌∙◌}
use Rattle.std.proofs.lemmas.Map.Made.{is_some-lookup}
use Rattle.idl_value.specs.Equal.{value_eq}
use Rattle.idl_check.proofs.told.labels.is_among.Goals as goal

pub returns : goal.returns
returns c = c.contains.ensures ∙ is_some-lookup (value_eq c.args.value.now) c.args.values.now
