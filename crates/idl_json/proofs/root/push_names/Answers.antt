use Rattle.std.proofs.Common.{◌∙◌, ap}
use Rattle.serde_json.specs.Written.{has_float}
use Rattle.idl_json.proofs.FloatLemmas.{texts-plain}
use Rattle.idl_json.proofs.root.push_names.Goals as goal

pub push_value-requires : goal.push_value-requires
push_value-requires c = ap has_float c.in_ok-value.ensures ∙ texts-plain c.args.names.now
