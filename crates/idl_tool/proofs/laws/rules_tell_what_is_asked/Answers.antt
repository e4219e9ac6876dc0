use Rattle.std.proofs.Common.{◌∙◌, ap, flat_map}
use Rattle.idl_tool.specs.Deps.{needs_of, rules_in}
use Rattle.idl_tool.proofs.DepsLemmas.{needs_of-roots}
use Rattle.idl_tool.proofs.laws.rules_tell_what_is_asked.Goals as goal

pub returns : goal.returns
returns c = λ deps inputs roots are.
    ap needs_of (c.rules_read_back.ensures (flat_map (rules_in deps inputs) roots) are) ∙ needs_of-roots deps inputs roots
