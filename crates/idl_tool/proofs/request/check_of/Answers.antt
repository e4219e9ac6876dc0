use Rattle.std.proofs.Common.{ap, nat_lt}
use Rattle.idl_tool.proofs.request.check_of.Goals as goal

pub returns : goal.returns
returns c = record {
  options = c.in_ok-options_of.ensures;
  warnings = ap (nat_lt 0) c.get_count.ensures.value;
}
