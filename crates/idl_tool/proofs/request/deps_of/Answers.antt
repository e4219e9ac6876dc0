use Rattle.std.proofs.Common.{◌∙◌, ap, codes, nat_lt}
use Rattle.clap.proofs.WalkLemmas.{first_value-rows}
use Rattle.clap.specs.Words.{found_of}
use Rattle.idl_tool.proofs.request.deps_of.Goals as goal

pub returns : goal.returns
returns c = record {
  options = c.in_ok-options_of.ensures;
  target = c.get_str.ensures ∙ first_value-rows (found_of c.args.matches.now) (codes "target");
  generated = ap (nat_lt 0) c.get_count.ensures.value;
  present = ap (nat_lt 0) c.get_count-2.ensures.value;
}
