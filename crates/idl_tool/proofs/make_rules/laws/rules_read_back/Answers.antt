use Rattle.idl_tool.proofs.RuleLemmas.{rules-read}
use Rattle.idl_tool.proofs.make_rules.laws.rules_read_back.Goals as goal

pub returns : goal.returns
returns c = rules-read
