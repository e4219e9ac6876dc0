use Rattle.std.proofs.Common.{arith}
use Rattle.idl_env.proofs.AnswerLaws.CountLemmas.{count-world}
use Rattle.idl_env.specs.declared.keys.key.Key.TheVariants.{Nameless}
use Rattle.idl_root.proofs.compiling.passing.bound.Goals as goal

pub returns-clause-count : goal.returns-clause-count
returns-clause-count c = let counted = count-world c.args.env.now Nameless in omega (arith, counted, c.len-count.ensures, c.len-count.type_inv)
