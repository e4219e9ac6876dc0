use Rattle.idl_env.specs.Facts.{first_world}
use Rattle.idl_env.proofs.AnswerLaws.CountLemmas.{world-is}
use Rattle.idl_env.proofs.StampLemmas.{last-behind}
use Rattle.idl_env.proofs.WriteLemmas.{unwritten-behind}
use Rattle.idl_env.proofs.written.lasting.Goals as goal

pub returns-clause-among : goal.returns-clause-among
returns-clause-among c = λ before behind k. rw (world-is before) (last-behind behind k before first_world)

pub returns-clause-answered : goal.returns-clause-answered
returns-clause-answered c = unwritten-behind
