use Rattle.std.proofs.Common.{vec_len}
use Rattle.idl_env.proofs.AnswerLaws.StateLemmas.{reverse-pop}
use Rattle.idl_env.proofs.answering.operations.leave.Goals as goal

pub returns : goal.returns
returns c =
    reverse-pop c.args.inside.now.items c.pop-own.new.self.items c.pop-own.result (vec_len c.args.inside.now) (vec_len c.pop-own.new.self) c.pop-own.ensures.items c.pop-own.ensures.rest c.pop-own.ensures.cases
