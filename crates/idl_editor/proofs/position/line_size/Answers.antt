use Rattle.std.proofs.Common.{length, arith, rules}
use Rattle.idl_editor.proofs.PositionLemmas.{size-is}
use Rattle.idl_editor.proofs.position.line_size.Goals as goal

pub returns-then-is_break-clause-value : goal.returns-then-is_break-clause-value
returns-then-is_break-clause-value c =
    size-is c.args.text.now c.loop-size.size (omega arith) c.loop-size.invariant (λ _. search rules)

pub returns-clause-value : goal.returns-clause-value
returns-clause-value c =
    size-is c.args.text.now (length c.args.text.now) (omega arith) (λ k within. c.loop-size.invariant k (omega arith)) (λ past. absurd (omega arith))
