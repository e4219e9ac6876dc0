use Rattle.std.proofs.Common.{◌∙◌, ◌++◌, ◌+◌, ◌-◌, ap, replicate}
use Rattle.idl_lex.proofs.LogicalLemmas.{replicate-push}
use Rattle.idl_lex.proofs.tokens.logical.push_number.Goals as goal

pub loop-preserved : goal.loop-preserved
loop-preserved c =
    ap (λ items. items ++ replicate (c.args.count - (c.loop.counter + 1)) c.args.number) c.in_ok-push.ensures.items
    ∙ replicate-push c.loop.numbers.items c.args.number c.loop.counter c.args.count c.loop-test.true
    ∙ c.loop.invariant
