use Rattle.std.proofs.Common.{sym, ◌∙◌, ◌∷◌, [], refl, arith}
use Rattle.idl_env.proofs.AnswerLaws.OperationLemmas.{operations_among-at}
use Rattle.std.proofs.lemmas.Grind.{common_steps}
use Rattle.idl_env.proofs.additions.facts.Facts.operation_from.Goals as goal

pub returns-in-Some-operation-clause-some : goal.returns-in-Some-operation-clause-some
returns-in-Some-operation-clause-some c =
    c.loop-index.invariant
    ∙ operations_among-at c.args.self.now.additions c.loop-index.index c.in-Some.addition.now (c.in-Some-operation.path.now ∷ []) (sym c.in-Some.ensures) c.in-Some-operation.ensures.some

pub loop-index-preserved : goal.loop-index-preserved
loop-index-preserved c =
    c.loop-index.invariant ∙ operations_among-at c.args.self.now.additions c.loop-index.index c.in-Some.addition.now [] (sym c.in-Some.ensures) (c.in_default-operation.ensures.none refl)

pub returns : goal.returns
returns c = grind (arith, common_steps)

pub loop-index-init : goal.loop-index-init
loop-index-init c = grind (arith, common_steps)
