use Rattle.std.proofs.Common.{sym, ap, ◌∙◌, ◌++◌, ◌+◌, ◌∷◌, [], drop, append_assoc, arith}
use Rattle.idl_env.specs.Facts.{operations_among}
use Rattle.idl_env.proofs.AnswerLaws.PlaceLemmas.{drop-at1, drop-past1}
use Rattle.idl_env.proofs.AnswerLaws.StateLemmas.{operations_among-cons}
use Rattle.std.proofs.lemmas.Grind.{common_steps}
use Rattle.idl_env.proofs.answering.operations.put_operations.Goals as goal

pub loop-index-preserved : goal.loop-index-preserved
loop-index-preserved c =
    let additions = c.args.facts.now.additions in
    let at = c.loop-index.index in
    let old = c.loop-index.own.items in
    let one = c.in-Some.addition.now in
    let rest = operations_among (drop (at + 1) additions) in
    let here = drop-at1 additions at one (sym c.in-Some.ensures) in
    (λ i. c.in_ok-put_operation.ensures i ++ rest)
    ∙ append_assoc old (operations_among (one ∷ [])) rest
    ∙ ap (λ paths. old ++ paths) (sym (operations_among-cons one (drop (at + 1) additions)))
    ∙ ap (λ l. old ++ operations_among l) (sym here)
    ∙ c.loop-index.invariant

pub returns : goal.returns
returns c = grind (arith, common_steps)

pub loop-index-init : goal.loop-index-init
loop-index-init c = grind (arith, common_steps)

pub loop-index-preserved-in_default : goal.loop-index-preserved-in_default
loop-index-preserved-in_default c =
    ap (λ l. c.loop-index.own.items ++ operations_among l) (sym (drop-past1 c.args.facts.now.additions c.loop-index.index (sym c.in_default.ensures)))
    ∙ c.loop-index.invariant
