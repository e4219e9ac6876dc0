use Rattle.std.proofs.Common.{◌≡◌, sym, ◌∙◌, ◌∷◌, [], refl}
use Rattle.std.proofs.lemmas.Bool.{not-false}
use Rattle.idl_entity.specs.Path.{path_eq, same_path}
use Rattle.idl_env.proofs.AnswerLaws.OperationLemmas.{operations_among-at}
use Rattle.idl_env.proofs.additions.facts.Facts.has_same_operations.Goals as goal

pub loop-index-preserved-in_default-operation : goal.loop-index-preserved-in_default-operation
loop-index-preserved-in_default-operation c = λ rest.
    c.loop-index.invariant
    (operations_among-at c.args.self.now.additions c.loop-index.index c.in-Some.addition.now [] (sym c.in-Some.ensures) (c.in_default-operation.ensures.none refl) ∙ rest)

pub loop-index-preserved : goal.loop-index-preserved
loop-index-preserved c = λ rest.
    let mine = c.in-Some-operation.mine.now in
    let theirs = c.in-Some-operation_from.theirs.now in
    let own = operations_among-at c.args.self.now.additions c.loop-index.index c.in-Some.addition.now (mine ∷ []) (sym c.in-Some.ensures) c.in-Some-operation.ensures.some in
    let same : mine ≡ theirs = same_path mine theirs (not-false (path_eq mine theirs) (sym c.ne.ensures ∙ c.if-ne.false)) in
    c.loop-index.invariant (own ∙ (λ i. same i ∷ rest i) ∙ sym c.in-Some-operation_from.ensures.some)
