use Rattle.std.proofs.Common.{◌∙◌, ◌++◌, ◌∷◌, [], ap, cond, sym}
use Rattle.std.proofs.lemmas.Result.{on_ok_weaker}
use Rattle.std.specs.Map.{keys_of}
use Rattle.idl_env.proofs.AnswerLaws.QueueLemmas.{contains-list_any, keys_of-push}
use Rattle.idl_env.proofs.answering.queue.join_one.Goals as goal

pub returns-then-contains : goal.returns-then-contains
returns-then-contains c =
    let keys = keys_of c.args.queue.now in
    let there = sym (contains-list_any c.args.queue.now c.args.path.now) ∙ sym c.contains.ensures ∙ c.if-contains.true in
    sym (ap (λ b. cond b keys (keys ++ c.args.path.now ∷ [])) there)

pub returns : goal.returns
returns c =
    let keys = keys_of c.args.queue.now in
    let new = sym (contains-list_any c.args.queue.now c.args.path.now) ∙ sym c.contains.ensures ∙ c.if-contains.false in
    on_ok_weaker c.push.result
    (λ pushed. ap keys_of pushed
    ∙ keys_of-push c.args.queue.now _ _
    ∙ ap (λ p. keys ++ p ∷ []) c.in_ok-clone.ensures.cases
    ∙ sym (ap (λ b. cond b keys (keys ++ c.args.path.now ∷ [])) new))
    c.push.ensures.entries
