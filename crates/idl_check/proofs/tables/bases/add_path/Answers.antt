use Rattle.std.proofs.Common.{◌∙◌, ◌++◌, ◌∷◌, [], ap, cond, sym}
use Rattle.std.specs.Map.{keys_of}
use Rattle.idl_env.proofs.AnswerLaws.QueueLemmas.{contains-list_any, keys_of-push}
use Rattle.idl_check.proofs.tables.bases.add_path.Goals as goal

pub returns-then-contains : goal.returns-then-contains
returns-then-contains c =
    let keys = keys_of c.args.paths.now in
    let there = sym (contains-list_any c.args.paths.now c.args.path.now) ∙ sym c.contains.ensures ∙ c.if-contains.true in
    sym (ap (λ b. cond b keys (keys ++ c.args.path.now ∷ [])) there)

pub returns : goal.returns
returns c =
    let keys = keys_of c.args.paths.now in
    let new = sym (contains-list_any c.args.paths.now c.args.path.now) ∙ sym c.contains.ensures ∙ c.if-contains.false in
    ap keys_of c.in_ok-push.ensures.entries
    ∙ keys_of-push c.args.paths.now _ _
    ∙ ap (λ p. keys ++ p ∷ []) c.in_ok-clone.ensures.cases
    ∙ sym (ap (λ b. cond b keys (keys ++ c.args.path.now ∷ [])) new)
