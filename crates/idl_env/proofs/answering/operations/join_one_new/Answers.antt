use Rattle.std.proofs.Common.{◌∙◌, ◌++◌, ◌∷◌, [], ap, cond, sym}
use Rattle.std.specs.List.{list_any}
use Rattle.std.specs.Map.{keys_of}
use Rattle.idl_entity.specs.Path.{path_eq}
use Rattle.idl_env.proofs.AnswerLaws.QueueLemmas.{contains-list_any, keys_of-push, same_one_more}
use Rattle.idl_env.proofs.answering.operations.join_one_new.Goals as goal

pub returns-then-contains-clause-joined : goal.returns-then-contains-clause-joined
returns-then-contains-clause-joined c =
    let found = c.args.found.now in
    let path = c.args.path.now in
    let there = sym c.requires ∙ sym (contains-list_any c.args.there.now path) ∙ sym c.contains.ensures ∙ c.if-contains.true in
    sym (ap (λ b. cond b found (found ++ path ∷ [])) there)

pub returns-clause-joined : goal.returns-clause-joined
returns-clause-joined c =
    let found = c.args.found.now in
    let path = c.args.path.now in
    let new = sym c.requires ∙ sym (contains-list_any c.args.there.now path) ∙ sym c.contains.ensures ∙ c.if-contains.false in
    c.in_ok-push-2.ensures.items
    ∙ ap (λ p. found ++ p ∷ []) c.in_ok-clone-2.ensures.cases
    ∙ sym (ap (λ b. cond b found (found ++ path ∷ [])) new)

pub returns-clause-there : goal.returns-clause-there
returns-clause-there c = λ p same.
    let found = c.args.found.now in
    let keys = keys_of c.args.there.now in
    ap (λ t. list_any (path_eq p) (keys_of t)) c.in_ok-push.ensures.entries
    ∙ ap (list_any (path_eq p)) (keys_of-push c.args.there.now _ _)
    ∙ ap (λ q. list_any (path_eq p) (keys ++ q ∷ [])) c.in_ok-clone.ensures.cases
    ∙ same_one_more p c.args.path.now keys found same
    ∙ sym (ap (λ q. list_any (path_eq p) (found ++ q ∷ [])) c.in_ok-clone-2.ensures.cases)
    ∙ sym (ap (list_any (path_eq p)) c.in_ok-push-2.ensures.items)
