use Rattle.std.proofs.Common.{◌||◌, [], ap, ◌∙◌}
use Rattle.std.proofs.lemmas.Result.{on_ok_weaker}
use Rattle.std.specs.List.{list_any}
use Rattle.std.specs.Map.{keys_of}
use Rattle.idl_env.specs.Facts.{joined}
use Rattle.idl_entity.specs.Path.{path_eq}
use Rattle.idl_env.proofs.AnswerLaws.QueueLemmas.{list_any-joined}
use Rattle.idl_env.proofs.answering.operations.put_there.Goals as goal

pub returns-then-found-others : goal.returns-then-found-others
returns-then-found-others c =
    let found = c.args.found.now in
    on_ok_weaker c.join.result
    (λ joins p among. ap (list_any (path_eq p)) (joins ∙ ap (λ t. joined (keys_of t) found) c.requires)
    ∙ list_any-joined p [] found)
    c.join.ensures

pub returns : goal.returns
returns c = on_ok_weaker c.join_asked.result (λ asks p among.
    let found = c.args.found.now in
    let others = c.args.others.now in
    let keys = c.in_ok-join.ensures ∙ ap (λ t. joined (keys_of t) others) c.new-asked.ensures in
    let asked = ap (list_any (path_eq p)) keys ∙ list_any-joined p [] others ∙ among in
    asks p asked
    ∙ ap (λ t. list_any (path_eq p) (keys_of t) || list_any (path_eq p) found) c.requires)
    c.join_asked.ensures
