use Rattle.std.proofs.Common.{◌∙◌, ◌++◌, ◌∷◌, [], ap, reverse, sym}
use Rattle.std.specs.Option.{option_to_list}
use Rattle.idl_env.specs.Facts.{more_inside, operations_among}
use Rattle.idl_env.proofs.AnswerLaws.StateLemmas.{more_inside-nothing, reverse-more}
use Rattle.idl_env.proofs.answering.operations.add_inside.Goals as goal

pub returns-then-not-has_operations : goal.returns-then-not-has_operations
returns-then-not-has_operations c =
    let inside = reverse c.args.inside.now.items in
    sym (ap (more_inside inside) (c.has_operations.ensures c.if-not-has_operations.true) ∙ more_inside-nothing inside)

pub returns : goal.returns
returns c =
    let outer = c.pop.new.self.items in
    let own = c.in-Some.own in
    let more = operations_among c.args.facts.now.additions in
    let taken = c.pop.ensures.items ∙ ap (λ o. outer ++ option_to_list o) c.in-Some.is in
    ap reverse (c.in_ok-push.ensures.items ∙ ap (λ o. outer ++ o ∷ []) (c.from_vec.ensures ∙ c.in_ok-put_operations.ensures ∙ ap (λ paths. paths ++ more) c.into_vec-own.ensures))
    ∙ reverse-more c.args.inside.now.items outer own more taken
