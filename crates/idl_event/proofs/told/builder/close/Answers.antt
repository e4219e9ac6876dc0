use Rattle.std.proofs.Common.{◌≡◌, ◌∙◌, ◌++◌, ◌∷◌, [], append-nil, ap, rules}
use Rattle.idl_event.specs.Runs.{tokens_of}
use Rattle.idl_event.proofs.RunsLemmas.{tokens_of-push}
use Rattle.idl_event.proofs.told.builder.close.Goals as goal

pub returns-clause-all : goal.returns-clause-all
returns-clause-all c =
    let runs = c.args.runs.now.items in
    let range = c.in_ok-range.range in
    let left = c.take.new.tokens.items in
    let pushed : c.push_reserved.new.self.items ≡ runs ++ range ∷ [] = search rules in
    let none : left ≡ [] = search rules in
    let all : range ≡ c.args.open.now.items = search rules in
    ap (λ rs. tokens_of rs ++ left) pushed
    ∙ ap (λ ts. ts ++ left) (tokens_of-push runs range)
    ∙ ap (λ ts. (tokens_of runs ++ range) ++ ts) none
    ∙ append-nil (tokens_of runs ++ range)
    ∙ ap (λ ts. tokens_of runs ++ ts) all
