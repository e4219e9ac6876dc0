use Rattle.std.proofs.Common.{◌≡◌, ◌++◌, [], ap, ◌∙◌, sym, map}
use Rattle.std.proofs.lemmas.List.{append-nil}
use Rattle.idl_env.specs.Facts.{UnitFacts}
use Rattle.idl_env.proofs.additions.facts.Facts.take_few.Goals as goal

pub returns-clause-few : goal.returns-clause-few
returns-clause-few c =
    let first = c.self.inside.first.items in
    let none : c.self.inside.others ≡ [] = c.is_empty.ensures.0 c.if-not-is_empty.false in
    (λ i. (c.replace.ensures.value i).items) ∙ sym (append-nil first) ∙ (λ i. first ++ map (λ e. e.1) (sym none i)) ∙ ap (λ (f : UnitFacts). f.additions) c.self.view_is
