use Rattle.std.proofs.Common.{◌≡◌, ◌++◌, [], ap, ◌∙◌, sym, map}
use Rattle.std.proofs.lemmas.List.{append-nil}
use Rattle.idl_env.specs.Facts.{UnitFacts, operations_among}
use Rattle.idl_env.proofs.additions.facts.Facts.has_operations.Goals as goal

pub returns-else-not-is_empty : goal.returns-else-not-is_empty
returns-else-not-is_empty c = λ not.
    let first = c.self.inside.first.items in
    let none : c.self.inside.others ≡ [] = c.is_empty.ensures.0 c.if-not-is_empty.false in
    sym (ap (λ (f : UnitFacts). operations_among f.additions) c.self.view_is)
    ∙ ap (λ es. operations_among (first ++ map (λ e. e.1) es)) none
    ∙ ap operations_among (append-nil first ∙ sym c.as_slice.ensures.value)
    ∙ c.is_operation_among.ensures not
