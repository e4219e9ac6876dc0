use Rattle.std.proofs.Common.{◌∙◌, ℕ, List, ap}
use Rattle.std.specs.Map.{lookup}
use Rattle.idl_changes.specs.Keys.{numbered_eq}
use Rattle.idl_changes.specs.Offered.{offered}
use Rattle.idl_repo.specs.declared.details.row_tree.RowTree.{RowTree}
use Rattle.idl_changes.proofs.side.Side.offered.Goals as goal

pub returns : goal.returns
returns c =
    c.copied.ensures ∙ c.get.ensures
    ∙ ap (λ (name : List ℕ). lookup (numbered_eq (record { text = name; number = c.args.place })) c.self.inside.offers) c.in_ok-text.ensures.cases
    ∙ c.self.invariant.names c.args.place c.args.name.now
    ∙ ap (λ (L : List RowTree). offered L c.args.place c.args.name.now) c.self.view_is
