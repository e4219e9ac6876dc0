use Rattle.std.proofs.Common.{◌∙◌, [], ℕ, List, ap, unwrap_or}
use Rattle.std.specs.List.{slice_get}
use Rattle.idl_changes.specs.Offered.{ancestors}
use Rattle.idl_changes.proofs.SideLemmas.{ancestors-there}
use Rattle.idl_repo.specs.declared.details.row_tree.RowTree.{RowTree}
use Rattle.idl_changes.proofs.side.Side.ancestors.Goals as goal

pub returns : goal.returns
returns c =
    c.list_at.ensures
    ∙ ap (λ (lists : List (List ℕ)). unwrap_or (slice_get lists c.args.place) []) c.deref.ensures.value
    ∙ ancestors-there c.self.inside.listing c.args.place c.self.inside.inherited.items c.self.invariant.bases
    ∙ ap (λ (L : List RowTree). ancestors L c.args.place) c.self.view_is
