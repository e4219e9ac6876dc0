use Rattle.std.proofs.Common.{◌∙◌, [], ℕ, List, ap, unwrap_or}
use Rattle.std.specs.List.{slice_get}
use Rattle.idl_changes.specs.Offered.{called_in}
use Rattle.idl_changes.proofs.SideLemmas.{called-there}
use Rattle.idl_repo.specs.declared.details.row_tree.RowTree.{RowTree}
use Rattle.idl_changes.proofs.side.Side.called_in.Goals as goal

pub returns : goal.returns
returns c =
    c.list_at.ensures
    ∙ ap (λ (lists : List (List ℕ)). unwrap_or (slice_get lists c.args.place) []) c.deref.ensures.value
    ∙ called-there c.self.inside.listing c.args.place c.self.inside.called.items c.self.invariant.scopes
    ∙ ap (λ (L : List RowTree). called_in L c.args.place) c.self.view_is
