use Rattle.std.proofs.Common.{◌≡◌, ◌∙◌, IfOk, List, subst}
use Rattle.idl_changes.specs.Plain.{plain}
use Rattle.idl_repo.specs.declared.details.row_tree.RowTree.{RowTree}
use Rattle.idl_repo.specs.declared.details.type_tree.LayeredType.{LayeredType}
use Rattle.idl_changes.proofs.side.Side.plain.Goals as goal

pub plain-requires : goal.plain-requires
plain-requires c = c.deref.ensures.value ∙ c.self.invariant.aliases

pub returns : goal.returns
returns c = subst (λ (L : List RowTree). IfOk c.plain.result (λ (t : LayeredType). t ≡ plain L c.args.data_type.now)) c.self.view_is c.plain.ensures
