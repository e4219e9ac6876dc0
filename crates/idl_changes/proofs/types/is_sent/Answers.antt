use Rattle.std.proofs.Common.{◌∙◌, ◌||◌, Bool, List, ap, ap₂, sym}
use Rattle.idl_changes.specs.Partners.{is_sent, is_written}
use Rattle.idl_changes.specs.Plain.{plain}
use Rattle.idl_repo.specs.declared.details.row_tree.RowTree.{RowTree}
use Rattle.idl_repo.specs.declared.details.type_tree.LayeredType.{LayeredType}
use Rattle.idl_changes.proofs.types.is_sent.Goals as goal

pub returns : goal.returns
unfolding is_sent
returns c =
    let old = c.args.sides.now.0 in
    let new = c.args.sides.now.1 in
    let t = c.args.old.now in
    let u = c.args.new.now in
    c.is_written.ensures
    ∙ ap₂ (λ (a b : LayeredType). is_written old new a b)
    (c.in_ok-old_plain.ensures ∙ ap (λ (L : List RowTree). plain L t) c.before-2.ensures)
    (c.in_ok-new_plain.ensures ∙ ap (λ (L : List RowTree). plain L u) c.after.ensures)
    ∙ sym (ap (λ (b : Bool). b || is_written old new (plain old t) (plain new u)) c.requires)
