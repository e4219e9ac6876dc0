use Rattle.std.proofs.Common.{◌≡◌, ◌∙◌, ◌++◌, ℕ, List, OnOk, ap, codes, subst}
use Rattle.idl_changes.specs.Differences.{member_differences, type_differences}
use Rattle.idl_changes.proofs.lists.MemberTreeListItem.compare.Goals as goal

pub returns : goal.returns
unfolding member_differences
returns c =
    let sides = c.args.sides.now in
    subst
    (λ (part : List ℕ). OnOk c.compare_types.result
    (c.compare_types.new.out.items ≡ c.args.out.now.items ++ type_differences sides.0 sides.1 part c.args.self.now.data_type c.args.new.now.data_type))
    (c.deref.ensures.value ∙ c.in_ok-part.ensures ∙ ap (λ (name : List ℕ). codes "type of member " ++ name) c.as_bytes-name.ensures) c.compare_types.ensures
