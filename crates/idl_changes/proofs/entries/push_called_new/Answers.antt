use Rattle.std.proofs.Common.{◌≡◌, ◌∙◌, ◌++◌, [], ℕ, List, OnOk, Option, ap, append-nil, subst, sym}
use Rattle.std.specs.Option.{option_and_then, option_map_or}
use Rattle.idl_changes.specs.Differences.{called_new}
use Rattle.idl_changes.specs.Listing.{interface_of}
use Rattle.idl_changes.specs.Partners.{joined}
use Rattle.idl_repo.specs.declared.details.row_tree.RowTree.{RowTree}
use Rattle.idl_changes.proofs.entries.push_called_new.Goals as goal

pub returns-in_default : goal.returns-in_default
returns-in_default c =
    let old = c.args.sides.now.0 in
    let new = c.args.sides.now.1 in
    let f = c.args.entry.now in
    let out = c.args.out.now.items in
    let found = c.in_ok-interface.ensures ∙ ap (λ (L : List RowTree). interface_of L f) (c.listing.ensures ∙ c.after.ensures) in
    sym (append-nil out)
    ∙ sym (ap (λ (o : Option ℕ). out ++ option_map_or (called_new old new f) (option_and_then (joined new old) o) []) (sym found ∙ c.in_default.is))

pub returns : goal.returns
returns c =
    let old = c.args.sides.now.0 in
    let new = c.args.sides.now.1 in
    let f = c.args.entry.now in
    let found = c.in_ok-interface.ensures ∙ ap (λ (L : List RowTree). interface_of L f) (c.listing.ensures ∙ c.after.ensures) in
    let same = c.joined_back.ensures ∙ sym (ap (option_and_then (joined new old)) (sym found ∙ c.in-Some.is)) in
    subst (λ (o : Option ℕ). OnOk c.push_new_on.result (c.push_new_on.new.out.items ≡ c.args.out.now.items ++ option_map_or (called_new old new f) o [])) same c.push_new_on.ensures
