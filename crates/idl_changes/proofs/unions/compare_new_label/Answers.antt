use Rattle.std.proofs.Common.{◌≡◌, ◌∙◌, ◌++◌, [], ℕ, List, OnOk, Option, ap, append-nil, subst, sym}
use Rattle.std.specs.Option.{option_map_or}
use Rattle.idl_changes.specs.Differences.{new_label}
use Rattle.idl_changes.specs.Plain.{label_of}
use Rattle.idl_changes.specs.declared.change.Difference.{Difference}
use Rattle.idl_changes.proofs.UnionLemmas.{new-label}
use Rattle.idl_changes.proofs.unions.compare_new_label.Goals as goal

pub returns-in_default : goal.returns-in_default
returns-in_default c =
    let old = c.args.sides.now.0 in
    let new = c.args.sides.now.1 in
    let u = c.args.unions.0.now in
    let v = c.args.unions.1.now in
    let out = c.args.out.now.items in
    sym (append-nil out)
    ∙ sym (ap (λ (o : Option (List ℕ)). out ++ option_map_or (λ (text : List ℕ). new_label old new u v text (label_of v.0 text)) o []) c.in_default.is)

pub returns : goal.returns
returns c =
    let u = c.args.unions.0.now in
    let v = c.args.unions.1.now in
    let same = new-label c.args.sides.now.0 c.args.sides.now.1 u v c.args.case.now.label _ c.in_ok-label.label c.in-Some.is c.in_ok-label.ensures in
    subst (λ (ds : List Difference). OnOk c.compare_added.result (c.compare_added.new.out.items ≡ c.args.out.now.items ++ ds)) same c.compare_added.ensures
