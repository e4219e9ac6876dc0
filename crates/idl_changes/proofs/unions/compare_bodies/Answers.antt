use Rattle.std.proofs.Common.{◌≡◌, ◌∙◌, ◌++◌, ℕ, List, OnOk, ap, ap₂, subst}
use Rattle.idl_changes.specs.Differences.{cases_differences}
use Rattle.idl_changes.specs.Plain.{enumerators}
use Rattle.idl_changes.specs.declared.change.Difference.{Difference}
use Rattle.idl_repo.specs.declared.details.row_tree.RowTree.{RowTree}
use Rattle.idl_repo.specs.declared.details.type_code_tree.CaseTree.{CaseTree}
use Rattle.idl_changes.proofs.unions.compare_bodies.Goals as goal

pub returns : goal.returns
returns c =
    let old = c.args.sides.now.0 in
    let new = c.args.sides.now.1 in
    let u = c.args.old.now in
    let v = c.args.new.now in
    let pair : List (List ℕ) → List CaseTree → List (List ℕ) × List CaseTree = λ names cases. (names, cases) in
    let before = c.in_ok-old_labels.ensures
    ∙ ap₂ pair
    (c.in_ok-old_names.ensures ∙ ap (λ (L : List RowTree). enumerators L u.discriminator) c.before-2.ensures) c.as_slice.ensures
    in
    let after = c.in_ok-new_labels.ensures
    ∙ ap₂ pair
    (c.in_ok-new_names.ensures ∙ ap (λ (L : List RowTree). enumerators L v.discriminator) c.after.ensures) c.as_slice-2.ensures
    in
    let same = ap₂ (λ (b a : List (List ℕ) × List CaseTree). cases_differences old new b a) before after in
    subst (λ (ds : List Difference). OnOk c.compare_cases.result (c.compare_cases.new.out.items ≡ c.args.out.now.items ++ ds)) same c.compare_cases.ensures
