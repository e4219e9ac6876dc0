use Rattle.std.proofs.Common.{◌≡◌, ◌∙◌, ◌++◌, ◌∷◌, [], ℕ, List, ap, arith, length, refl, subst, sym, take}
use Rattle.std.specs.Map.{lookup}
use Rattle.std.proofs.lemmas.List.{length-take-le, take_more}
use Rattle.idl_changes.specs.Keys.{numbered_eq}
use Rattle.idl_changes.specs.Tables.{AreLabelled}
use Rattle.idl_changes.specs.declared.keys.NumberedText.{NumberedText}
use Rattle.idl_repo.specs.declared.details.type_code_tree.CaseTree.{CaseTree}
use Rattle.idl_changes.proofs.labels.Labels.new.Goals as goal

pub loop-place-preserved : goal.loop-place-preserved
loop-place-preserved c =
    let names = c.args.names.now in
    let cases = c.args.cases.now in
    let i = c.loop-place.place in
    let item = c.index-cases-place.result in
    let count = length-take-le i cases in
    let at : i ≡ length (take i cases) = omega (arith, c.loop-place-test.true, count) in
    let next = take_more cases i item c.loop-place-test.true ∙ ap (λ (x : CaseTree). take i cases ++ x ∷ []) (sym c.index-cases-place.is) in
    subst (λ (cs : List CaseTree). AreLabelled names cs c.add_label.new.places) (sym next) (c.in_ok-add_label.ensures names (take i cases) c.in_ok-numbers.ensures at c.loop-place.invariant)

pub loop-place-init : goal.loop-place-init
loop-place-init c = λ label. ap (λ (m : List (NumberedText × ℕ)). lookup (numbered_eq label) m) c.in_ok-places.ensures

pub returns : goal.returns
returns c = refl
