use Rattle.std.proofs.Common.{◌++◌, [], codes, if◌then◌else◌, refl}
use Rattle.std.specs.List.{list_any}
use Rattle.idl_changes.specs.Differences.{told}
use Rattle.idl_changes.specs.Partners.{is_same_reference}
use Rattle.idl_changes.specs.declared.change.Turn.TheVariants as turn
use Rattle.idl_changes.specs.declared.rows.Line.TheVariants as line
use Rattle.idl_changes.proofs.StepLemmas.{all-told, left-told}
use Rattle.idl_repo.specs.declared.details.reference.Reference.{Reference}
use Rattle.idl_changes.proofs.sets.push_all_gone.Goals as goal

pub loop-reference-preserved : goal.loop-reference-preserved
loop-reference-preserved c =
    let sides = c.args.sides.now in
    let part = c.args.part.now in
    let olds = c.args.references.0.now in
    let news = c.args.references.1.now in
    let item = c.reference-item.result in
    let out = c.loop-reference.out.items in
    let f = λ (r : Reference). if list_any (is_same_reference sides.0 sides.1 r) news then [] else told line.ExceptionGone (part ++ (codes " " ++ r.path)) turn.Gone in
    left-told f olds olds refl c.loop-reference.reference-index item out c.push_gone.new.out.items _ c.loop-reference-test.true c.reference-item.is
    c.in_ok-push_gone.ensures c.loop-reference.invariant

pub returns : goal.returns
returns c =
    let sides = c.args.sides.now in
    let part = c.args.part.now in
    let olds = c.args.references.0.now in
    let news = c.args.references.1.now in
    all-told (λ (r : Reference). if list_any (is_same_reference sides.0 sides.1 r) news then [] else told line.ExceptionGone (part ++ (codes " " ++ r.path)) turn.Gone)
    olds olds refl c.loop-reference.reference-index c.loop-reference.out.items _ c.loop-reference-test.false c.loop-reference.invariant
