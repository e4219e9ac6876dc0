-- Unit by unit: what is left tells how the text is split.
use Rattle.std.proofs.Common.{◌≡◌, ◌∙◌, ◌≤◌, None, Bor, List, arith, sym, ap, length}
use Rattle.std.specs.Option.{option_map}
use Rattle.idl_root_blocks.specs.Blocks.{Split}
use Rattle.idl_root_blocks.specs.Finding.{depth_of, left_by}
use Rattle.idl_root_blocks.specs.Units.{parts_of_unit, text_of}
use Rattle.idl_root_blocks.proofs.Scans.{AreScanned, left-inside, left-units, left-whole, most, none-behind, stays-more, stays-none}
use Rattle.idl_unit.specs.declared.unit.Unit.{Unit}
use Rattle.idl_root_blocks.proofs.finding.inside_of.Goals as goal

pub returns-then-is_inside-clause-found : goal.returns-then-is_inside-clause-found
returns-then-is_inside-clause-found c =
    let d = c.loop-place.depth in
    let scanned : AreScanned c.args.units.now c.loop-place.place d.scopes d.files = record { split = c.loop-place.invariant.1.1 } in
    left-inside c.args.units.now c.loop-place.place d.scopes d.files scanned c.index-units-place.result c.loop-place-test.true c.index-units-place.is
    c.in-Some.is_inside (sym c.in-Some.ensures) c.if-is_inside.true

pub returns-in-Some-clause-found : goal.returns-in-Some-clause-found
returns-in-Some-clause-found c =
    let d = c.loop-place.depth in
    let scanned : AreScanned c.args.units.now c.loop-place.place d.scopes d.files = record { split = c.loop-place.invariant.1.1 } in
    left-whole c.args.units.now c.loop-place.place d.scopes d.files scanned c.index-units-place.result c.loop-place-test.true c.index-units-place.is
    c.in-Some.is_inside (sym c.in-Some.ensures) c.if-is_inside.false

pub returns-in-Some-clause-units : goal.returns-in-Some-clause-units
returns-in-Some-clause-units c =
    left-units c.args.units.now c.loop-place.place c.loop-place.depth.files c.index-units-place.result c.loop-place-test.true c.index-units-place.is
    c.in-Some.is_inside (sym c.in-Some.ensures) c.if-is_inside.false

pub returns-in_err-depth-clause-found : goal.returns-in_err-depth-clause-found
returns-in_err-depth-clause-found c =
    let d = c.loop-place.depth in
    let scanned : AreScanned c.args.units.now c.loop-place.place d.scopes d.files = record { split = c.loop-place.invariant.1.1 } in
    let left : left_by d.files (parts_of_unit c.index-units-place.result) ≡ None = sym c.left_by.ensures ∙ c.in_default.is in
    let to : Bor (List Unit) × Bor (List Unit) → Split = λ b. record { inside = text_of b.0.now; behind = text_of b.1.now } in
    ap (option_map to) c.from_residual.ensures
    ∙ stays-none c.args.units.now c.loop-place.place d.scopes d.files scanned c.index-units-place.result c.loop-place-test.true c.index-units-place.is left (sym c.in_err-depth.ensures)

pub loop-place-preserved : goal.loop-place-preserved
loop-place-preserved c =
    let d = c.loop-place.depth in
    let next = depth_of c.in_ok-depth.depth in
    let scanned : AreScanned c.args.units.now c.loop-place.place d.scopes d.files = record { split = c.loop-place.invariant.1.1 } in
    let left : left_by d.files (parts_of_unit c.index-units-place.result) ≡ None = sym c.left_by.ensures ∙ c.in_default.is in
    let more = stays-more c.args.units.now c.loop-place.place d.scopes d.files scanned c.index-units-place.result c.loop-place-test.true c.index-units-place.is left next (sym c.in_ok-depth.ensures) in
    let few = most d.scopes d.files c.index-units-place.result next (sym c.in_ok-depth.ensures) in
    (omega (arith, few.0, c.loop-place.invariant.0), (omega (arith, few.1, c.loop-place.invariant.1.0), more.split))

pub returns-clause-found : goal.returns-clause-found
returns-clause-found c =
    let d = c.loop-place.depth in
    let scanned : AreScanned c.args.units.now c.loop-place.place d.scopes d.files = record { split = c.loop-place.invariant.1.1 } in
    let past : length c.args.units.now ≤ c.loop-place.place = omega (arith, c.loop-place-test.false) in
    none-behind c.args.units.now c.loop-place.place d.scopes d.files scanned past
