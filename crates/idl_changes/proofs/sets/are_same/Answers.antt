use Rattle.std.proofs.Common.{◌≡◌, ◌∙◌, ◌+◌, ◌<◌, ◌≤◌, ◌&&◌, Bool, ap, arith, drop, false, length, nat_eq, sym, true}
use Rattle.std.specs.Cmp.Lexicographic.{pointwise}
use Rattle.std.proofs.lemmas.Bool.Decides.{nat_tests}
use Rattle.idl_changes.specs.Partners.{is_same_reference}
use Rattle.idl_changes.proofs.NameLemmas.{items-left, items-next, unlike-lengths}
use Rattle.idl_changes.proofs.sets.are_same.Goals as goal

pub returns-then-old-new : goal.returns-then-old-new
returns-then-old-new c =
    let old = c.args.old.now in
    let new = c.args.new.now in
    let other : nat_eq (length old) (length new) ≡ false = grind (arith, nat_tests, c.if-old-new.true) in
    sym (unlike-lengths (is_same_reference c.args.sides.now.0 c.args.sides.now.1) old new other)

pub loop-place-preserved : goal.loop-place-preserved
loop-place-preserved c =
    let same = is_same_reference c.args.sides.now.0 c.args.sides.now.1 in
    let old = c.args.old.now in
    let new = c.args.new.now in
    let i = c.loop-place.place in
    let x = c.index-old-place.result in
    let y = c.index-new-place.result in
    let within : i < length new = omega (arith, c.loop-place-test.true, c.if-old-new.false) in
    ap (λ (b : Bool). b && pointwise same (drop (i + 1) old) (drop (i + 1) new)) (sym (sym c.is_same_reference.ensures ∙ c.if-not-is_same_reference.false))
    ∙ sym (items-next same old new i x y c.loop-place-test.true within c.index-old-place.is c.index-new-place.is)
    ∙ c.loop-place.invariant

pub returns-then-not-is_same_reference : goal.returns-then-not-is_same_reference
returns-then-not-is_same_reference c =
    let same = is_same_reference c.args.sides.now.0 c.args.sides.now.1 in
    let old = c.args.old.now in
    let new = c.args.new.now in
    let i = c.loop-place.place in
    let x = c.index-old-place.result in
    let y = c.index-new-place.result in
    let within : i < length new = omega (arith, c.loop-place-test.true, c.if-old-new.false) in
    ap (λ (b : Bool). b && pointwise same (drop (i + 1) old) (drop (i + 1) new)) (sym (sym c.is_same_reference.ensures ∙ c.if-not-is_same_reference.true))
    ∙ sym (items-next same old new i x y c.loop-place-test.true within c.index-old-place.is c.index-new-place.is)
    ∙ c.loop-place.invariant

pub returns : goal.returns
returns c =
    let i = c.loop-place.place in
    let past : length c.args.new.now ≤ i = omega (arith, c.loop-place-test.false, c.if-old-new.false) in
    sym (items-left (is_same_reference c.args.sides.now.0 c.args.sides.now.1) c.args.old.now c.args.new.now i c.loop-place-test.false past) ∙ c.loop-place.invariant
