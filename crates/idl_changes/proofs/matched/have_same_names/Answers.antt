use Rattle.std.proofs.Common.{◌≡◌, ◌∙◌, ◌+◌, ◌<◌, ◌&&◌, Bool, ap, ap₂, arith, drop, false, length, map, nat_eq, sym, true}
use Rattle.std.specs.Cmp.Lexicographic.{pointwise}
use Rattle.std.specs.Str.{bytes_eq}
use Rattle.std.proofs.lemmas.Bool.Decides.{nat_tests}
use Rattle.std.proofs.lemmas.List.{length-map}
use Rattle.idl_changes.proofs.EntryLemmas.{not-true}
use Rattle.idl_changes.proofs.NameLemmas.{names-next, not-false, unlike-lengths}
use Rattle.idl_changes.proofs.matched.have_same_names.Goals as goal

pub returns-then-old-new : goal.returns-then-old-new
returns-then-old-new g c =
    let old = map g.T.Named.name_of c.args.old.now in
    let new = map g.T.Named.name_of c.args.new.now in
    let first = length-map c.args.old.now g.T.Named.name_of in
    let second = length-map c.args.new.now g.T.Named.name_of in
    let other : nat_eq (length old) (length new) ≡ false = grind (arith, nat_tests, first, second) in
    sym (unlike-lengths bytes_eq old new other)

pub loop-place-preserved : goal.loop-place-preserved
loop-place-preserved g c =
    let name_of = g.T.Named.name_of in
    let old = c.args.old.now in
    let new = c.args.new.now in
    let i = c.loop-place.place in
    let x = c.index-old-place.result in
    let y = c.index-new-place.result in
    let within : i < length new = omega (arith, c.loop-place-test.true, c.if-old-new.false) in
    let same : bytes_eq (name_of x) (name_of y) ≡ true = ap₂ bytes_eq (sym c.name.ensures) (sym c.name-in-loop-place.ensures)
    ∙ not-false (bytes_eq c.name.result.now c.name-in-loop-place.result.now) (sym c.ne.ensures ∙ c.if-ne.false)
    in
    ap (λ (b : Bool). b && pointwise bytes_eq (map name_of (drop (i + 1) old)) (map name_of (drop (i + 1) new))) (sym same)
    ∙ sym (names-next name_of old new i x y c.loop-place-test.true within c.index-old-place.is c.index-new-place.is)
    ∙ c.loop-place.invariant

pub returns-then-ne : goal.returns-then-ne
returns-then-ne g c =
    let name_of = g.T.Named.name_of in
    let old = c.args.old.now in
    let new = c.args.new.now in
    let i = c.loop-place.place in
    let x = c.index-old-place.result in
    let y = c.index-new-place.result in
    let within : i < length new = omega (arith, c.loop-place-test.true, c.if-old-new.false) in
    let other : bytes_eq (name_of x) (name_of y) ≡ false = ap₂ bytes_eq (sym c.name.ensures) (sym c.name-in-loop-place.ensures)
    ∙ not-true (bytes_eq c.name.result.now c.name-in-loop-place.result.now) (sym c.ne.ensures ∙ c.if-ne.true)
    in
    ap (λ (b : Bool). b && pointwise bytes_eq (map name_of (drop (i + 1) old)) (map name_of (drop (i + 1) new))) (sym other)
    ∙ sym (names-next name_of old new i x y c.loop-place-test.true within c.index-old-place.is c.index-new-place.is)
    ∙ c.loop-place.invariant
