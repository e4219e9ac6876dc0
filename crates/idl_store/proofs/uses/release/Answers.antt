-- The uses are given up one after another.
use Rattle.std.proofs.Common.{◌≤◌, ◌∷◌, [], arith, get_or, length, subst, sym, take}
use Rattle.std.proofs.lemmas.List.{take_all, take_more}
use Rattle.idl_store.specs.Numbers.{AreFewer, uses_of}
use Rattle.idl_store.proofs.Using.{fewer-then, next-used}
use Rattle.idl_store.proofs.uses.release.Goals as goal

pub release_one-requires-clause-one : goal.release_one-requires-clause-one
release_one-requires-clause-one g c =
    let numbers = c.args.numbers.now in
    let i = c.loop-number.number-index in
    let item = get_or numbers i 0 in
    next-used numbers i 0 (uses_of c.args.used.now item) (uses_of c.loop-number.used item) c.loop-number-test.true (c.loop-number.invariant.fewer.uses item) (c.requires.uses item)

pub loop-number-preserved : goal.loop-number-preserved
loop-number-preserved g c =
    let numbers = c.args.numbers.now in
    let i = c.loop-number.number-index in
    let item = get_or numbers i 0 in
    record {
      fewer = subst (AreFewer c.args.used.now c.release_one.new.used) (sym (take_more numbers i 0 c.loop-number-test.true)) (fewer-then c.args.used.now c.loop-number.used c.release_one.new.used (take i numbers) (item ∷ []) c.loop-number.invariant.fewer c.release_one.ensures.fewer);
      used = c.release_one.ensures.used;
      indexed = c.release_one.ensures.indexed;
    }

pub returns-clause-fewer : goal.returns-clause-fewer
returns-clause-fewer g c =
    let past : length c.args.numbers.now ≤ c.loop-number.number-index = omega (arith, c.loop-number-test.false) in
    subst (AreFewer c.args.used.now c.loop-number.used) (take_all c.loop-number.number-index c.args.numbers.now past) c.loop-number.invariant.fewer
