-- The uses are counted one after another, and there is room for them.
use Rattle.std.proofs.Common.{◌≡◌, ◌+◌, ◌<◌, ◌^◌, ◌∷◌, [], Some, None, ap, arith, get_or, length, refl, subst, sym, take}
use Rattle.std.proofs.lemmas.List.{length-take-le, take_more}
use Rattle.idl_store.specs.Numbers.{AreMore, uses_of}
use Rattle.idl_store.proofs.Times.{times-length}
use Rattle.idl_store.proofs.Using.{more-then, more-written}
use Rattle.std.proofs.lemmas.Grind.{common_steps}
use Rattle.idl_store.proofs.uses.count_uses.Goals as goal

pub overflow_add-one : goal.overflow_add-one
overflow_add-one g c =
    let numbers = c.args.numbers.now in
    let i = c.loop-number.number-index in
    let item = get_or numbers i 0 in
    let here : uses_of c.loop-number.used item ≡ c.index_mut-one.result.now.uses = ap (λ o. elim o [ None ↦ 0 | Some u ↦ u.uses ]) c.index_mut-one.ensures.value in
    let room : uses_of c.args.used.now item + length numbers < 2 ^ 64 = c.requires.room i 0 c.loop-number-test.true in
    omega (arith, here, room, c.loop-number.invariant.uses item, times-length item (take i numbers), length-take-le i numbers (omega (arith, c.loop-number-test.true)), c.loop-number-test.true)

pub loop-number-preserved : goal.loop-number-preserved
loop-number-preserved g c =
    let numbers = c.args.numbers.now in
    let i = c.loop-number.number-index in
    let item = get_or numbers i 0 in
    let u = c.index_mut-one.result.now in
    let one = more-written c.loop-number.used item u (u.uses + 1) c.loop-number.place [] (item ∷ []) c.index_mut-one.ensures.value refl (λ n. omega arith) in
    subst (AreMore c.args.used.now _ []) (sym (take_more numbers i 0 c.loop-number-test.true)) (more-then c.args.used.now c.loop-number.used _ (take i numbers) (item ∷ []) c.loop-number.invariant one)

pub returns : goal.returns
returns g c = grind (arith, common_steps)

pub loop-number-init : goal.loop-number-init
loop-number-init g c = grind (arith, common_steps)
