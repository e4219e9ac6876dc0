-- What is no more than the most has room.
use Rattle.std.proofs.Common.{◌≡◌, ◌+◌, ◌<◌, ◌≤◌, ◌^◌, ℕ, All, Some, None, ap, arith, get_or, length, subst, sym, take}
use Rattle.std.proofs.lemmas.List.{take_all, take_more}
use Rattle.std.proofs.lemmas.List.Elements.{All-push}
use Rattle.idl_store.specs.Numbers.{uses_of}
use Rattle.idl_store.proofs.uses.have_room.Goals as goal

pub loop-number-preserved : goal.loop-number-preserved
loop-number-preserved g c =
    let numbers = c.args.numbers.now in
    let i = c.loop-number.number-index in
    let item = get_or numbers i 0 in
    let P : ℕ → Type 0 = λ n. uses_of c.args.used.now n + length numbers < 2 ^ 64 in
    let here : uses_of c.args.used.now item ≡ c.index.result.now.uses = ap (λ o. elim o [ None ↦ 0 | Some u ↦ u.uses ]) c.index.ensures in
    let room : c.index.result.now.uses + length numbers < 2 ^ 64 = c.in-Some.ensures.0 in
    let fits : uses_of c.args.used.now item + length numbers < 2 ^ 64 = omega (arith, here, room) in
    subst (All P) (sym (take_more numbers i 0 c.loop-number-test.true)) (All-push P (take i numbers) item c.loop-number.invariant fits)

pub returns : goal.returns
returns g c = λ yes.
    let past : length c.args.numbers.now ≤ c.loop-number.number-index = omega (arith, c.loop-number-test.false) in
    subst (All (λ n. uses_of c.args.used.now n + length c.args.numbers.now < 2 ^ 64)) (take_all c.loop-number.number-index c.args.numbers.now past) c.loop-number.invariant
