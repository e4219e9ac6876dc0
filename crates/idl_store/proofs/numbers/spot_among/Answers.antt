-- A number that isn't in a list is as often among those of that one and all behind as among those of all behind.
use Rattle.std.proofs.Common.{◌≡◌, ◌+◌, ◌-◌, ◌<◌, ℕ, ap, arith, drop, length, slice_get, suc, sym, ◌∙◌}
use Rattle.idl_store.specs.Numbers.{joined, numbers_of, times}
use Rattle.idl_store.specs.Spots.{lists_among}
use Rattle.idl_store.specs.Stored.{list_at}
use Rattle.idl_store.proofs.Indexing.{none-first}
use Rattle.idl_store.proofs.Spotted.{first-stands}
use Rattle.idl_store.proofs.Times.{times-dropped, times-none}
use Rattle.idl_store.proofs.numbers.spot_among.Goals as goal

pub returns-in-Some-clause-found : goal.returns-in-Some-clause-found
returns-in-Some-clause-found c =
    let numbers = c.numbers_among-numbers in
    let place = c.in-Some.place in
    ap (λ ns. slice_get ns place) (sym numbers.ensures) ∙ first-stands numbers.result.now c.args.number place (sym c.place_in.ensures ∙ c.in-Some.is)

pub loop-behind-preserved : goal.loop-behind-preserved
loop-behind-preserved c =
    let number = c.args.number in
    let count = c.count_among-count.result in
    let behind = c.loop-behind.behind in
    let lists = lists_among (numbers_of c.args.lists.now c.args.drafts.now) c.args.is_draft in
    let list : ℕ = count - 1 - behind in
    let numbers = c.numbers_among-numbers.result.now in
    let below : list < length lists = omega (arith, c.loop-behind-test.true, c.loop-behind.auto.behind-end, c.count_among-count.ensures) in
    let at : count - (behind + 1) ≡ list = omega arith in
    let next : suc list ≡ count - behind = omega (arith, c.loop-behind-test.true, c.loop-behind.auto.behind-end) in
    let here : times number (list_at lists list) ≡ 0 = ap (times number) (sym c.numbers_among-numbers.ensures) ∙ times-none number numbers (none-first (λ m. m) number numbers (sym c.place_in.ensures ∙ c.in_default.is)) in
    let later : times number (joined (drop (suc list) lists)) ≡ 0 = ap (λ k. times number (joined (drop k lists))) next ∙ c.loop-behind.invariant.none in
    let all : times number (joined (drop (count - (behind + 1)) lists)) ≡ times number (joined (drop list lists)) = ap (λ k. times number (joined (drop k lists))) at in
    record {
      none = omega (arith, all, times-dropped number lists list below, here, later);
      within = omega (arith, c.loop-behind-test.true, c.loop-behind.auto.behind-end);
    }
