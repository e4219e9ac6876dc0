-- One draft more is in its place.
use Rattle.std.proofs.Common.{◌≡◌, ◌+◌, ◌<◌, ℕ, List, ap, arith, drop, fold, get_or, length, set, sym, take, ◌∙◌}
use Rattle.std.proofs.lemmas.List.{drop-set-lt, get_or-map, map-set}
use Rattle.std.proofs.lemmas.List.Sums.{fold_more}
use Rattle.idl_store.specs.Numbers.{drafts_of, lists_of, times}
use Rattle.idl_store.specs.Stored.{placed, results_of_drafts}
use Rattle.idl_store.specs.declared.numbers.Draft.{Draft}
use Rattle.idl_store.proofs.Drafting.{length-drafts, same-next, same-rest}
use Rattle.idl_store.proofs.Times.{times-set_draft}
use Rattle.idl_store.proofs.numbers.exchange.Goals as goal

pub loop-place-preserved : goal.loop-place-preserved
loop-place-preserved c =
    let i = c.loop-place.place in
    let inv = c.loop-place.invariant in
    let one = c.exchange_one.ensures in
    let first = drafts_of c.args.drafts.now.items in
    let cur = c.loop-place.drafts.items in
    let old = c.index_mut.result.now in
    let new = c.exchange_one.new.draft in
    let see : Draft → ℕ × List ℕ = λ d. (d.at, d.numbers.items) in
    let d : ℕ × List ℕ = see old in
    let within : i < length cur = omega (arith, c.loop-place-test.true, c.len-place-end.ensures, inv.len, c.loop-place.drafts.ok.0) in
    let among : i < length first = omega (arith, c.loop-place-test.true, c.len-place-end.ensures, c.args.drafts.now.ok.0, length-drafts c.args.drafts.now.items) in
    let here : get_or (drafts_of cur) i d ≡ d = get_or-map see cur i old d within ∙ ap see (sym c.index_mut.ensures.value) in
    let same : d ≡ get_or first i d = sym here ∙ same-next (drafts_of cur) first i inv.rest d in
    let written : drafts_of (set cur i new) ≡ set (drafts_of cur) i (see new) = map-set see cur i new in
    record {
      lists = one.lists ∙ ap (λ ls. placed ls d) inv.lists ∙ ap (placed (fold placed (lists_of c.args.lists.now.items) (take i first))) same ∙ sym (fold_more placed (lists_of c.args.lists.now.items) first i d among);
      rest = ap (drop (i + 1)) written ∙ drop-set-lt (i + 1) (drafts_of cur) i (see new) (omega arith) ∙ same-rest (drafts_of cur) first i inv.rest;
      len = inv.len;
      times = λ n.
          let parts : times n (results_of_drafts (set (drafts_of cur) i (see new))) + times n (get_or (drafts_of cur) i d).1 ≡ times n (results_of_drafts (drafts_of cur)) + times n new.numbers.items = times-set_draft n (drafts_of cur) i (see new) d (omega (arith, within, length-drafts cur)) in
          let was : times n (get_or (drafts_of cur) i d).1 ≡ times n old.numbers.items = ap (λ (e : ℕ × List ℕ). times n e.1) here in
          let now : times n (results_of_drafts (drafts_of (set cur i new))) ≡ times n (results_of_drafts (set (drafts_of cur) i (see new))) = ap (λ ds. times n (results_of_drafts ds)) written in
          omega (arith, one.times n, inv.times n, parts, was, now);
      room = omega (arith, one.len, inv.room, c.loop-place-test.true, c.len-place-end.ensures);
      capacity = one.capacity ∙ inv.capacity;
    }
