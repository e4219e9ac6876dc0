use Rattle.std.proofs.Common.{◌≡◌, ◌∙◌, ◌++◌, ◌∷◌, [], ap, arith, length, length-append}
use Rattle.std.specs.Option.{option_to_list}
use Rattle.std.proofs.lemmas.List.{nil_from_length}
use Rattle.std.proofs.lemmas.Result.{IfOk-weaker}
use Rattle.idl_changes.specs.Offered.{ancestors}
use Rattle.idl_changes.proofs.AncestorLemmas.{walk-begin, walk-end, walk-next}
use Rattle.idl_changes.proofs.offered.ancestors.Goals as goal

pub loop-next-init : goal.loop-next-init
loop-next-init c =
    walk-begin c.args.listing.now c.args.place c.add_bases.new.found.keys c.new-found.result.keys c.add_bases.new.ahead.items c.new-ahead.result.items
    c.new-found.ensures.empty c.new-ahead.ensures.items c.in_ok-add_bases.ensures.found c.in_ok-add_bases.ensures.ahead

pub loop-next-smaller : goal.loop-next-smaller
loop-next-smaller c =
    let left = c.pop.new.self.items in
    let next = c.in-Some.next in
    let taken = c.pop.ensures.items ∙ ap (λ o. left ++ option_to_list o) c.in-Some.is in
    let longer = length-append left (next ∷ []) in
    omega (arith, c.in_ok-add_bases-2.ensures.count, ap length taken, longer)

pub loop-next-preserved : goal.loop-next-preserved
loop-next-preserved c =
    let left = c.pop.new.self.items in
    let next = c.in-Some.next in
    let taken : c.loop-next.ahead.items ≡ left ++ next ∷ [] = c.pop.ensures.items ∙ ap (λ o. left ++ option_to_list o) c.in-Some.is in
    walk-next c.args.listing.now c.args.place next c.loop-next.found.keys c.loop-next.ahead.items left c.add_bases-in-Some.new.found.keys c.add_bases-in-Some.new.ahead.items
    taken c.loop-next.invariant c.in_ok-add_bases-2.ensures.found c.in_ok-add_bases-2.ensures.ahead

pub returns : goal.returns
unfolding ancestors
returns c =
    let L = c.args.listing.now in
    let ahead = c.loop-next.ahead in
    let none : ahead.items ≡ [] = nil_from_length ahead.items (omega (arith, c.in_default.ensures.cases.0, ahead.ok.0)) in
    let end = walk-end L c.args.place c.loop-next.found.keys ahead.items none c.loop-next.invariant in
    IfOk-weaker c.last_first.result _ _ (λ list gives. gives (length L) end.0 ∙ end.1) c.last_first.ensures
