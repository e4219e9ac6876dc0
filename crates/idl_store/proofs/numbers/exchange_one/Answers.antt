-- The draft's numbers come to the list's place, or behind all, and what stood there goes into the draft.
use Rattle.std.proofs.Common.{◌<◌, length, ap, ◌∙◌, arith, set}
use Rattle.idl_store.specs.Numbers.{lists_of}
use Rattle.idl_store.proofs.Times.{placed-there, times-behind, times-there}
use Rattle.idl_store.proofs.numbers.exchange_one.Goals as goal

pub returns-then-draft-len-clause-lists : goal.returns-then-draft-len-clause-lists
returns-then-draft-len-clause-lists c =
    let below : c.args.draft.now.at < length c.args.lists.now.items = omega (arith, c.if-draft-len.true, c.len.ensures, c.args.lists.now.ok.0) in
    ap (λ v. lists_of (set c.args.lists.now.items c.args.draft.now.at v)) c.swap.ensures.x_after ∙ placed-there c.args.lists.now.items c.args.draft.now.at c.args.draft.now.numbers below

pub returns-then-draft-len-clause-times : goal.returns-then-draft-len-clause-times
returns-then-draft-len-clause-times c = λ n.
    let below : c.args.draft.now.at < length c.args.lists.now.items = omega (arith, c.if-draft-len.true, c.len.ensures, c.args.lists.now.ok.0) in
    rw (c.swap.ensures.x_after, c.swap.ensures.y_after) (times-there n c.args.lists.now.items c.args.draft.now.at c.args.draft.now.numbers c.index_mut.result.now below c.index_mut.ensures.value)

pub returns-else-draft-len-clause-times : goal.returns-else-draft-len-clause-times
returns-else-draft-len-clause-times c = λ n.
    rw (c.push_reserved.ensures.items, c.replace.ensures.value, c.replace.ensures.after, c.new-nothing.ensures.items)
    (omega (arith, times-behind n c.args.lists.now.items c.args.draft.now.numbers))
