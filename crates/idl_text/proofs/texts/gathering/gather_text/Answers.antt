use Rattle.std.proofs.Common.{◌<◌, ap, arith, length, subst, sym, take}
use Rattle.std.proofs.lemmas.List.{length-append}
use Rattle.idl_text.specs.Texts.{BeginsText}
use Rattle.idl_text.proofs.GatherLemmas.{gathered-begins, gathered-more, gathered-none, not_none-some}
use Rattle.idl_text.proofs.LeftLemmas.{within-first}
use Rattle.idl_text.proofs.texts.gathering.gather_text.Goals as goal

pub parts-init : goal.parts-init
parts-init c = gathered-none c.args.tokens c.new-words.result.items c.new-words.ensures.items

pub overflow_add-count : goal.overflow_add-count
overflow_add-count c =
    let here = c.parts.invariant in
    let first = c.first_text-text.ensures in
    omega (arith, c.requires, within-first c.args.tokens c.parts.left c.first_text-text.result.0 c.first_text-text.result.1 c.parts.count c.len-count.result here.rest first.all c.len-count.ensures here.within)

pub parts-preserved : goal.parts-preserved
parts-preserved c =
    let text = c.first_text-text.result.0 in
    let first = c.first_text-text.ensures in
    let some : 0 < length text = not_none-some text c.is_empty-in-parts.result c.is_empty-in-parts.ensures c.if-is_empty.false in
    gathered-more c.args.tokens c.parts.left text c.first_text-text.result.1 c.parts.count c.len-count.result c.parts.words.items c.gather_words.new.words.items
    c.parts.invariant first.all first.lines first.begins first.text c.len-count.ensures some
    (c.in_ok-gather_words.ensures (take c.parts.count c.args.tokens) c.parts.invariant.words)

pub parts-smaller : goal.parts-smaller
parts-smaller c =
    let text = c.first_text-text.result.0 in
    let rest = c.first_text-text.result.1 in
    let some : 0 < length text = not_none-some text c.is_empty-in-parts.result c.is_empty-in-parts.ensures c.if-is_empty.false in
    omega (arith, some, ap length c.first_text-text.ensures.all, length-append text rest)

pub returns-clause-text : goal.returns-clause-text
returns-clause-text c =
    subst (BeginsText c.args.tokens c.parts.count) (sym c.shrink_to_fit.ensures.items) (gathered-begins c.args.tokens c.parts.left c.parts.count c.parts.words.items c.parts.invariant)

pub returns-clause-behind : goal.returns-clause-behind
returns-clause-behind c = c.parts.invariant.rest
