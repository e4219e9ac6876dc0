use Rattle.std.proofs.Common.{◌≡◌, ◌∙◌, ◌+◌, ◌≤◌, ◌++◌, ◌∷◌, [], ℕ, List, Option, ap, arith, length, sym, take}
use Rattle.idl_changes.specs.Tables.{each, plain_alias}
use Rattle.idl_changes.proofs.ListingLemmas.{lent-at, lent-past, lent-within}
use Rattle.idl_changes.proofs.TableLemmas.{all-places, each-next, few-places-so-far}
use Rattle.idl_repo.specs.declared.details.type_tree.LayeredType.{LayeredType}
use Rattle.idl_changes.proofs.plain.plain_aliases.Goals as goal

pub plain_alias-requires : goal.plain_alias-requires
plain_alias-requires c =
    let L = c.args.listing.now in
    let lent = c.trees-tree-items.result.now in
    let i = c.loop-tree.tree-index in
    let below = lent-within lent i c.loop-tree-test.true in
    let within : i ≤ length L = omega (arith, below, ap length c.trees-tree-items.ensures) in
    let so_far = c.deref.ensures.value ∙ c.loop-tree.invariant in
    let count : length c.deref.result.now ≡ i = ap length so_far ∙ few-places-so-far (plain_alias L) L i within in
    so_far ∙ ap (λ (n : ℕ). take n (each (plain_alias L) L)) (sym count)

pub loop-tree-preserved : goal.loop-tree-preserved
loop-tree-preserved c =
    let L = c.args.listing.now in
    let lent = c.trees-tree-items.result.now in
    let i = c.loop-tree.tree-index in
    let tree = c.tree-item.result in
    let below = lent-within lent i c.loop-tree-test.true in
    let within : i ≤ length L = omega (arith, below, ap length c.trees-tree-items.ensures) in
    let count : length c.deref.result.now ≡ i = ap length (c.deref.ensures.value ∙ c.loop-tree.invariant) ∙ few-places-so-far (plain_alias L) L i within in
    c.in_ok-push.ensures.items
    ∙ ap (λ (p : Option LayeredType). c.loop-tree.plains.items ++ p ∷ []) (c.in_ok-plain.ensures ∙ ap (λ (n : ℕ). plain_alias L n tree.now) count)
    ∙ ap (λ (ps : List (Option LayeredType)). ps ++ plain_alias L i tree.now ∷ []) c.loop-tree.invariant
    ∙ sym (each-next (plain_alias L) L i tree.now (lent-at lent L c.trees-tree-items.ensures i tree c.loop-tree-test.true c.tree-item.is))

pub returns : goal.returns
returns c =
    let L = c.args.listing.now in
    let lent = c.trees-tree-items.result.now in
    let i = c.loop-tree.tree-index in
    let beyond = lent-past lent i c.loop-tree-test.false in
    let past : length L ≤ i = omega (arith, beyond, ap length c.trees-tree-items.ensures) in
    c.loop-tree.invariant ∙ all-places (plain_alias L) L i past
