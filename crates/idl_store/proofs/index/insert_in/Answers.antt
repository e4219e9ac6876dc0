-- The item goes into the gap.
use Rattle.std.proofs.Common.{◌∷◌, ◌++◌, drop, subst, sym, take}
use Rattle.std.proofs.lemmas.Cmp.{on_total}
use Rattle.std.proofs.lemmas.List.{take-append-drop}
use Rattle.idl_store.specs.Buckets.{AddsOne}
use Rattle.idl_store.specs.Index.{AreInOrder, numbered_cmp}
use Rattle.idl_store.proofs.Indexing.{adds-item, order-insert}
use Rattle.idl_store.proofs.index.insert_in.Goals as goal

pub returns-clause-order : goal.returns-clause-order
returns-clause-order g c =
    let cmp = numbered_cmp g.R.Ranked.rank in
    let total = g.met.R.Ranked.ranked in
    let items = c.args.bucket.now.items in
    let place = c.args.place in
    subst (AreInOrder cmp) (sym c.in_ok-insert.ensures.items)
    (order-insert cmp (on_total (λ one. one.result) total) c.args.item (take place items) (drop place items) (subst (AreInOrder cmp) (sym (take-append-drop place items)) c.requires.order) c.requires.gap.before c.requires.gap.behind)

pub returns-clause-ok : goal.returns-clause-ok
returns-clause-ok g c =
    let items = c.args.bucket.now.items in
    let place = c.args.place in
    subst (λ new. AddsOne items new c.args.item) (sym c.in_ok-insert.ensures.items)
    (subst (λ old. AddsOne old (take place items ++ c.args.item ∷ drop place items) c.args.item) (take-append-drop place items)
    (adds-item (take place items) (drop place items) c.args.item))
