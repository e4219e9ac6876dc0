-- The item is the only one of its bucket.
use Rattle.std.proofs.Common.{◌≡◌, ◌∷◌, ◌++◌, ◌∙◌, [], Some, ap, subst, sym}
use Rattle.std.proofs.lemmas.List.Elements.{All-nil}
use Rattle.std.specs.declared.cmp.Ordering.TheVariants.{Less}
use Rattle.idl_store.specs.Buckets.{AddsOne}
use Rattle.idl_store.specs.Index.{AreInOrder, buckets_of, numbered_cmp}
use Rattle.idl_store.proofs.Bucketed.{adds-written, order-written, written}
use Rattle.idl_store.proofs.Indexing.{adds-item}
use Rattle.idl_store.proofs.index.insert_alone.Goals as goal

pub returns-clause-ok : goal.returns-clause-ok
returns-clause-ok g c =
    let m = c.args.buckets.now in
    let n = c.insert.new.self in
    let w = c.push.new.self in
    let item = c.args.item in
    let alone : w.items ≡ item ∷ [] = c.in_ok-push.ensures.items ∙ ap (λ items. items ++ item ∷ []) c.in_ok-results.ensures.items in
    let is = written m n c.args.bucket (Some w) c.in_ok-insert.ensures.updates in
    adds-written (buckets_of m) (buckets_of n) c.args.bucket w.items is item
    (subst (λ old. AddsOne old w.items item) (sym c.requires.apart) (subst (λ new. AddsOne [] new item) (sym alone) (adds-item [] [] item)))

pub returns-clause-order : goal.returns-clause-order
returns-clause-order g c =
    let cmp = numbered_cmp g.R.Ranked.rank in
    let m = c.args.buckets.now in
    let n = c.insert.new.self in
    let w = c.push.new.self in
    let item = c.args.item in
    let alone : w.items ≡ item ∷ [] = c.in_ok-push.ensures.items ∙ ap (λ items. items ++ item ∷ []) c.in_ok-results.ensures.items in
    let is = written m n c.args.bucket (Some w) c.in_ok-insert.ensures.updates in
    order-written (buckets_of m) (buckets_of n) c.args.bucket w.items is g.R.Ranked.rank
    (subst (AreInOrder cmp) (sym alone) (All-nil (λ other. cmp item other ≡ Less), tt)) c.requires.order
