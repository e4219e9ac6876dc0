-- The item goes into its gap, or into a bucket of its own.
use Rattle.std.proofs.Common.{◌≡◌, [], None, OnErr, OnOk, Some, ap, subst, sym}
use Rattle.std.specs.Prelude.{is_some}
use Rattle.std.proofs.lemmas.Result.{on_err_weaker, on_ok_weaker}
use Rattle.idl_store.specs.Buckets.{AddsOne}
use Rattle.idl_store.specs.Index.{AddsTo, AreInOrder, IsGap, IsInOrder, bucket_in, buckets_of, numbered_cmp}
use Rattle.idl_store.proofs.Bucketed.{adds-written, bucket-found, bucket-kept, order-written, written}
use Rattle.idl_store.proofs.index.insert_at.Goals as goal

pub insert_in-requires-clause-order : goal.insert_in-requires-clause-order
insert_in-requires-clause-order g c =
    let found = bucket-found c.args.buckets.now c.args.gap.bucket (Some c.in-Some.results.now) (sym c.in-Some.ensures.value) in
    subst (AreInOrder (numbered_cmp g.R.Ranked.rank)) found (c.requires.order c.args.gap.bucket)

pub insert_in-requires-clause-gap : goal.insert_in-requires-clause-gap
insert_in-requires-clause-gap g c =
    let found = bucket-found c.args.buckets.now c.args.gap.bucket (Some c.in-Some.results.now) (sym c.in-Some.ensures.value) in
    subst (λ items. IsGap (λ one. g.R.Ranked.rank one.result c.args.item.result) items c.args.gap.place) found c.requires.gap

pub returns-in-Some-clause-ok : goal.returns-in-Some-clause-ok
returns-in-Some-clause-ok g c =
    let m = c.args.buckets.now in
    let d = c.args.gap.bucket in
    let w = c.insert_in.new.bucket in
    let n = c.get_mut.follows.lender w in
    let at = sym c.in-Some.ensures.value in
    let found = bucket-found m d (Some c.in-Some.results.now) at in
    let is = written m n d (Some w) ((c.get_mut.follows.holds w).3 (ap is_some at)) in
    on_ok_weaker c.insert_in.result
    (λ adds. adds-written (buckets_of m) (buckets_of n) d w.items is c.args.item (subst (λ old. AddsOne old w.items c.args.item) (sym found) adds))
    c.insert_in.ensures.ok

pub returns-in-Some-clause-err : goal.returns-in-Some-clause-err
returns-in-Some-clause-err g c =
    let m = c.args.buckets.now in
    let w = c.insert_in.new.bucket in
    on_err_weaker c.insert_in.result
    (λ same. bucket-kept m (c.get_mut.follows.lender w) c.args.gap.bucket c.in-Some.results.now w (sym c.in-Some.ensures.value) (c.get_mut.follows.holds w).0 same)
    c.insert_in.ensures.err

pub returns-in-Some-clause-order : goal.returns-in-Some-clause-order
returns-in-Some-clause-order g c =
    let m = c.args.buckets.now in
    let d = c.args.gap.bucket in
    let w = c.insert_in.new.bucket in
    let n = c.get_mut.follows.lender w in
    let is = written m n d (Some w) ((c.get_mut.follows.holds w).3 (ap is_some (sym c.in-Some.ensures.value))) in
    order-written (buckets_of m) (buckets_of n) d w.items is g.R.Ranked.rank c.insert_in.ensures.order c.requires.order

pub insert_alone-requires-clause-order : goal.insert_alone-requires-clause-order
insert_alone-requires-clause-order g c =
    subst (λ m. IsInOrder g.R.Ranked.rank (buckets_of m)) (sym c.get_mut.follows.holds-at-none) c.requires.order

pub insert_alone-requires-clause-apart : goal.insert_alone-requires-clause-apart
insert_alone-requires-clause-apart g c =
    subst (λ m. bucket_in (buckets_of m) c.args.gap.bucket ≡ []) (sym c.get_mut.follows.holds-at-none)
    (bucket-found c.args.buckets.now c.args.gap.bucket None (sym c.in_default.ensures.value))

pub returns-clause-ok : goal.returns-clause-ok
returns-clause-ok g c =
    subst (λ m. OnOk c.insert_alone.result (AddsTo (buckets_of m) (buckets_of c.insert_alone.new.buckets) c.args.gap.bucket c.args.item)) c.get_mut.follows.holds-at-none c.insert_alone.ensures.ok

pub returns-clause-err : goal.returns-clause-err
returns-clause-err g c =
    subst (λ m. OnErr c.insert_alone.result (buckets_of c.insert_alone.new.buckets ≡ buckets_of m)) c.get_mut.follows.holds-at-none c.insert_alone.ensures.err
