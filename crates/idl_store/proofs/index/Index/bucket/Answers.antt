-- What a look-up finds is the bucket, in order.
use Rattle.std.proofs.Common.{◌∙◌, None, Some, ap, subst, sym}
use Rattle.idl_store.specs.Index.{AreInOrder, bucket_in, numbered_cmp}
use Rattle.idl_store.proofs.Bucketed.{bucket-found}
use Rattle.idl_store.proofs.index.Index.bucket.Goals as goal

pub returns-in-Some-clause-value : goal.returns-in-Some-clause-value
returns-in-Some-clause-value g c =
    let found = bucket-found c.self.inside.buckets c.args.bucket (Some c.in-Some.results.now) (sym c.in-Some.ensures.value) in
    c.as_slice.ensures.value ∙ sym found ∙ ap (λ index. bucket_in index c.args.bucket) c.self.view_is

pub returns-in-Some-clause-order : goal.returns-in-Some-clause-order
returns-in-Some-clause-order g c =
    let found = bucket-found c.self.inside.buckets c.args.bucket (Some c.in-Some.results.now) (sym c.in-Some.ensures.value) in
    subst (AreInOrder (numbered_cmp g.R.Ranked.rank)) (found ∙ sym c.as_slice.ensures.value) (c.self.invariant c.args.bucket)

pub returns-in-None-clause-value : goal.returns-in-None-clause-value
returns-in-None-clause-value g c =
    sym (bucket-found c.self.inside.buckets c.args.bucket None (sym c.in-None.ensures.value)) ∙ ap (λ index. bucket_in index c.args.bucket) c.self.view_is

pub returns-in-None-clause-order : goal.returns-in-None-clause-order
returns-in-None-clause-order g c = tt
