-- Look-ups find the same buckets.
use Rattle.std.proofs.Common.{◌∙◌, ap, subst, sym}
use Rattle.idl_store.specs.Index.{AreInOrder, bucket_in, numbered_cmp}
use Rattle.idl_store.proofs.Bucketed.{bucket-same}
use Rattle.idl_store.proofs.index.Index.shrink.Goals as goal

pub invariant_of-self : goal.invariant_of-self
invariant_of-self g c = λ b.
    subst (AreInOrder (numbered_cmp g.R.Ranked.rank)) (sym (bucket-same c.self.inside.buckets c.shrink_map.new.map b (c.shrink_map.ensures b))) (c.self.invariant b)

pub returns : goal.returns
returns g c = λ b.
    bucket-same c.self.inside.buckets c.shrink_map.new.map b (c.shrink_map.ensures b) ∙ ap (λ index. bucket_in index b) c.self.view_is
