-- The buckets are those of the map.
use Rattle.std.proofs.Common.{subst, sym}
use Rattle.std.specs.Prelude.{Contains}
use Rattle.idl_store.specs.Index.{AddsTo, IsAlone, bucket_in, buckets_of}
use Rattle.idl_store.proofs.index.Index.remove.Goals as goal

pub remove_at-requires-clause-alone : goal.remove_at-requires-clause-alone
remove_at-requires-clause-alone g c =
    subst (λ index. IsAlone c.args.number (bucket_in index c.args.bucket)) (sym c.self.view_is) c.requires

pub returns-clause-one : goal.returns-clause-one
returns-clause-one g c = λ item is among.
    subst (λ index. AddsTo (buckets_of c.remove_at.new.buckets) index c.args.bucket item) c.self.view_is
    (c.remove_at.ensures.one item is (subst (λ index. Contains (bucket_in index c.args.bucket) item) (sym c.self.view_is) among))
