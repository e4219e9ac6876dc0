-- The buckets are those of the map.
use Rattle.std.proofs.Common.{◌≡◌, OnErr, OnOk, subst, sym}
use Rattle.idl_store.specs.Index.{AddsTo, IsGapAmong, buckets_of, numbered}
use Rattle.idl_store.proofs.index.Index.insert.Goals as goal

pub insert_at-requires-clause-gap : goal.insert_at-requires-clause-gap
insert_at-requires-clause-gap g c =
    subst (λ index. IsGapAmong (λ other. g.R.Ranked.rank other c.args.kept) index c.args.gap) (sym c.self.view_is) c.requires

pub returns-clause-ok : goal.returns-clause-ok
returns-clause-ok g c =
    subst (λ index. OnOk c.insert_at.result (AddsTo index (buckets_of c.insert_at.new.buckets) c.args.gap.bucket (numbered c.args.kept c.args.number))) c.self.view_is c.insert_at.ensures.ok

pub returns-clause-err : goal.returns-clause-err
returns-clause-err g c =
    subst (λ index. OnErr c.insert_at.result (buckets_of c.insert_at.new.buckets ≡ index)) c.self.view_is c.insert_at.ensures.err
