-- There are no buckets.
use Rattle.std.proofs.Common.{List, subst, sym}
use Rattle.std.specs.Prelude.{ℕ}
use Rattle.idl_store.specs.Index.{AreInOrder, bucket_in, numbered_cmp}
use Rattle.idl_store.specs.declared.index.Numbered.{Numbered}
use Rattle.idl_store.proofs.Bucketed.{none-in}
use Rattle.idl_store.proofs.index.Index.new.Goals as goal

pub invariant_of-result : goal.invariant_of-result
invariant_of-result g c = λ b.
    subst (λ (buckets : List (ℕ × List (Numbered g.row.R.Denot))). AreInOrder (numbered_cmp g.R.Ranked.rank) (bucket_in buckets b)) (sym (none-in c.new.result c.new.ensures.empty)) tt

pub returns : goal.returns
returns g c = none-in c.new.result c.new.ensures.empty
