use Rattle.std.proofs.Common.{◌<◌, ◌+◌, ℕ}
use Rattle.idl_map.specs.Buckets.{AreKept, FindsIn, HasAt, IsOf, tag_of}
use Rattle.idl_map.proofs.index.Target.take_all.Given as goal

-- the places of the buckets before have been put in
abbrev pub invariant-loop-ahead : goal.invariant-loop-ahead
invariant-loop-ahead l =
    record {
      kept : AreKept l.fn.buckets l.buckets;
      taken : (d i n : ℕ) → n < l.ahead → IsOf l.self.digests.now l.self.number d i
          → HasAt l.fn.buckets (l.old.first + n) (tag_of d) i → FindsIn l.self.part l.buckets d i;
    }
