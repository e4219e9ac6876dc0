use Rattle.std.proofs.Common.{◌≡◌, ◌⊎◌, ℕ}
use Rattle.std.specs.Int.{bit_at}
use Rattle.idl_map.specs.Buckets.{AreKept, FindsIn, IsOf, StandsAt, tag_of}
use Rattle.idl_map.proofs.index.Target.take.Given as goal

-- a place has been put in, or its slot is marked
abbrev pub invariant-loop-marks : goal.invariant-loop-marks
invariant-loop-marks l =
    record {
      kept : AreKept l.fn.buckets l.buckets;
      taken : (slot d i : ℕ) → IsOf l.self.digests.now l.self.number d i
          → StandsAt l.fn.buckets l.number slot (tag_of d) i
          → FindsIn l.self.part l.buckets d i ⊎ (bit_at l.marks slot ≡ 1);
    }

-- fewer marks are left
abbrev pub decreases-loop-marks : goal.decreases-loop-marks
decreases-loop-marks l = l.marks
