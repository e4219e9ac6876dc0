use Rattle.std.proofs.Common.{◌≡◌, ◌⊎◌, ℕ, Some, slice_get}
use Rattle.std.specs.Map.{keys_of}
use Rattle.std.specs.Int.{bit_at}
use Rattle.idl_map.specs.Buckets.{Stands}
use Rattle.idl_map.proofs.arena.Arena.place_at.Given as goal

-- a slot that has the tag is marked, unless its entry is at another key
abbrev pub invariant-loop-marks : goal.invariant-loop-marks
invariant-loop-marks g l =
    (slot i : ℕ) → Stands l.self.index l.spot.digest slot i
    → (slice_get (keys_of l.self.entries.items) i ≡ Some (g.L.Lent.key l.key) → ⊥) ⊎ (bit_at l.marks slot ≡ 1)

-- fewer marks are left
abbrev pub decreases-loop-marks : goal.decreases-loop-marks
decreases-loop-marks g l = l.marks
