use Rattle.std.proofs.Common.{◌<◌, ◌++◌, ℕ, List, take}
use Rattle.idl_disk.specs.Extent.{Measures}
use Rattle.idl_disk.specs.Reading.{ArePastLimits}
use Rattle.idl_disk.proofs.reading.Extent.add.Given as goal

abbrev pub invariant-bytes : goal.invariant-bytes
invariant-bytes l = (before : List ℕ) → Measures before l.fn.self
    → Measures (before ++ take l.count l.bytes) l.self × ((n : ℕ) → n < l.count → ArePastLimits (before ++ take n l.bytes) → ⊥)
