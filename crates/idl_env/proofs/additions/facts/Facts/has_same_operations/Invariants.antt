use Rattle.std.proofs.Common.{◌≡◌, drop}
use Rattle.idl_env.specs.Facts.{operations_among}
use Rattle.idl_env.proofs.additions.facts.Facts.has_same_operations.Given as goal

-- all are the same if those of the rests are
abbrev pub invariant-loop-index : goal.invariant-loop-index
invariant-loop-index l =
    operations_among (drop l.index l.self.additions) ≡ operations_among (drop l.behind l.other.additions) → operations_among l.self.additions ≡ operations_among l.other.additions
