use Rattle.std.proofs.Common.{◌≡◌, ◌++◌, drop}
use Rattle.idl_env.specs.Stamps.{stamped_in}
use Rattle.idl_env.specs.Facts.{unstopped}
use Rattle.idl_env.proofs.additions.facts.Facts.unstopped.Given as goal

-- those so far and those of the rest are all
abbrev pub invariant-loop-index : goal.invariant-loop-index
invariant-loop-index l =
    l.left.items ++ unstopped (stamped_in l.answers).at (drop l.index l.self.additions) ≡ unstopped (stamped_in l.answers).at l.self.additions
