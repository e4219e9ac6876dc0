use Rattle.std.proofs.Common.{◌≡◌, ◌≤◌, length, take}
use Rattle.idl_env.specs.Turns.{bases_among}
use Rattle.idl_env.proofs.additions.facts.Facts.bases.Given as goal

-- the bases are those that the additions name up to the present place
abbrev pub invariant-loop-index : goal.invariant-loop-index
invariant-loop-index l = record {
  within : l.index ≤ length l.self.additions;
  bases : l.bases ≡ length (bases_among (take l.index l.self.additions));
}
