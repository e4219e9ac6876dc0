use Rattle.std.proofs.Common.{◌≡◌, drop}
use Rattle.idl_env.specs.Facts.{operations_among}
use Rattle.idl_env.proofs.additions.facts.Facts.operation_from.Given as goal

-- none is passed by
abbrev pub invariant-loop-index : goal.invariant-loop-index
invariant-loop-index l = operations_among (drop l.place l.self.additions) ≡ operations_among (drop l.index l.self.additions)
