use Rattle.std.proofs.Common.{◌≡◌, drop}
use Rattle.idl_env.specs.Facts.{operations_among}
use Rattle.idl_env.proofs.additions.digested_addition.is_operation_among.Given as goal

-- none is passed by
abbrev pub invariant-loop-addition : goal.invariant-loop-addition
invariant-loop-addition l = operations_among (drop l.addition-index l.additions) ≡ operations_among l.additions
