use Rattle.std.proofs.Common.{◌≡◌, ◌++◌, take}
use Rattle.idl_env.proofs.answering.operations.put_last.Given as goal

abbrev pub invariant-loop-path : goal.invariant-loop-path
invariant-loop-path l = l.own ≡ l.fn.own ++ take l.path-index l.paths
