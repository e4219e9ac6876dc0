use Rattle.std.proofs.Common.{◌≡◌, drop}
use Rattle.std.specs.Prelude.{fold}
use Rattle.idl_check.specs.tables.Using.{with_operation}
use Rattle.idl_check.proofs.tables.bases.add_operations.Given as goal

-- the rest, put behind those so far, comes to all of them
abbrev pub invariant-loop-path : goal.invariant-loop-path
invariant-loop-path l = fold with_operation l.operations (drop l.path-index l.paths) ≡ fold with_operation l.fn.operations l.paths
