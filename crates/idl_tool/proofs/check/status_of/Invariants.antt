use Rattle.std.proofs.Common.{◌≡◌, drop}
use Rattle.idl_driver.specs.Rows.{are_faulty}
use Rattle.idl_tool.proofs.check.status_of.Given as goal

-- those before have no error
abbrev pub invariant-roots : goal.invariant-roots
invariant-roots l = are_faulty (drop l.root-index l.compiled) ≡ are_faulty l.compiled
