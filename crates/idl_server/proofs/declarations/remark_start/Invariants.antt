use Rattle.std.proofs.Common.{◌≤◌, length}
use Rattle.idl_server.proofs.declarations.remark_start.Given as goal

-- it is one of the lines, or behind all of them
abbrev pub invariant-up : goal.invariant-up
invariant-up l = l.start ≤ length l.above
