use Rattle.std.proofs.Common.{◌≡◌, drop}
use Rattle.idl_check.specs.tables.Codes.{codes_in}
use Rattle.idl_check.proofs.tables.codes.first_code.Given as goal

-- all codes are those of the rest
abbrev pub invariant-loop-holds : goal.invariant-loop-holds
invariant-loop-holds l = codes_in (drop l.holds-index l.table) ≡ codes_in l.table
