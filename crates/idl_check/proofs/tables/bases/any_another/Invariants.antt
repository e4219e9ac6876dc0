use Rattle.std.proofs.Common.{◌≡◌, drop}
use Rattle.std.specs.List.{list_any}
use Rattle.idl_check.specs.tables.Rules.{is_another}
use Rattle.idl_check.proofs.tables.bases.any_another.Given as goal

-- what holds of one of all is asked of the rest
abbrev pub invariant-loop-path : goal.invariant-loop-path
invariant-loop-path l =
    list_any (is_another l.operations) (drop l.path-index l.paths)
    ≡ list_any (is_another l.operations) l.paths
