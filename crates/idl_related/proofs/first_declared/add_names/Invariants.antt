use Rattle.std.proofs.Common.{◌≡◌, drop}
use Rattle.std.specs.List.{fold}
use Rattle.idl_related.specs.FirstDeclared.{with_name}
use Rattle.idl_related.proofs.first_declared.add_names.Given as goal

-- what comes of the names from here on
abbrev pub invariant-loop-name : goal.invariant-loop-name
invariant-loop-name l = fold with_name l.first (drop l.name-index l.names) ≡ fold with_name l.fn.first l.names
