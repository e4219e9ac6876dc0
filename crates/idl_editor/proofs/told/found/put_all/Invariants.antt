use Rattle.std.proofs.Common.{◌≡◌, ◌++◌, take}
use Rattle.std.specs.List.{filter}
use Rattle.idl_editor.specs.told.Found.{findings_in, is_in}
use Rattle.idl_editor.proofs.told.found.put_all.Given as goal

-- with those of the findings before
abbrev pub invariant-findings : goal.invariant-findings
invariant-findings l = findings_in l.found.items ≡ findings_in l.initial.found.items ++ filter (is_in l.name) (take l.index l.findings)
