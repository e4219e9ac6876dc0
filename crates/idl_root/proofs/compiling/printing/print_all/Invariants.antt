use Rattle.std.proofs.Common.{◌≡◌, ◌++◌, drop, flat_map, map}
use Rattle.idl_root.specs.Held.{listed_at}
use Rattle.idl_root.specs.Printed.{closing_finding, entry_row, sought_finding, sought_row}
use Rattle.idl_root.proofs.compiling.printing.print_all.Given as goal

-- what came so far, and what comes of the names that are looked up, is what comes of the names so far
abbrev pub invariant-loop-name : goal.invariant-loop-name
invariant-loop-name l =
    ((l.printed.findings.items ++ flat_map sought_finding l.sought.items) ++ flat_map (closing_finding l.env) (map listed_at (drop l.name-index l.listed)) ≡ flat_map (closing_finding l.env) (map listed_at l.listed))
    × ((l.printed.rows.items ++ flat_map sought_row l.sought.items) ++ flat_map (entry_row l.env) (map listed_at (drop l.name-index l.listed)) ≡ flat_map (entry_row l.env) (map listed_at l.listed))
