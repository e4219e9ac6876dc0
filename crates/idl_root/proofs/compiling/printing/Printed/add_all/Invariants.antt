use Rattle.std.proofs.Common.{◌≡◌, ◌++◌, drop, flat_map}
use Rattle.idl_base.specs.Spans.{AreWithin, pieces}
use Rattle.idl_root.specs.Printed.{sought_finding, sought_row}
use Rattle.idl_root.proofs.compiling.printing.Printed.add_all.Given as goal

-- what came so far, with the rows that are written, is what comes of the names so far
abbrev pub invariant-loop-name : goal.invariant-loop-name
invariant-loop-name l =
    (l.self.findings.items ++ flat_map sought_finding (drop l.name-index l.sought) ≡ l.fn.self.findings.items ++ flat_map sought_finding l.sought)
    × (pieces l.written.bytes.items l.written.spans.items ++ flat_map sought_row (drop l.name-index l.sought) ≡ flat_map sought_row l.sought)
    × (l.self.rows ≡ l.fn.self.rows)
    × AreWithin l.written.bytes.items l.written.spans.items
