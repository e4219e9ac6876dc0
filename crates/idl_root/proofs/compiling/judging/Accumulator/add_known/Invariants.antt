use Rattle.std.proofs.Common.{◌≡◌, ◌++◌, List, drop}
use Rattle.idl_env.specs.Facts.{UnitFacts}
use Rattle.idl_root.specs.AsBefore.{judged_beside}
use Rattle.idl_root.specs.Followed.{IsKeeping, added_by}
use Rattle.idl_root.specs.Held.{with_gathered, with_units}
use Rattle.idl_root.specs.Passed.{WalksOnly, known_results}
use Rattle.idl_root.specs.Results.{marks_of}
use Rattle.idl_root_blocks.specs.Finding.{texts_in}
use Rattle.idl_root_blocks.specs.Units.{text_of}
use Rattle.idl_root.proofs.compiling.judging.Accumulator.add_known.Given as goal

-- with what the rest comes to it is what all of them come to
abbrev pub invariant-loop-unit : goal.invariant-loop-unit
invariant-loop-unit l =
    let rest = drop l.unit-index l.units in
    (l.env ++ added_by (marks_of rest) (known_results l.known (texts_in (text_of rest)))
    ≡ l.fn.env ++ added_by (marks_of l.units) (known_results l.fn.known (texts_in (text_of l.units))))
    × ((facts : List UnitFacts) → with_units (with_gathered facts l.self) (judged_beside rest (known_results l.known (texts_in (text_of rest))))
    ≡ with_units (with_gathered facts l.fn.self) (judged_beside l.units (known_results l.fn.known (texts_in (text_of l.units)))))
    × (l.keeping.marks.items ++ marks_of rest ≡ l.fn.keeping.marks.items ++ marks_of l.units)
    × IsKeeping l.known.declarations.now.lists l.keeping l.env
    × (l.known.declarations.now ≡ l.fn.known.declarations.now)
    × WalksOnly l.fn.keeping l.keeping
