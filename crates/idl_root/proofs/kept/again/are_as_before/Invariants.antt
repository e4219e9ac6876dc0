use Rattle.std.proofs.Common.{◌≡◌, ◌++◌, List, drop}
use Rattle.idl_root.specs.AsBefore.{texts_from, texts_of}
use Rattle.idl_root.specs.Results.{marks_of}
use Rattle.idl_root.proofs.kept.again.are_as_before.Given as goal
use Rattle.idl_unit.specs.declared.unit.UnitText.{UnitText}

-- if those that are left are as they were, all are
abbrev pub invariant-loop-unit : goal.invariant-loop-unit
invariant-loop-unit l =
    (l.course.marks.now ≡ marks_of (drop l.unit-index l.units) → l.fn.earlier.marks.now ≡ marks_of l.units)
    × ((rest : List UnitText) → texts_from l.kept.lists l.course ≡ texts_of (drop l.unit-index l.units) ++ rest
    → texts_from l.kept.lists l.fn.earlier ≡ texts_of l.units ++ rest)
