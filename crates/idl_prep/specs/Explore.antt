-- Where the exploration of a file stops.
-- Files are found by a walk that stops and is gone on with, line by line. Who walks brings the
-- files between two steps, so no step knows where they come from. An include then looks its
-- candidates up again, but replaces its operand and counts its turn once.
-- That the walk finds all is not proved: a name passed over costs its caller a second compilation,
-- and no wrong row.
use Rattle.std.specs.Prelude.{◌≡◌, ◌<◌, All, Option, None, length}
use Rattle.idl_event.specs.declared.asked.key.RootAnswer.{RootAnswer}
use Rattle.idl_event.specs.declared.asked.key.RootKey.{RootKey}
use Rattle.idl_event.specs.declared.asked.key.RootKey.TheVariants as key
use Rattle.idl_prep.specs.declared.walk.explorer.Waypoint.{Waypoint}
use Rattle.idl_prep.specs.declared.walk.explorer.Waypoint.TheVariants.{Absent, Entered, End}

-- the names at which it stops are of files that aren't there, and there is one
abbrev pub StopsAt : (RootKey → Option RootAnswer) → Waypoint → Type 0
StopsAt bank (Absent names) =
    (0 < length names.items) × All (λ name. bank (key.File name) ≡ None) names.items
StopsAt bank (Entered file) = Unit {0}
StopsAt bank End = Unit {0}
