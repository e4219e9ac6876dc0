-- The two ways in which the result of a task is obtained.
use Rattle.std.specs.Prelude.{◌≡◌, ◌⊎◌, List, length}
use Rattle.idl_memo.specs.Fresh.{Place}
use Rattle.idl_memo.specs.Kept.{Kept, NoneAlikeAt, SomeAlikeAt}
use Rattle.idl_memo.specs.Meter.{compared_after, raised}
use Rattle.idl_memo.specs.declared.meter.Meter.{Meter}
use Rattle.idl_memo.specs.declared.task.TaskKind.{TaskKind}

-- one of the results is alike at a place, and the keys of what is kept there are compared; or none is,
-- and a task is run
abbrev pub IsObtained : {K V T O : Type 0} → Place K V T → Kept K V T O → TaskKind
    → List (Kept K V T O) → Meter → Meter → Type 0
IsObtained place here kind results old new =
    (SomeAlikeAt place results
    × (new ≡ record old { compared = compared_after old.compared (length here.log) }))
    ⊎ (NoneAlikeAt place results × (new ≡ raised kind old))
