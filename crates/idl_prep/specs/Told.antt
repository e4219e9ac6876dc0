-- What is told of faults of groups.
use Rattle.std.specs.Prelude.{List, [], ◌∷◌, Some}
use Rattle.idl_memo.specs.Query.{Done, Tell}
use Rattle.idl_event.specs.Expanding.{Expanding}
use Rattle.idl_fault.specs.declared.code.Code.{Code}
use Rattle.idl_fault.specs.declared.code.Code.TheVariants as code
use Rattle.idl_event.specs.declared.told.event.Event.TheVariants.{Fault}
use Rattle.idl_event.specs.declared.told.event.Item.{Item}
use Rattle.idl_event.specs.declared.told.event.Item.TheVariants.{Kept}
use Rattle.idl_fault.specs.declared.file_name.FileName.{FileName}
use Rattle.idl_text.specs.declared.groups.fault.GroupFault.{GroupFault}
use Rattle.idl_text.specs.declared.groups.fault.Misplaced.{Misplaced}
use Rattle.idl_text.specs.declared.groups.fault.Misplaced.TheVariants.{OutOfPlace, NotClosed}
use Rattle.idl_prep.specs.State.{Said}

abbrev pub code_of : Misplaced → Code
code_of OutOfPlace = code.OutOfPlace
code_of NotClosed = code.NotClosed

-- a fault of a file's groups
abbrev pub item_of : FileName → GroupFault → Item
item_of file fault =
    Kept (Fault (record { file = file; line = fault.line }) (code_of fault.what) (Some fault.word))

-- faults are told, and nothing else
abbrev pub told : FileName → List GroupFault → Said → Expanding Said
told file [] s = Done s
told file (fault ∷ faults) s = Tell (item_of file fault) (told file faults s)
