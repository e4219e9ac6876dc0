-- The place of a directive.
use Rattle.idl_fault.specs.declared.file_name.FileName.{FileName}
use Rattle.idl_fault.specs.declared.place.Place.{Place}
use Rattle.idl_text.specs.Line.{Directive}

-- the place of a directive in a file
abbrev pub place_in : FileName → Directive → Place
place_in file d = record { file = file; line = d.line }
