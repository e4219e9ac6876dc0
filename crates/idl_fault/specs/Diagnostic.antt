-- The rows of diagnostics.
use Rattle.std.specs.Prelude.{ℕ, List, ◌++◌, codes, decimal, Option, None, Some}
use Rattle.idl_fault.specs.Code.{code_text}
use Rattle.idl_fault.specs.declared.code.Code.{Code}
use Rattle.idl_fault.specs.declared.place.Place.{Place}

-- `FILE:LINE: CODE`
abbrev pub head_row : Place → Code → List ℕ
head_row place code = place.file ++ codes ":" ++ decimal place.line ++ codes ": " ++ code_text code

-- `FILE:LINE: CODE TEXT`, or without text where there is none
abbrev pub diagnostic_row : Place → Code → Option (List ℕ) → List ℕ
diagnostic_row place code None = head_row place code
diagnostic_row place code (Some text) = head_row place code ++ codes " " ++ text
