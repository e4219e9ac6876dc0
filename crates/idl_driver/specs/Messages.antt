-- What a program tells of a failure.
use Rattle.std.specs.Prelude.{◌≡◌, ℕ, List, ◌++◌, Option, codes, decimal}
use Rattle.idl_loader.specs.Lines.{whole_line}
use Rattle.idl_source.specs.Refusal.{number_of}
use Rattle.idl_source.specs.devices.Device.{append}
use Rattle.idl_source.specs.declared.refusal.Refusal.{Refusal}
use Rattle.idl_source.specs.declared.refusal.Refusal.TheVariants.{OverLimit}
use Rattle.idl_driver.specs.Written.{WritesSome}
use Rattle.idl_driver.specs.declared.failure.FailureSubject.{FailureSubject}
use Rattle.idl_driver.specs.declared.failure.FailureSubject.TheVariants.{Word, File}
use Rattle.idl_driver.specs.declared.failure.ProgramFailure.{ProgramFailure}
use Rattle.idl_driver.specs.declared.failure.ProgramFailure.TheVariants as failure

-- who tells, and what is told
abbrev pub line_of : List ℕ → List ℕ → List ℕ
line_of who told = who ++ codes ": " ++ whole_line told

-- a line of a program about a name
abbrev pub named_line : List ℕ → List ℕ → List ℕ → List ℕ
named_line program name told = program ++ codes ": " ++ line_of name told

-- the line about a word or a file that is refused
abbrev pub refused_message : List ℕ → List ℕ → Refusal → List ℕ
refused_message program word refusal =
    named_line program word (codes "refused " ++ decimal (number_of refusal))

abbrev pub name_of : FailureSubject → List ℕ
name_of (Word word) = word.now
name_of (File name) = name

-- the line that a program of this name tells
abbrev pub message_of : List ℕ → ProgramFailure → List ℕ
message_of program failure.BadArguments = line_of program (codes "bad arguments")
message_of program (failure.Refused subject refusal) =
    refused_message program (name_of subject) refusal
message_of program (failure.OverLimit subject limit) =
    refused_message program (name_of subject) OverLimit
message_of program (failure.CannotRead name) = named_line program name (codes "cannot read")
message_of program failure.NoMemory = line_of program (codes "no memory")
message_of program failure.ReadFailed = line_of program (codes "read failed")
message_of program failure.WriteFailed = line_of program (codes "write failed")

-- what went out until a failure: nothing, unless it is that a write failed
abbrev pub IsShownUntil : ProgramFailure → Option (List ℕ) → Option (List ℕ) → Type 0
IsShownUntil failure.WriteFailed before after = WritesSome before after
IsShownUntil other before after = after ≡ before

-- a program of this name failed, and its last line, of that, went out
abbrev pub IsFailureTold : List ℕ → Option (List ℕ) → Option (List ℕ) → Type 0
IsFailureTold program before after = (failure : ProgramFailure) × (shown : Option (List ℕ))
    × IsShownUntil failure before shown × (after ≡ append shown (message_of program failure))
