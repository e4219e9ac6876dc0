-- The numbers that replies show for refusals.
use Rattle.std.specs.Prelude.{ℕ}
use Rattle.idl_source.specs.declared.refusal.Refusal.{Refusal}
use Rattle.idl_source.specs.declared.refusal.Refusal.TheVariants.{Malformed, BadName, NoSuchFile, OutsideFile, OverLimit, BadMacro, NoSuchRoot, RootThere, NoMemory, Unfinished}

abbrev pub number_of : Refusal → ℕ
number_of Malformed = 1
number_of BadName = 2
number_of NoSuchFile = 3
number_of OutsideFile = 4
number_of OverLimit = 5
number_of BadMacro = 6
number_of NoSuchRoot = 7
number_of RootThere = 8
number_of NoMemory = 9
number_of Unfinished = 10
