-- How a program's end is told to its caller.
use Rattle.std.specs.Prelude.{ℕ}
use Rattle.idl_loader.specs.declared.status.Status.{Status}
use Rattle.idl_loader.specs.declared.status.Status.TheVariants.{Sound, Faulty, Failed}

-- the exit status
abbrev pub exit_code : Status → ℕ
exit_code Sound = 0
exit_code Faulty = 1
exit_code Failed = 2
