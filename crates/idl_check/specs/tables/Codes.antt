-- The faults of a token by a table: on each line a test, and the code that stands where it holds.
use Rattle.std.specs.Prelude.{ℕ, Bool, List, [], ◌∷◌, map, if◌then◌else◌}
use Rattle.idl_fault.specs.declared.code.Code.{Code}
use Rattle.idl_unit.specs.TokenRules.{fault_at}
use Rattle.idl_unit.specs.declared.fault.Fault.{Fault}

abbrev pub Table : Type 0
Table = List (Bool × Code)

-- the codes whose tests hold, in order
abbrev pub codes_in : Table → List Code
codes_in [] = []
codes_in (row ∷ rows) = if row.0 then row.1 ∷ codes_in rows else codes_in rows

-- the faults of the token with this number
abbrev pub faults_by : ℕ → Table → List Fault
faults_by n table = map (fault_at n) (codes_in table)
