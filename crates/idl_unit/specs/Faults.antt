-- The least of faults.
use Rattle.std.specs.Prelude.{◌&&◌, ◌||◌, List, [], ◌∷◌, fold, nat_eq, nat_lt, Option, None, Some, if◌then◌else◌}
use Rattle.idl_fault.specs.Code.{number_of}
use Rattle.idl_unit.specs.declared.fault.Fault.{Fault}

-- the lesser of two faults: by the token, and at one token by the code
abbrev pub lesser_fault : Fault → Fault → Fault
lesser_fault f g =
    if nat_lt g.index f.index
    || (nat_eq g.index f.index && nat_lt (number_of g.code) (number_of f.code)) then g else f

abbrev pub least_fault : List Fault → Option Fault
least_fault [] = None
least_fault (f ∷ fs) = Some (fold lesser_fault f fs)
