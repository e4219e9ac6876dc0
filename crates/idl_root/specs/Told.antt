-- The fault of a unit is told.
use Rattle.std.specs.Prelude.{◌≡◌, [], ◌∷◌, slice_get, Some}
use Rattle.idl_finding.specs.Findings.{tokens_of}
use Rattle.idl_root.specs.Findings.{unit_finding}
use Rattle.idl_root.specs.Judged.{Judged}
use Rattle.idl_finding.specs.declared.finding.EventFinding.{EventFinding}
use Rattle.idl_unit.specs.declared.fault.Fault.{Fault}

-- the fault of a unit, if it has one, is found once, with its code and its token
abbrev pub IsTold : Judged → Type 0
IsTold j = (fault : Fault) → j.verdict.fault ≡ Some fault
    → (f : EventFinding)
    × ((unit_finding j ≡ f ∷ [])
    × ((f.code ≡ fault.code) × (f.text ≡ slice_get (tokens_of j.text) fault.index)))
