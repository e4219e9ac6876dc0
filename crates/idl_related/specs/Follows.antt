-- What follows from an error elsewhere.
use Rattle.std.specs.Prelude.{Bool, true, false, List, [], ◌∷◌}
use Rattle.idl_related.specs.declared.second.Reason.{Reason}
use Rattle.idl_related.specs.declared.second.Reason.TheVariants.{Faulty}
use Rattle.idl_related.specs.declared.second.Related.{Related}

abbrev pub is_faulty : Reason → Bool
is_faulty Faulty = true
is_faulty other = false

-- a finding with these second places does: what it speaks of would have been declared there
abbrev pub follows : List Related → Bool
follows [] = false
follows (second ∷ seconds) = is_faulty second.reason
