-- Faults in the order of their tokens.
use Rattle.std.specs.Prelude.{ℕ, ◌+◌, ◌≤◌, List, [], ◌∷◌}
use Rattle.idl_value.specs.declared.outcome.ValueFault.{ValueFault}

-- Each stands at a later token than the one before it, from a token on and before another.
abbrev pub IsAscending : ℕ → List ValueFault → ℕ → Type 0
IsAscending from [] to = from ≤ to
IsAscending from (f ∷ fs) to = (from ≤ f.token) × IsAscending (f.token + 1) fs to
