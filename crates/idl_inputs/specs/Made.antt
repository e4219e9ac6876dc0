-- What an edit makes of inputs that no root is held of.
use Rattle.std.specs.Prelude.{◌≡◌, ◌≢◌, [], Result, Ok, Err, MatchResult}
use Rattle.idl_source.specs.declared.refusal.Refusal.{Refusal}
use Rattle.idl_source.specs.declared.refusal.Refusal.TheVariants.{NoMemory}
use Rattle.idl_inputs.specs.Edits.{Edit, after}
use Rattle.idl_inputs.specs.Project.{Inputs, Project}

-- a project of these inputs, without roots
abbrev pub rootless : Inputs → Project
rootless inputs = record { inputs = inputs; roots = [] }

-- a refused edit: nothing has changed, and the refusal is the least that applies, or else want of
-- memory
pub record IsTurnedAway (edit : Edit) (old new : Inputs) (refusal : Refusal) : Type 0 where
  pub unchanged : new ≡ old
  pub least : refusal ≢ NoMemory → after (rootless old) edit ≡ Err refusal

-- an edit, by its result: where it is accepted, the inputs are those after it
abbrev pub IsMade : Edit → Inputs → Inputs → Result (Unit {0}) Refusal → Type 0
IsMade edit old new result =
    MatchResult result (λ done. after (rootless old) edit ≡ Ok (rootless new))
    (IsTurnedAway edit old new)
