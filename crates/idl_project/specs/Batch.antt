-- Edits of files that are done together.
use Rattle.std.specs.Prelude.{◌≡◌, ℕ, List, Result, Ok, MatchResult}
use Rattle.idl_source.specs.declared.refusal.Refusal.{Refusal}
use Rattle.idl_inputs.specs.Batch.{IsStopped, after_all}
use Rattle.idl_inputs.specs.Edits.{Edit}
use Rattle.idl_project.specs.UpToDate.{State}
use Rattle.idl_project.specs.Work.{touched_of, work_of}
use Rattle.idl_project.specs.declared.work.Work.{Work}

-- edits that are accepted together: the project is the one after them, and the work is that between
-- the project before the first and the one after the last; it is told and kept, and the roots that
-- were expanded anew between these two are kept
pub record AreAccepted (edits : List Edit) (old new : State) (work : Work) : Type 0 where
  pub project : after_all old.project edits ≡ Ok new.project
  pub kept : new.work ≡ work
  pub told : work ≡ work_of old.project new.project
  pub touched : new.touched ≡ touched_of old.project new.project

-- edits that are refused together: nothing has changed
pub record AreRefused (edits : List Edit) (old new : State) (refused : ℕ × Refusal) : Type 0 where
  pub unchanged : new ≡ old
  pub stopped : IsStopped old.project edits refused

-- edits that are done together, by their result
abbrev pub IsBatch : List Edit → State → State → Result Work (ℕ × Refusal) → Type 0
IsBatch edits old new result =
    MatchResult result (AreAccepted edits old new) (AreRefused edits old new)
