-- What a session does with an edit.
use Rattle.std.specs.Prelude.{◌≡◌, ◌≢◌, IsTrue, Result, Ok, Err, MatchResult}
use Rattle.idl_source.specs.declared.refusal.Refusal.{Refusal}
use Rattle.idl_source.specs.declared.refusal.Refusal.TheVariants.{NoMemory}
use Rattle.idl_source.specs.texts.Texts.{Texts}
use Rattle.idl_inputs.specs.Edits.{Edit, after, takes_memory}
use Rattle.idl_inputs.specs.Project.{with_files}
use Rattle.idl_project.specs.UpToDate.{State}
use Rattle.idl_project.specs.Work.{touched_of, work_of}
use Rattle.idl_project.specs.declared.work.Work.{Work}

-- an accepted edit: the project is the one after it, and the work is that between the two projects,
-- which is told and kept, and the roots that it expanded anew are kept
pub record IsAccepted (edit : Edit) (old new : State) (work : Work) : Type 0 where
  pub project : after old.project edit ≡ Ok new.project
  pub kept : new.work ≡ work
  pub told : work ≡ work_of old.project new.project
  pub touched : new.touched ≡ touched_of old.project new.project

-- a refused edit: nothing has changed, and the refusal is the least that applies, or else want of
-- memory
pub record IsRefused (edit : Edit) (old new : State) (refusal : Refusal) : Type 0 where
  pub unchanged : new ≡ old
  pub least : refusal ≢ NoMemory → after old.project edit ≡ Err refusal
  pub memory : refusal ≡ NoMemory → IsTrue (takes_memory edit)

-- an edit, by its result
abbrev pub IsEdited : Edit → State → State → Result Work Refusal → Type 0
IsEdited edit old new result = MatchResult result (IsAccepted edit old new) (IsRefused edit old new)

-- a session with these files in place of its own, by the work of that: all else is as it was
pub record IsSettled (files : Texts) (old new : State) (work : Work) : Type 0 where
  pub project : new.project ≡ with_files old.project files
  pub kept : new.work ≡ work
  pub told : work ≡ work_of old.project new.project
  pub touched : new.touched ≡ touched_of old.project new.project
