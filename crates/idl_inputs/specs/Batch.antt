-- Edits that are done one after another.
use Rattle.std.specs.Prelude.{◌≡◌, ◌≢◌, ℕ, ◌+◌, ◌≤◌, List, [], ◌∷◌, Result, Ok, Err, length, take}
use Rattle.idl_source.specs.declared.refusal.Refusal.{Refusal}
use Rattle.idl_source.specs.declared.refusal.Refusal.TheVariants.{NoMemory}
use Rattle.idl_inputs.specs.Edits.{Edit, Put, Splice, Remove, after}
use Rattle.idl_inputs.specs.Project.{Project}
use Rattle.idl_inputs.specs.declared.file_edit.FileEdit.{FileEdit}
use Rattle.idl_inputs.specs.declared.file_edit.FileEdit.TheVariants as file

-- ---- edits, one after another

-- the project after these edits, so many of which were done before; or the first that is refused
-- where it stands, by its number, and why
abbrev pub after_from : ℕ → Project → List Edit → Result Project (ℕ × Refusal)
after_from done project [] = Ok project
after_from done project (edit ∷ more) =
    elim (after project edit)
    [ Ok next ↦ after_from (done + 1) next more | Err refusal ↦ Err (done, refusal) ]

-- the project after these edits, of which 0 is the first
abbrev pub after_all : Project → List Edit → Result Project (ℕ × Refusal)
after_all project edits = after_from 0 project edits

-- edits stop at this number: that edit is refused where it stands, for that, or else memory is
-- refused there; those before it are accepted
pub record IsStopped (project : Project) (edits : List Edit) (refused : ℕ × Refusal) : Type 0 where
  pub least : refused.1 ≢ NoMemory → after_all project edits ≡ Err refused
  pub fits : refused.0 ≤ length edits
  pub before : (reached : Project) × (after_all project (take refused.0 edits) ≡ Ok reached)

-- ---- edits of files

-- the edit of a project that an edit of a file is
abbrev pub edit_of : FileEdit → Edit
edit_of (file.Put name lines) = Put name.now lines.items
edit_of (file.Splice name span lines) = Splice name.now span.from span.del lines.items
edit_of (file.Remove name) = Remove name.now
