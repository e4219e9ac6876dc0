-- Edits of one file of a project.
use Rattle.std.specs.Prelude.{◌≡◌, ℕ, List}
use Rattle.idl_inputs.specs.Bank.{IsSameBeside}
use Rattle.idl_inputs.specs.Project.{Project}

-- no file but the one of this name is another, and all else is the same
pub record IsSameButFor (name : List ℕ) (old new : Project) : Type 0 where
  pub files : IsSameBeside name old.inputs.files new.inputs.files
  pub macros : new.inputs.macros ≡ old.inputs.macros
  pub search : new.inputs.search ≡ old.inputs.search
  pub roots : new.roots ≡ old.roots
