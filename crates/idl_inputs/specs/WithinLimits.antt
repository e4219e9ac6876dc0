-- A project within the limits.
use Rattle.std.specs.Prelude.{ℕ, ◌≤◌, List, All, IfSome, length}
use Rattle.std.specs.FinMap as map
use Rattle.idl_source.specs.Limits.{longest_body, longest_line, most_directories, most_files, most_lines, most_macros, most_roots}
use Rattle.idl_inputs.specs.Project.{Project}

-- a file of these lines has no more than it may have, and none is too long
pub record IsAllowedFile (lines : List (List ℕ)) : Type 0 where
  pub many : length lines ≤ most_lines
  pub long : All (λ line. length line ≤ longest_line) lines

-- of all that a project holds there is no more than there may be, and nothing is too long
pub record IsWithinLimits (project : Project) : Type 0 where
  pub files : map.len project.inputs.files ≤ most_files
  pub lines : (name : List ℕ) → IfSome (map.get project.inputs.files name) IsAllowedFile
  pub macros : length project.inputs.macros ≤ most_macros
  pub bodies : All (λ macro. length macro.1 ≤ longest_body) project.inputs.macros
  pub directories : length project.inputs.search ≤ most_directories
  pub roots : length project.roots ≤ most_roots
