-- A well-formed project.
use Rattle.std.specs.Prelude.{ℕ, List, All, IsTrue, is_some}
use Rattle.std.specs.FinMap as map
use Rattle.std.specs.List.{IsDistinct}
use Rattle.std.specs.Map.{keys_of}
use Rattle.std.specs.Str.{bytes_eq}
use Rattle.idl_macro.specs.Words.{is_macro_word}
use Rattle.idl_source.specs.names.Directory.{is_directory}
use Rattle.idl_source.specs.names.Name.{is_name}
use Rattle.idl_inputs.specs.Project.{Project}
use Rattle.idl_inputs.specs.WithinLimits.{IsWithinLimits}

-- files and roots have names, macros have words, and the search list has directories, none of which
-- is too long; each file, each macro and each root is there once (a file is, since files are a
-- map); and a project is within the limits
pub record IsWellFormed (project : Project) : Type 0 where
  pub within : IsWithinLimits project
  pub files : (name : List ℕ) → IsTrue (is_some (map.get project.inputs.files name))
      → IsTrue (is_name name)
  pub words : All (λ word. IsTrue (is_macro_word word)) (keys_of project.inputs.macros)
  pub words_once : IsDistinct bytes_eq (keys_of project.inputs.macros)
  pub directories : All (λ directory. IsTrue (is_directory directory)) project.inputs.search
  pub roots : All (λ name. IsTrue (is_name name)) project.roots
  pub roots_once : IsDistinct bytes_eq project.roots
