-- The files that a root asks for, whether they are there or not.
use Rattle.std.specs.Prelude.{ℕ, List, [], ◌∷◌, Option, flat_map, if◌then◌else◌}
use Rattle.idl_event.specs.declared.asked.key.RootAnswer.{RootAnswer}
use Rattle.idl_event.specs.declared.asked.key.RootKey.{RootKey}
use Rattle.idl_event.specs.declared.asked.key.RootKey.TheVariants.{Macro, File, Search}
use Rattle.idl_prep.specs.Root.{expanded}
use Rattle.idl_inputs.specs.Bank.{bank_of}
use Rattle.idl_inputs.specs.Project.{Project, is_root}

-- the name of a file that was asked for
abbrev pub asked_file : RootKey × Option RootAnswer → List (List ℕ)
asked_file (Macro word, answer) = []
asked_file (File name, answer) = name ∷ []
asked_file (Search, answer) = []

-- the files that were asked for, in the order in which they were first asked
unfoldable pub asked_files : List (RootKey × Option RootAnswer) → List (List ℕ)
asked_files log = flat_map asked_file log

-- the files that compiling a root over these answers asks for
abbrev pub asked_over : (RootKey → Option RootAnswer) → List ℕ → List (List ℕ)
asked_over bank root = asked_files (expanded root bank).1

-- the files that are answered for a name: those of a root, and of another name none
abbrev pub asked_of : Project → List ℕ → List (List ℕ)
asked_of project name =
    if is_root project name then asked_over (bank_of project.inputs) name else []
