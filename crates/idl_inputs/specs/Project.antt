-- A project: what is compiled.
use Rattle.std.specs.Prelude.{ℕ, Bool, List, [], refl}
use Rattle.std.specs.Coded.{Coded, code_by, coded×, coded_list, coded_ℕ}
use Rattle.std.specs.FinMap as map
use Rattle.std.specs.List.{list_any}
use Rattle.std.specs.Map.{keys_of}
use Rattle.std.specs.Str.{bytes_eq}
use Rattle.idl_source.specs.texts.Texts.{Texts, texts_code}

-- macros, each once: its word and its body, in the order in which they were first defined
abbrev pub Macros : Type 0
Macros = List (List ℕ × List ℕ)

-- what roots are made of: the files, the macros that are defined before a root's first line, and
-- the directories in which included files are searched, in order
pub record Inputs : Type 0 where
  pub files : Texts
  pub macros : Macros
  pub search : List (List ℕ)

-- the inputs, and the roots, each once, in the order in which they were added
pub record Project : Type 0 where
  pub inputs : Inputs
  pub roots : List (List ℕ)

-- no files, no macros and no directories
abbrev pub no_inputs : Inputs
no_inputs = record { files = map.empty; macros = []; search = [] }

-- nothing in it
abbrev pub no_project : Project
no_project = record { inputs = no_inputs; roots = [] }

-- the project with another part
abbrev pub with_files : Project → Texts → Project
with_files project files = record project { inputs = record project.inputs { files = files } }

abbrev pub with_macros : Project → Macros → Project
with_macros project macros = record project { inputs = record project.inputs { macros = macros } }

abbrev pub with_search : Project → List (List ℕ) → Project
with_search project search = record project { inputs = record project.inputs { search = search } }

abbrev pub with_roots : Project → List (List ℕ) → Project
with_roots project roots = record project { roots = roots }

-- the word is that of a macro
abbrev pub is_defined : Macros → List ℕ → Bool
is_defined macros word = list_any (bytes_eq word) (keys_of macros)

-- the name is that of a root
abbrev pub is_root : Project → List ℕ → Bool
is_root project name = list_any (bytes_eq name) project.roots

abbrev pub names_code : Coded (List (List ℕ))
names_code = coded_list (coded_list coded_ℕ)

abbrev pub macros_code : Coded Macros
macros_code = coded_list (coded× (coded_list coded_ℕ) (coded_list coded_ℕ))

-- inputs are stored as the tuple of their parts
abbrev pub inputs_code : Coded Inputs
inputs_code =
    code_by (Texts × (Macros × List (List ℕ)))
    (coded× texts_code (coded× macros_code names_code))
    (λ i. (i.files, (i.macros, i.search)))
    (λ t. record { files = t.0; macros = t.1.0; search = t.1.1 })
    (λ _. refl)

-- a project is stored as the pair of its parts
abbrev pub project_code : Coded Project
project_code =
    code_by (Inputs × List (List ℕ)) (coded× inputs_code names_code)
    (λ p. (p.inputs, p.roots))
    (λ t. record { inputs = t.0; roots = t.1 })
    (λ _. refl)
