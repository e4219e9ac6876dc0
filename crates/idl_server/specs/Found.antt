-- What is found in a file: by all roots, each once, in the order of lines.
use Rattle.std.specs.Prelude.{ℕ, List, flat_map}
use Rattle.std.specs.List.{filter}
use Rattle.idl_finding.specs.declared.finding.Finding.{Finding}
use Rattle.idl_project.specs.idl_sources.Compile.{compiled_root}
use Rattle.idl_inputs.specs.Project.{Inputs, Project}
use Rattle.idl_editor.specs.told.Found.{AreInOrder, each_once, is_in}

-- what a root finds, and what of it is in a file
abbrev pub findings_by : Inputs → List ℕ → List Finding
findings_by inputs root = (compiled_root inputs root).rows.findings

abbrev pub found_by : Inputs → List ℕ → List ℕ → List Finding
found_by inputs name root = filter (is_in name) (findings_by inputs root)

-- what all roots find in a file
abbrev pub all_found : Project → List ℕ → List Finding
all_found project name = flat_map (found_by project.inputs name) project.roots

-- and that as it is told: each once, in the order of lines
abbrev pub AreFoundIn : Project → List ℕ → List Finding → Type 0
AreFoundIn project name found = AreInOrder (each_once (all_found project name)) found
