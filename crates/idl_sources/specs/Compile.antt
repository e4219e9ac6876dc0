-- What compiling a root from scratch gives.
use Rattle.std.specs.Prelude.{ℕ, List, Option, None, Some, length}
use Rattle.idl_event.specs.declared.asked.key.RootAnswer.{RootAnswer}
use Rattle.idl_event.specs.declared.asked.key.RootKey.{RootKey}
use Rattle.idl_event.specs.declared.asked.key.RootKey.TheVariants.{File}
use Rattle.idl_fault.specs.declared.place.Place.{Place}
use Rattle.idl_prep.specs.Include.{file_in}
use Rattle.idl_prep.specs.Root.{expanded, absent_files}
use Rattle.idl_root.specs.Compile.{compile}
use Rattle.idl_inputs.specs.Bank.{bank_of}
use Rattle.idl_inputs.specs.Project.{Inputs}
use Rattle.idl_sources.specs.declared.compile.CompiledRoot.{CompiledRoot}

-- how many lines the file has that is answered
abbrev pub line_count : Option RootAnswer → ℕ
line_count answer = elim (file_in answer) [ None ↦ 0 | Some lines ↦ length lines ]

-- the end of a root: its number of lines
abbrev pub end_of : (RootKey → Option RootAnswer) → List ℕ → Place
end_of bank root = record { file = root; line = line_count (bank (File root)) }

-- the rows of a root over these answers, and the files that it asks for and that aren't there
unfoldable pub compile_over : (RootKey → Option RootAnswer) → List ℕ → CompiledRoot
compile_over bank root =
    let e = expanded root bank in record {
      rows = compile (end_of bank root) e.0;
      absent = absent_files e.1;
    }

-- the same over these inputs
abbrev pub compiled_root : Inputs → List ℕ → CompiledRoot
compiled_root inputs root = compile_over (bank_of inputs) root
