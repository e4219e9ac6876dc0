-- What compiling a root gives, said of its units one by one.
use Rattle.std.specs.Prelude.{◌≡◌, ℕ, List, Option}
use Rattle.idl_event.specs.declared.asked.key.RootAnswer.{RootAnswer}
use Rattle.idl_event.specs.declared.asked.key.RootKey.{RootKey}
use Rattle.idl_prep.specs.Root.{absent_files, expanded}
use Rattle.idl_sources.specs.Compile.{end_of}
use Rattle.idl_sources.specs.declared.compile.CompiledRoot.{CompiledRoot}
use Rattle.idl_sources.specs.idl_root.Compiled.{CompilesTo}

-- what a root compiles to over these answers: what its events do, and the files that it asks for
-- and that aren't there
pub record CompilesOver (bank : RootKey → Option RootAnswer) (root : List ℕ)
    (compiled : CompiledRoot) : Type 0 where
  pub rows : CompilesTo (end_of bank root) (expanded root bank).0 compiled.rows
  pub absent : compiled.absent ≡ absent_files (expanded root bank).1
