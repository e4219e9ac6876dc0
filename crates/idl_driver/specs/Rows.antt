-- The rows of compiled roots.
use Rattle.std.specs.Prelude.{ℕ, Bool, List}
use Rattle.std.specs.List.{flat_map, list_any}
use Rattle.idl_loader.specs.Lines.{whole_line}
use Rattle.idl_sources.specs.declared.compile.CompiledRoot.{CompiledRoot}

-- rows of roots, each on a line of its own
abbrev pub lines_with : (CompiledRoot → List (List ℕ)) → List CompiledRoot → List ℕ
lines_with rows roots = flat_map (λ root. flat_map whole_line (rows root)) roots

abbrev pub are_faulty : List CompiledRoot → Bool
are_faulty roots = list_any (λ root. root.rows.is_faulty) roots
