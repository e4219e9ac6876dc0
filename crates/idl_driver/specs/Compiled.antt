-- What roots compile to over inputs: what is told and shown of them, and whether they have errors.
use Rattle.std.specs.Prelude.{ℕ, Bool, List}
use Rattle.std.specs.List.{flat_map, list_any}
use Rattle.idl_loader.specs.Lines.{whole_line}
use Rattle.idl_sources.specs.Compile.{compiled_root}
use Rattle.idl_inputs.specs.Project.{Inputs}

-- what a root is told of
abbrev pub errors_in : Inputs → List ℕ → List (List ℕ)
errors_in inputs root = (compiled_root inputs root).rows.diagnostics

-- what it declares
abbrev pub dump_in : Inputs → List ℕ → List (List ℕ)
dump_in inputs root = (compiled_root inputs root).rows.dump

-- what is listed of it
abbrev pub listing_in : Inputs → List ℕ → List (List ℕ)
listing_in inputs root = (compiled_root inputs root).rows.listing

-- rows of roots, each on a line of its own
abbrev pub lines_of : (List ℕ → List (List ℕ)) → List (List ℕ) → List ℕ
lines_of rows roots = flat_map (λ root. flat_map whole_line (rows root)) roots

-- one of what it is told of is an error, and no warning
abbrev pub has_errors : Inputs → List ℕ → Bool
has_errors inputs root = (compiled_root inputs root).rows.is_faulty

abbrev pub is_faulty : Inputs → List (List ℕ) → Bool
is_faulty inputs roots = list_any (λ root. has_errors inputs root) roots
