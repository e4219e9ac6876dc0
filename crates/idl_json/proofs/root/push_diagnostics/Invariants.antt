use Rattle.std.proofs.Common.{◌≡◌, ◌++◌, List, false, map, take}
use Rattle.std.specs.List.{AllZip}
use Rattle.serde_json.specs.Data.{Data}
use Rattle.idl_json.specs.Diagnostic.{IsDiagnosticJson, located}
use Rattle.idl_json.proofs.LineLemmas.{opened}
use Rattle.idl_json.proofs.root.push_diagnostics.Given as goal

-- those of what was found before
abbrev pub invariant-found : goal.invariant-found
invariant-found l =
    (jsons : List Data) × AllZip IsDiagnosticJson (map located (take l.index l.found)) jsons × (l.out.items ≡ l.initial.out.items ++ opened false jsons)
