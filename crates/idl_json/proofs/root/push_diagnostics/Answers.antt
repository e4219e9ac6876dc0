use Rattle.std.proofs.Common.{◌∙◌, ◌++◌, ◌∷◌, [], map, subst, sym, take}
use Rattle.std.proofs.lemmas.List.{length-map, length-take-le, take_all}
use Rattle.std.specs.List.{AllZip}
use Rattle.serde_json.specs.View.{view}
use Rattle.idl_json.specs.Diagnostic.{IsDiagnosticJson, located}
use Rattle.idl_json.proofs.FloatLemmas.{one-plain}
use Rattle.idl_json.proofs.LineLemmas.{text-closed, text-next, zip-length}
use Rattle.idl_json.proofs.ListLemmas.{zip-next}
use Rattle.idl_json.proofs.root.push_diagnostics.Goals as goal

pub push_value-requires : goal.push_value-requires
push_value-requires c = one-plain (located c.index-found-index.result) (view c.in_ok-diagnostic_value.field-0) c.in_ok-diagnostic_value.ensures

pub found-preserved : goal.found-preserved
found-preserved c =
    let found = c.args.found.now in
    let i = c.found.index in
    let are = c.found.invariant in
    let json = view c.in_ok-diagnostic_value.field-0 in
    let count = sym (length-take-le i found c.found.auto.index-end) ∙ sym (length-map (take i found) located) ∙ zip-length IsDiagnosticJson (map located (take i found)) are.0 are.1 in (
      are.0 ++ json ∷ [],
      zip-next IsDiagnosticJson located found i c.index-found-index.result are.0 json c.found-test.true c.index-found-index.is are.1 c.in_ok-diagnostic_value.ensures,
      text-next c.args.out.now.items c.found.out.items c.push_comma.new.out.items c.push_value.new.out.items i are.0 json count are.2 c.in_ok-push_comma.ensures c.in_ok-push_value.ensures,
    )

pub returns : goal.returns
returns c =
    let found = c.args.found.now in
    let are = c.found.invariant in (
      are.0,
      subst (λ fs. AllZip IsDiagnosticJson (map located fs) are.0) (take_all c.found.index found c.found-test.false) are.1,
      text-closed c.args.out.now.items c.found.out.items c.push.new.self.items are.0 are.2 c.in_ok-push.ensures.items,
    )
