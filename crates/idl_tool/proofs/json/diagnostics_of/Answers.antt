use Rattle.std.proofs.Common.{◌∙◌, ◌++◌, ◌∷◌, [], List, ap₂, ap, map, sym}
use Rattle.std.proofs.lemmas.List.{map-append}
use Rattle.idl_json.specs.Diagnostic.{Located, located}
use Rattle.idl_tool.specs.Json.{located_in}
use Rattle.idl_tool.proofs.CheckLemmas.{pairs-all, pairs-next}
use Rattle.idl_tool.proofs.json.diagnostics_of.Goals as goal

pub findings-preserved : goal.findings-preserved
findings-preserved c =
    let findings = c.args.findings.now in
    let related = c.args.related.now in
    let tell = located_in c.args.columns.now in
    let finding = c.index-findings-index.result in
    let seconds = c.index-related-index.result in
    let files = c.findings.invariant.files in
    let one =
    c.in_ok-diagnostic_of.ensures.told ∙ ap (λ fs. located_in fs (finding, c.as_slice-seconds.result.now)) files ∙ ap (λ rs. tell (finding, rs)) c.as_slice-seconds.ensures in
    record {
      files = c.in_ok-diagnostic_of.ensures.same ∙ files;
      found =
          ap (map located) c.in_ok-push.ensures.items ∙ map-append located c.findings.found.items _
          ∙ ap₂ (λ (before : List Located) (one : Located). before ++ one ∷ []) c.findings.invariant.found one
          ∙ sym (ap (map tell) (pairs-next findings related c.findings.index finding seconds c.findings-test.true c.requires c.index-findings-index.is c.index-related-index.is)
          ∙ map-append tell _ ((finding, seconds) ∷ []));
    }

pub returns-clause-found : goal.returns-clause-found
returns-clause-found c =
    c.findings.invariant.found ∙ ap (map (located_in c.args.columns.now)) (pairs-all c.args.findings.now c.args.related.now c.findings.index c.requires c.findings-test.false)
