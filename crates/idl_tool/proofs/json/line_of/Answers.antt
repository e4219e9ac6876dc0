use Rattle.std.proofs.Common.{◌∙◌, ap, length, subst}
use Rattle.idl_json.specs.Root.{IsRootLine}
use Rattle.idl_inputs.specs.Bank.{bank_of}
use Rattle.idl_driver.specs.idl_sources.Related.{AreRelatedOver}
use Rattle.idl_tool.specs.Json.{IsLineWith, told_of}
use Rattle.idl_tool.proofs.JsonLemmas.{ok-weaker}
use Rattle.idl_tool.proofs.json.line_of.Goals as goal

pub line_with-requires : goal.line_with-requires
line_with-requires c = ap length c.as_slice.ensures ∙ c.in_ok-related.ensures.count ∙ ap length c.as_slice-findings.ensures

pub returns : goal.returns
returns c =
    let inputs = c.args.sources.now in
    let root = c.args.root.now in
    let compiled = c.args.compiled.now in
    let related = c.in_ok-related.related in
    let are = subst (λ findings. AreRelatedOver (bank_of inputs) root findings related) c.as_slice-findings.ensures c.in_ok-related.ensures in
    ok-weaker (λ line. IsRootLine (told_of inputs root compiled c.as_slice.result.now) line.items) (λ line. IsLineWith inputs root compiled line.items) c.line_with.result (λ line tells. (related, are, subst (λ rs. IsRootLine (told_of inputs root compiled rs) line.items) c.as_slice.ensures tells)) c.line_with.ensures
