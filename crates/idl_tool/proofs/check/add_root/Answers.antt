use Rattle.std.proofs.Common.{◌∙◌, ap, ap₂, length, map, subst}
use Rattle.std.proofs.lemmas.Result.{on_ok_weaker}
use Rattle.std.specs.List.{zip}
use Rattle.idl_driver.specs.idl_sources.Related.{AreRelatedOver}
use Rattle.idl_inputs.specs.Bank.{bank_of}
use Rattle.idl_tool.specs.Checked.{AreReported, in_order}
use Rattle.idl_tool.specs.ToldAt.{told_at}
use Rattle.idl_tool.proofs.CheckLemmas.{told-root}
use Rattle.idl_tool.proofs.check.add_root.Goals as goal

pub told_of-requires : goal.told_of-requires
told_of-requires c = ap length c.as_slice.ensures ∙ c.in_ok-related.ensures.count

pub returns : goal.returns
returns c =
    let inputs = c.args.sources.now in
    let root = c.args.root.now in
    let one = c.args.compiled.now in
    let related = c.in_ok-related.related in
    let told = map told_at c.in_ok-told.told.items in
    let before = c.args.reports.now.entries in
    let after = c.add_reports.new.reports.entries in
    let is = c.in_ok-told.ensures ∙ ap₂ (λ fs rs. in_order (zip fs rs)) c.as_slice-findings.ensures c.as_slice.ensures in
    let of = told-root inputs root one related told c.requires (subst (λ fs. AreRelatedOver (bank_of inputs) root fs related) c.as_slice-findings.ensures c.in_ok-related.ensures) is in
    on_ok_weaker c.add_reports.result
    (λ reported. (
      told,
      of,
      subst (λ fs. AreReported fs told before after) c.columns-columns.ensures
          (subst (λ ts. AreReported c.columns-columns.result (map told_at ts) before after) c.deref.ensures.value reported),
    ))
    c.add_reports.ensures
