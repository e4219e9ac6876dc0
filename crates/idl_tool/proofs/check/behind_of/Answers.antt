use Rattle.std.proofs.Common.{◌∙◌, ◌++◌, [], ℕ, List, Option, ap, ap₂}
use Rattle.std.proofs.lemmas.Result.{IfOk-weaker}
use Rattle.idl_inputs.specs.Columns.{column_at}
use Rattle.idl_related.specs.declared.second.Related.{Related}
use Rattle.idl_source.specs.texts.Texts.{Texts}
use Rattle.idl_tool.specs.Checked.{second_in}
use Rattle.idl_tool.specs.Report.{second_line}
use Rattle.idl_tool.proofs.DepsLemmas.{pushed-all, pushed-next}
use Rattle.idl_tool.proofs.check.behind_of.Goals as goal

pub related-preserved : goal.related-preserved
related-preserved c =
    let files = c.args.columns.now in
    let second = c.second-item.result in
    let text = c.related.text.items in
    let column = c.in_ok-column.ensures.column ∙ ap₂ (λ (fs : Texts) (t : List ℕ). column_at fs second.place second.number t) c.related.invariant.files c.as_bytes.ensures in
    record {
      files = c.in_ok-column.ensures.same ∙ c.related.invariant.files;
      text = pushed-next (second_in files) c.args.related.now c.related.second-index second [] text c.push_second.new.out.items c.related-test.true c.related.invariant.text
          (c.in_ok-push_second.ensures ∙ ap (λ (col : Option ℕ). text ++ second_line second col) column ∙ ap (λ (s : Related). text ++ second_in files s) c.second-item.is);
    }

pub returns-clause-seconds : goal.returns-clause-seconds
returns-clause-seconds c =
    let all = pushed-all (second_in c.args.columns.now) c.args.related.now c.related.second-index [] c.related.text.items c.related-test.false c.related.invariant.text in
    IfOk-weaker c.from_vec.result _ _ (λ bytes is. is ∙ all) c.from_vec.ensures

pub returns-clause-same : goal.returns-clause-same
returns-clause-same c = c.related.invariant.files
