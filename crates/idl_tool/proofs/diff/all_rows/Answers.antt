use Rattle.std.proofs.Common.{◌∙◌, List, ap, map}
use Rattle.std.proofs.lemmas.Result.{IfOk-weaker}
use Rattle.idl_json.specs.Listed.{row_of}
use Rattle.idl_json.specs.declared.listed.ListedRow.{ListedRow}
use Rattle.idl_tool.specs.Compared.{each_once}
use Rattle.idl_tool.proofs.diff.all_rows.Goals as goal

pub returns : goal.returns
returns c =
    IfOk-weaker c.each_once.result _ _
    (λ once is. is ∙ ap (λ (rows : List ListedRow). each_once (map row_of rows)) c.deref.ensures.value ∙ ap each_once c.in_ok-rows.ensures) c.each_once.ensures
