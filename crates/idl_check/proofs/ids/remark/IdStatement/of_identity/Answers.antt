use Rattle.std.proofs.Common.{sym, ap, ◌∙◌}
use Rattle.std.proofs.lemmas.Result.{IfOk-weaker}
use Rattle.idl_check.specs.ids.About.{said_at}
use Rattle.idl_check.specs.ids.Remarks.{is_bad_id, unless}
use Rattle.idl_check.specs.walk.Held.{fixed_by}
use Rattle.idl_check.specs.declared.ids.remark.IdStatement.{IdStatement}
use Rattle.idl_check.proofs.ids.remark.IdStatement.of_identity.Goals as goal

pub returns-in-Text : goal.returns-in-Text
returns-in-Text c =
    let path = c.args.path.now in
    let d = c.args.before.now in
    IfOk-weaker c.given.result _ _
    (λ r told at. told at ∙ ap (λ (s : IdStatement). unless (is_bad_id (fixed_by s)) (said_at at (fixed_by s) path d)) (sym c.in-Text.is))
    c.given.ensures

pub returns-in-Version : goal.returns-in-Version
returns-in-Version c =
    let path = c.args.path.now in
    let d = c.args.before.now in
    IfOk-weaker c.versioned.result _ _
    (λ r told at. told at ∙ ap (λ (s : IdStatement). unless (is_bad_id (fixed_by s)) (said_at at (fixed_by s) path d)) (sym c.in-Version.is))
    c.versioned.ensures
