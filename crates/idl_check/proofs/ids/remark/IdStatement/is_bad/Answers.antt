use Rattle.std.proofs.Common.{sym, ap, ◌∙◌}
use Rattle.std.specs.Prelude.{not}
use Rattle.idl_check.specs.ids.Remarks.{is_bad_id}
use Rattle.idl_check.specs.walk.Held.{fixed_by}
use Rattle.idl_check.specs.declared.ids.remark.IdStatement.{IdStatement}
use Rattle.idl_check.proofs.ids.remark.IdStatement.is_bad.Goals as goal

pub returns-in-Text : goal.returns-in-Text
returns-in-Text c = ap not c.is_id.ensures ∙ ap (λ (s : IdStatement). is_bad_id (fixed_by s)) (sym c.in-Text.is)

pub returns-in-Version : goal.returns-in-Version
returns-in-Version c = ap (λ (s : IdStatement). is_bad_id (fixed_by s)) (sym c.in-Version.is)
