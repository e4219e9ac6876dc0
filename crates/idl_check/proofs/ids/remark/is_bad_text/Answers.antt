use Rattle.std.proofs.Common.{sym, ap, ◌∙◌}
use Rattle.std.specs.Prelude.{not}
use Rattle.idl_check.specs.ids.Remarks.{is_bad_text}
use Rattle.idl_check.proofs.ids.remark.is_bad_text.Goals as goal

pub returns-in-Id : goal.returns-in-Id
returns-in-Id c = ap not c.is_id.ensures ∙ ap (λ p. is_bad_text p c.args.text.now) (sym c.in-Id.is)

pub returns-in-Prefix : goal.returns-in-Prefix
returns-in-Prefix c = ap not c.is_visible.ensures ∙ ap (λ p. is_bad_text p c.args.text.now) (sym c.in-Prefix.is)
