use Rattle.std.proofs.Common.{sym, ap, ◌∙◌}
use Rattle.std.specs.Option.{option_copied}
use Rattle.idl_syntax.proofs.Names.{begins_with_name, begins_without_name}
use Rattle.idl_syntax.proofs.expression.is_at_name.Goals as goal

pub returns-in-Some : goal.returns-in-Some
returns-in-Some c = sym (begins_with_name _ _ (sym c.name.ensures ∙ ap option_copied c.in-Some.is))

pub returns-in-None : goal.returns-in-None
returns-in-None c = c.is_at.ensures ∙ sym (begins_without_name _ (sym c.name.ensures ∙ ap option_copied c.in-None.is))
