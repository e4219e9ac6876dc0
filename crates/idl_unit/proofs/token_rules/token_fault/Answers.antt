use Rattle.std.proofs.Common.{◌∙◌, sym, arith}
use Rattle.idl_unit.proofs.HarmlessLemmas.{harmless-unit}
use Rattle.idl_unit.proofs.token_rules.token_fault.Goals as goal

pub returns-then-are_harmless-clause-least : goal.returns-then-are_harmless-clause-least
returns-then-are_harmless-clause-least c =
    sym (harmless-unit c.args.unit.now (sym c.are_harmless.ensures ∙ c.if-are_harmless.true) (omega (arith, c.if-unit-le-MAX_NESTING.true)))
