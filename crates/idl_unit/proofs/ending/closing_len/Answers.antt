use Rattle.std.proofs.Common.{ap, sym, ◌∙◌}
use Rattle.std.proofs.lemmas.List.{take_rest}
use Rattle.idl_unit.specs.Ending.{begins, is_semicolon}
use Rattle.idl_unit.proofs.EndingLemmas.{closing-one, closing-two}
use Rattle.idl_unit.proofs.ending.closing_len.Goals as goal

pub returns-then-begins_semicolon-clause-cut : goal.returns-then-begins_semicolon-clause-cut
returns-then-begins_semicolon-clause-cut c = (closing-two c.args.tokens.now c.requires.rule (ap (begins is_semicolon) (sym (take_rest c.args.tokens.now 1)) ∙ sym c.begins_semicolon.ensures ∙ c.if-begins_semicolon.true)).0

pub returns-then-begins_semicolon-clause-within : goal.returns-then-begins_semicolon-clause-within
returns-then-begins_semicolon-clause-within c = (closing-two c.args.tokens.now c.requires.rule (ap (begins is_semicolon) (sym (take_rest c.args.tokens.now 1)) ∙ sym c.begins_semicolon.ensures ∙ c.if-begins_semicolon.true)).1

pub returns-else-begins_semicolon-clause-cut : goal.returns-else-begins_semicolon-clause-cut
returns-else-begins_semicolon-clause-cut c = closing-one c.args.tokens.now c.requires.some c.requires.rule (ap (begins is_semicolon) (sym (take_rest c.args.tokens.now 1)) ∙ sym c.begins_semicolon.ensures ∙ c.if-begins_semicolon.false)
