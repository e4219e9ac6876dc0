use Rattle.idl_lex.proofs.KindLaws.WordLemmas.{taken-pair, taken-single, taken-last}
use Rattle.std.proofs.Common.{◌∙◌, sym}
use Rattle.idl_lex.proofs.bytes.state.mark_len.Goals as goal

pub returns-in-len1-up-clause-len : goal.returns-in-len1-up-clause-len
returns-in-len1-up-clause-len c = taken-pair c.args.first c.args.rest.now c.in-len1-up.len_at_least (sym c.is_pair.ensures ∙ c.if-is_pair.true)

pub returns-in_default-clause-len : goal.returns-in_default-clause-len
returns-in_default-clause-len c = taken-last c.args.first c.args.rest.now c.in_default.len_below

pub returns-in_default-2-clause-len : goal.returns-in_default-2-clause-len
returns-in_default-2-clause-len c = taken-single c.args.first c.args.rest.now c.in-len1-up.len_at_least (sym c.is_pair.ensures ∙ c.if-is_pair.false)
