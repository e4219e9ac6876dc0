use Rattle.std.proofs.Common.{sym}
use Rattle.idl_syntax.proofs.PragmaLemmas.{short_none}
use Rattle.idl_syntax.proofs.pragma.pragma.Goals as goal

pub returns-in_default : goal.returns-in_default
returns-in_default c = sym (short_none c.args.tokens.now c.in_default.len_below)
