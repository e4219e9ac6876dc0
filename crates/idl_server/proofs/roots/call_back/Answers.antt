use Rattle.std.proofs.Common.{◌∙◌, inl, inr, sym}
use Rattle.idl_server.proofs.CoveredLemmas.{copied-some}
use Rattle.idl_server.proofs.roots.call_back.Goals as goal

pub returns-then-is_some : goal.returns-then-is_some
returns-then-is_some c = inr (copied-some c.args.last ∙ sym c.is_some.ensures ∙ c.if-is_some.true)

pub returns : goal.returns
returns c = inl c.clear.ensures.empty
