use Rattle.std.proofs.Common.{◌∷◌, [], ap, ◌∙◌, arith}
use Rattle.idl_inputs.proofs.AskedLemmas.{asked-all, asked-more, asked-no_more}
use Rattle.idl_inputs.proofs.reading.asked.Goals as goal

pub entries-preserved-in_default : goal.entries-preserved-in_default
entries-preserved-in_default c =
    asked-no_more c.args.log.now c.entries.index c.entries.names.items (omega (arith, c.entries-test.true, c.len-index-end.ensures)) c.entries.invariant c.in_default.ensures

pub entries-preserved : goal.entries-preserved
entries-preserved c =
    c.in_ok-push.ensures.items
    ∙ asked-more c.args.log.now c.entries.index c.entries.names.items (c.name.result ∷ []) (omega (arith, c.entries-test.true, c.len-index-end.ensures)) c.entries.invariant
    (ap (λ n. n ∷ []) c.name.ensures ∙ c.in-Some.ensures)

pub returns : goal.returns
returns c = asked-all c.args.log.now c.entries.index c.entries.names.items (omega (arith, c.entries-test.false, c.len-index-end.ensures)) c.entries.invariant
