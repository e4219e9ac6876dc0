use Rattle.std.proofs.Common.{◌∷◌, [], ap, ◌∙◌, arith}
use Rattle.idl_prep.proofs.WalkLaws.RootTaskLemmas.{absent-all, absent-more, absent-no_more}
use Rattle.idl_prep.proofs.walk.root_task.absent.Goals as goal

pub entries-preserved-in_default : goal.entries-preserved-in_default
entries-preserved-in_default g c =
    absent-no_more c.args.log.now c.entries.index c.entries.names.items (omega (arith, c.entries-test.true, c.len-index-end.ensures)) c.entries.invariant c.in_default.ensures

pub entries-preserved : goal.entries-preserved
entries-preserved g c =
    c.in_ok-push.ensures.items
    ∙ absent-more c.args.log.now c.entries.index c.entries.names.items (c.name.result ∷ []) (omega (arith, c.entries-test.true, c.len-index-end.ensures)) c.entries.invariant
    (ap (λ n. n ∷ []) c.name.ensures ∙ c.in-Some.ensures)

pub returns : goal.returns
returns g c = absent-all c.args.log.now c.entries.index c.entries.names.items (omega (arith, c.entries-test.false, c.len-index-end.ensures)) c.entries.invariant
