use Rattle.std.proofs.Common.{sym, ap, ◌∙◌, ◌+◌, drop}
use Rattle.idl_env.specs.Facts.{joined}
use Rattle.idl_env.proofs.AnswerLaws.PlaceLemmas.{from_here}
use Rattle.idl_env.proofs.AnswerLaws.QueueLemmas.{item_among}
use Rattle.idl_env.proofs.answering.operations.join_new.Goals as goal

pub join_one_new-requires : goal.join_one_new-requires
join_one_new-requires c =
    let among = item_among c.args.paths.now c.loop-path.path-index c.path-item.result c.loop-path-test.true c.path-item.is in
    c.loop-path.invariant.1 c.path-item.result (c.requires c.path-item.result among)

pub loop-path-preserved : goal.loop-path-preserved
loop-path-preserved c =
    let paths = c.args.paths.now in
    let at = c.loop-path.path-index in
    let here = from_here paths at c.path-item.result c.loop-path-test.true c.path-item.is in (
      ap (λ l. joined l (drop (at + 1) paths)) c.in_ok-join_one_new.ensures.joined
          ∙ ap (joined c.loop-path.found) (sym here)
          ∙ c.loop-path.invariant.0,
      λ p same. c.in_ok-join_one_new.ensures.there p (c.loop-path.invariant.1 p same),
    )
