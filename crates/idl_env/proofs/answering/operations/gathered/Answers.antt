use Rattle.std.proofs.Common.{sym, ap, ◌∙◌, ◌+◌, drop, [], refl}
use Rattle.std.specs.List.{list_any}
use Rattle.std.specs.Map.{keys_of}
use Rattle.idl_env.specs.Facts.{gathered, joined}
use Rattle.idl_entity.specs.Path.{path_eq}
use Rattle.idl_env.proofs.AnswerLaws.PlaceLemmas.{from_here}
use Rattle.idl_env.proofs.AnswerLaws.QueueLemmas.{list_any-joined}
use Rattle.idl_env.proofs.AnswerLaws.StateLemmas.{kept}
use Rattle.idl_env.proofs.answering.operations.gathered.Goals as goal

pub loop-base-init : goal.loop-base-init
loop-base-init c =
    let items = c.as_slice.ensures.value ∙ c.in_ok-to_vec.ensures in
    let keys = c.in_ok-join.ensures ∙ (λ i. joined (keys_of (c.new-there.ensures i)) (items i)) in
    (refl, λ p. ap (list_any (path_eq p)) keys ∙ list_any-joined p [] c.args.found)

pub loop-base-preserved : goal.loop-base-preserved
loop-base-preserved c =
    let entries = c.args.answers.now in
    let bases = c.args.bases.now in
    let at = c.loop-base.base-index in
    let found = c.loop-base.found in
    let here = from_here bases at c.base-item.result c.loop-base-test.true c.base-item.is in
    let paths = c.as_slice-in-loop-base.ensures.value ∙ c.in_ok-paths.ensures ∙ c.in_ok-operations_at.ensures in (
      ap (λ l. gathered (kept entries) l (drop (at + 1) bases)) (c.in_ok-join_new.ensures.joined ∙ ap (joined found) paths)
          ∙ ap (gathered (kept entries) found) (sym here)
          ∙ c.loop-base.invariant.0,
      λ p. c.in_ok-join_new.ensures.there p (c.loop-base.invariant.1 p),
    )

pub join_new-requires : goal.join_new-requires
join_new-requires c = λ p among. c.loop-base.invariant.1 p
