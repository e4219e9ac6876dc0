use Rattle.std.proofs.Common.{◌+◌, ◌<◌, ◌∷◌, ◌++◌, [], length, sym, ap, ◌∙◌, arith}
use Rattle.idl_env.specs.Facts.{World, after, count_in, world}
use Rattle.idl_env.specs.Held.{held}
use Rattle.idl_env.specs.Stamps.{Stamps, stamped, stamped_in, stamps_of, with_one_more}
use Rattle.idl_env.specs.Turns.{bases_among}
use Rattle.idl_env.specs.Written.{writes_at}
use Rattle.idl_env.specs.declared.answering.state.State.{State}
use Rattle.idl_env.proofs.AnswerLaws.CountLemmas.{count-world, world-push}
use Rattle.idl_env.proofs.DeclaredLemmas.{counted-after}
use Rattle.idl_env.proofs.StampLemmas.{stamps-push}
use Rattle.idl_env.proofs.env.Env.add_own.Goals as goal

pub add_own-requires-clause-counts : goal.add_own-requires-clause-counts
add_own-requires-clause-counts c = λ key.
    let before = c.self.inside.facts in
    let counts = count-world before key in
    let same = ap (λ (w : World). count_in (w.answers key)) (ap held c.deref_mut.ensures.value ∙ c.self.invariant.1.0) in
    let bound : count_in ((world before).answers key) < 18446744073709551615 = grind (arith, counts, c.self.invariant.0, c.in_ok-count.ensures.room) in
    rw same bound

pub add_own-requires-clause-facts : goal.add_own-requires-clause-facts
add_own-requires-clause-facts c =
    let before = c.self.inside.facts in
    let same = ap (λ (s : State). (stamped_in s.answers).stamps.count) c.deref_mut.ensures.value ∙ ap (λ (s : Stamps). s.count) c.self.invariant.1.1 in
    let bound : length before < 18446744073709551615 = grind (arith, c.self.invariant.0, c.in_ok-count.ensures.room) in
    rw same bound

pub invariant_of-result : goal.invariant_of-result
invariant_of-result c =
    let before = c.self.inside.facts in
    let f = c.args.facts in
    let past = c.and-after.ensures ∙ ap (λ g. before ++ g ∷ []) c.get-2.ensures in
    let told = ap held c.deref_mut.ensures.value ∙ c.self.invariant.1.0 in
    let stamps = ap (λ (s : State). (stamped_in s.answers).stamps) c.deref_mut.ensures.value ∙ c.self.invariant.1.1 in
    let own = c.deref_mut-2.ensures.value ∙ c.facts-2.view_is in (
      counted-after c.self.inside.count c.in_ok-count.count before f _ c.self.invariant.0 (c.in_ok-count.ensures.more ∙ ap (λ g. c.self.inside.count + length g.additions + length (bases_among g.additions) + 1) c.get.ensures) past,
      (
        c.in_ok-add_own.ensures.world
            ∙ (λ i. after (told i) (own i))
            ∙ sym (world-push before f)
            ∙ sym (ap world past),
        c.in_ok-add_own.ensures.stamps
            ∙ (λ i. stamped (writes_at (told i) (own i)) (with_one_more (stamps i)))
            ∙ sym (stamps-push before f)
            ∙ sym (ap stamps_of past),
      ),
    )
