use Rattle.std.proofs.Common.{None, ◌∙◌}
use Rattle.std.specs.Prelude.{fold, option_to_list}
use Rattle.idl_check.proofs.PragmaLaws.PragmaLemmas.{added-alone}
use Rattle.idl_check.specs.declared.walk.verdict.Verdict.{Verdict}
use Rattle.idl_env.specs.Facts.{UnitFacts, with_addition}
use Rattle.idl_env.specs.declared.additions.addition.Step.TheVariants.{Stays}
use Rattle.idl_check.proofs.ids.pragmas.told.Goals as goal

pub returns : goal.returns
returns c =
    let adds = option_to_list c.args.adds in
    let verdict : UnitFacts → Verdict = λ facts. record { fault = None; writes = facts; row = None } in
    (λ i. verdict (c.in_ok-writes.ensures i))
    ∙ (λ i. verdict (c.in_ok-add_any.ensures i))
    ∙ (λ i. verdict (record (c.new-facts.ensures i) { additions = fold with_addition (c.new-facts.ensures i).additions adds }))
    ∙ (λ i. verdict (record { additions = added-alone c.args.adds i; step = Stays }))
