use Rattle.std.proofs.Common.{ℕ, List, ap, ◌∙◌}
use Rattle.idl_event.specs.Items.{beginning}
use Rattle.idl_event.specs.Expanding.{reached}
use Rattle.idl_prep.specs.Root.{root}
use Rattle.idl_prep.specs.State.{Way}
use Rattle.idl_prep.proofs.WalkLaws.RootTaskLemmas.{run-expansion}
use Rattle.idl_prep.proofs.walk.root_task.RootTaskRunnable.run.Goals as goal

pub returns : goal.returns
returns g c =
    let bank = g.B.Bank.at c.args.bank.now in
    let name = c.args.self.now.name in
    let p = c.expand.new.root.progress in
    ap (λ es. (es, c.into_parts-events.result.1)) (c.in_ok-expansion.ensures ∙ c.into_parts-events.ensures.events)
    ∙ ap (λ log. (p.kept, log)) c.into_parts-events.ensures.log
    ∙ run-expansion bank name p c.args.log.now
    (c.in_ok-expand.ensures
    ∙ ap (λ (n : List ℕ). reached bank (root n) c.new-root.result.progress) c.in_ok-file.ensures
    ∙ ap (λ (way : Way). reached bank (root name) way.progress) c.new-root.ensures
    ∙ ap (λ log. reached bank (root name) (beginning log)) c.replace-before.ensures.value)
