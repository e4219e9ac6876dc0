use Rattle.std.proofs.Common.{cond, ap, ◌∙◌}
use Rattle.idl_env.specs.keys.Key.{key_eq}
use Rattle.idl_root_blocks.specs.Asking.{Opened, asked_at}
use Rattle.idl_root_blocks.proofs.open.OpenBlocks.note.Goals as goal

pub returns-clause-asked : goal.returns-clause-asked
returns-clause-asked c = λ k.
    c.in_ok-mark_asked.ensures k ∙ ap (λ (o : Opened). cond (key_eq k c.args.entry.now.0) c.args.facts (asked_at o.asked k)) c.self.view_is
