use Rattle.std.proofs.Common.{ap, ◌∙◌}
use Rattle.idl_env.specs.Stamps.{Stamps, stamped_in}
use Rattle.idl_env.specs.Written.{last_written}
use Rattle.idl_env.specs.declared.answering.state.State.{State}
use Rattle.idl_env.proofs.env.Env.written_at.Goals as goal

pub returns : goal.returns
returns c =
    let key = c.args.key.now in
    c.writer.ensures
    ∙ ap (λ (s : State). (stamped_in s.answers).stamps.last key) c.deref.ensures
    ∙ ap (λ (s : Stamps). s.last key) c.self.invariant.1.1
    ∙ ap (λ facts. last_written facts key) c.self.view_is
