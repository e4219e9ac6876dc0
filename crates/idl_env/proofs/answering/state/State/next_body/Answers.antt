use Rattle.std.proofs.Common.{ap, ◌∙◌, ◌+◌}
use Rattle.idl_env.specs.Stamps.{stamped_in}
use Rattle.idl_env.specs.Facts.{count_in}
use Rattle.idl_env.proofs.answering.state.State.next_body.Goals as goal

pub returns : goal.returns
returns c =
    let entries = c.args.self.now.answers in
    let body = ap (λ n. n + 1) (c.count_in-body.ensures ∙ ap count_in c.get.ensures ∙ ap (λ q. count_in ((stamped_in entries).at q)) c.in_ok-key.ensures) in
    λ i. record { path = c.in_ok-path.ensures.cases i; kind = c.args.kind; body = body i }
