use Rattle.std.proofs.Common.{◌≡◌, ◌∙◌, ap}
use Rattle.idl_env.specs.Facts.{after_leaving, with_prefix}
use Rattle.idl_env.specs.Stamps.{Stamped}
use Rattle.idl_env.specs.Held.{held}
use Rattle.idl_env.proofs.AnswerLaws.StateLemmas.{kept}
use Rattle.idl_env.proofs.answering.state.State.leave.Goals as goal

pub returns-clause-world : goal.returns-clause-world
returns-clause-world c =
    let state = c.args.self.now in
    let put : kept c.put_prefix.new.self ≡ (after_leaving (held state)).answers =
    ap (λ (a : Stamped). a.at) c.put_prefix.ensures ∙ (λ i. with_prefix (c.in_ok-prefix.ensures.prefix i) (kept state.answers)) in
    λ i. record (held state) { answers = put i; before = record (held state).before { entered = c.in_ok-prefix.ensures.others i } }
