use Rattle.std.proofs.Common.{◌≡◌, ap, ◌∙◌}
use Rattle.idl_env.specs.Facts.{after_prefix, path_around, with_prefix}
use Rattle.idl_env.specs.Stamps.{Stamped}
use Rattle.idl_env.specs.Held.{held}
use Rattle.idl_env.proofs.AnswerLaws.StateLemmas.{kept}
use Rattle.idl_env.proofs.answering.state.State.put_prefix.Goals as goal

pub returns-clause-world : goal.returns-clause-world
returns-clause-world c =
    let state = c.args.self.now in
    let outer = c.cursor.ensures in
    let scope = c.in_ok-scope.ensures ∙ ap path_around outer in
    let prefix = c.in_ok-prefix.ensures ∙ (λ i. record { text = c.in_ok-text.ensures.cases i; scope = scope i }) in
    let put : kept c.put_prefix.new.self ≡ (after_prefix (held state) c.args.text.now).answers =
    ap (λ (a : Stamped). a.at) c.put_prefix.ensures ∙ (λ i. with_prefix (prefix i) (kept state.answers)) in
    λ i. record (held state) { answers = put i }
