use Rattle.std.proofs.Common.{◌≡◌, ap, ◌∙◌, ◌++◌, ◌∷◌, [], reverse}
use Rattle.idl_env.specs.Facts.{after_entering, prefix_in, with_prefix}
use Rattle.idl_env.specs.Stamps.{Stamped}
use Rattle.idl_env.specs.Held.{held}
use Rattle.idl_env.specs.declared.keys.key.Key.TheVariants.{Prefix as PrefixKey}
use Rattle.idl_env.proofs.AnswerLaws.StateLemmas.{kept, reverse-push}
use Rattle.idl_env.proofs.answering.state.State.enter.Goals as goal

pub returns-clause-world : goal.returns-clause-world
returns-clause-world c =
    let state = c.args.self.now in
    let put : kept c.put_prefix.new.self ≡ (after_entering (held state)).answers =
    ap (λ (a : Stamped). a.at) c.put_prefix.ensures ∙ (λ i. with_prefix (c.in_ok-none.ensures i) (kept state.answers)) in
    let pushed = c.in_ok-push.ensures.items ∙ ap (λ p. state.entered ++ p ∷ []) c.in_ok-prefix.ensures in
    let entered = ap reverse pushed ∙ reverse-push state.entered (prefix_in (kept state.answers PrefixKey)) in
    λ i. record (held state) { answers = put i; before = record (held state).before { entered = entered i } }
