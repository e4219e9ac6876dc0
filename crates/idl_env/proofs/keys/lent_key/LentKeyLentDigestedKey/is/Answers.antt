use Rattle.std.proofs.Common.{sym, ap, ◌∙◌}
use Rattle.std.specs.Cmp.{both_ways}
use Rattle.idl_base.specs.Exact.{same_number}
use Rattle.idl_env.specs.keys.Key.{key_digest}
use Rattle.idl_env.specs.SameKey.{same_key}
use Rattle.idl_env.proofs.keys.lent_key.LentKeyLentDigestedKey.is.Goals as goal

pub returns-else-self-digest : goal.returns-else-self-digest
returns-else-self-digest c =
    let mine = c.self.invariant ∙ ap key_digest c.self.view_is in
    let differ = c.if-self-digest.false in
    both_ways _ _
    (λ h. absurd (differ (same_number _ _ h)))
    (λ h. absurd (differ (mine ∙ ap key_digest (same_key c.args.self.now c.args.other.now h) ∙ sym c.digest.ensures)))
