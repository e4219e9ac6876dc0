use Rattle.std.proofs.Common.{sym, ap, ◌∙◌}
use Rattle.std.specs.Cmp.{both_ways}
use Rattle.idl_base.specs.Exact.{same_number}
use Rattle.idl_env.specs.Facts.{key_of}
use Rattle.idl_env.specs.keys.Key.{key_digest}
use Rattle.idl_env.specs.SameKey.{same_key}
use Rattle.idl_env.proofs.additions.digested_addition.DigestedAddition.is_asked.Goals as goal

pub returns-else-self-digest : goal.returns-else-self-digest
returns-else-self-digest c =
    let mine = c.self.invariant ∙ ap (λ a. key_digest (key_of a)) c.self.view_is in
    let differ = c.if-self-digest.false in
    both_ways _ _
    (λ h. absurd (differ (same_number _ _ h)))
    (λ h. absurd (differ (mine ∙ ap key_digest (sym (same_key c.args.key.now (key_of c.args.self.now) h)) ∙ sym c.digest.ensures)))
