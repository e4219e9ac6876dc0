use Rattle.std.proofs.Common.{sym, ap, ◌∙◌}
use Rattle.idl_env.specs.keys.Key.{key_digest}
use Rattle.idl_env.proofs.additions.digested_addition.DigestedAddition.into_entry.Goals as goal

pub known-requires : goal.known-requires
known-requires c = c.self.invariant ∙ ap key_digest (sym c.in_ok-key.ensures.key)
