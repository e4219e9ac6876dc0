use Rattle.std.proofs.Common.{◌≡◌}
use Rattle.std.specs.Prelude.{vec_len}
use Rattle.idl_env.specs.Stamps.{stamped_in, stamped_over}
use Rattle.idl_env.proofs.answering.state.put_few.Given as goal

abbrev pub decreases-additions : goal.decreases-additions
decreases-additions l = vec_len l.additions

-- those that are left change the answers so far into the answers over all
abbrev pub invariant-additions : goal.invariant-additions
invariant-additions l = stamped_over l.additions.items (stamped_in l.answers) ≡ stamped_over l.fn.additions.items (stamped_in l.fn.answers)
