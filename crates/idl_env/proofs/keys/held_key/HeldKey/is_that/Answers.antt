use Rattle.std.proofs.Common.{◌∙◌}
use Rattle.idl_env.specs.keys.Digested.{key_equiv}
use Rattle.idl_env.specs.keys.HeldKey.{key_in}
use Rattle.idl_env.proofs.keys.held_key.HeldKey.is_that.Goals as goal

pub returns : goal.returns
returns c = c.is.ensures ∙ key_equiv.symm c.args.key.now (key_in c.args.self.now)
