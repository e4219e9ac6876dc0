use Rattle.std.proofs.Common.{sym, ◌∙◌}
use Rattle.idl_env.specs.keys.HeldKey.{key_in}
use Rattle.idl_env.specs.keys.Outline.{outline_cmp}
use Rattle.idl_env.proofs.OutlineLemmas.{cmp-outlines}
use Rattle.idl_env.proofs.keys.held_key.HeldKey.order.Goals as goal

pub returns : goal.returns
returns c =
    c.order.ensures
    ∙ (λ i. outline_cmp (c.outline.ensures i) (c.outline-2.ensures i))
    ∙ sym (cmp-outlines (key_in c.args.self.now) (key_in c.args.other.now))
