use Rattle.std.proofs.Common.{sym, ◌∙◌}
use Rattle.std.specs.Cmp.{Equal-is}
use Rattle.idl_env.specs.keys.HeldKey.{key_in}
use Rattle.idl_env.specs.contracts.keys.key.KeyOrd.TheImpl.{ghosts as own_order}
use Rattle.idl_env.specs.contracts.keys.key.KeyOrd.TheImpl.Laws.{matches_eq-law}
use Rattle.idl_env.proofs.keys.digested.order_of.Goals as goal

pub returns-then-is_one_with : goal.returns-then-is_one_with
returns-then-is_one_with c =
    let key = key_in c.args.key.now in
    let other = key_in c.args.other.now in
    sym ((Equal-is (own_order.cmp key other)).0 (sym (matches_eq-law key other) ∙ (sym c.is_one_with.ensures ∙ c.if-is_one_with.true)))
