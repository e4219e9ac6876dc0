use Rattle.std.proofs.Common.{◌-◌, ◌++◌, ap, arith, length, sym, ◌∙◌}
use Rattle.idl_root_blocks.specs.Asking.{noted_in}
use Rattle.idl_root_blocks.proofs.Helds.{joined-last}
use Rattle.idl_root_blocks.proofs.held.join_outer.Goals as goal

pub returns-in_ok-join : goal.returns-in_ok-join
returns-in_ok-join c = λ inner same.
    let blocks = c.args.blocks.now in
    joined-last blocks (length blocks - 1) c.in-Some.block.now c.join.new.self (omega (arith, c.in-Some.ensures.item.3.0)) c.in-Some.ensures.item.1 c.in_ok-join.ensures.text c.in_ok-join.ensures.start inner
    (c.in_ok-join.ensures.noted ∙ ap (λ es. noted_in c.in-Some.block.now ++ es) (sym same))
