use Rattle.std.proofs.Common.{sym}
use Rattle.idl_kept.proofs.Alike.{is-alike, stands-here}
use Rattle.idl_root_blocks.specs.Blocks.{text_in}
use Rattle.idl_root_blocks.specs.Places.{block_at}
use Rattle.idl_kept.proofs.laws.alike_at.Goals as goal

pub returns-clause-units : goal.returns-clause-units
returns-clause-units c = λ there here inside placed_there placed same.
    let is = (c.taking.ensures.kept (block_at here inside) (block_at there inside)).0 (is-alike there here inside same) in
    sym (c.resulting.ensures.units there here (text_in inside) (text_in inside) placed.block placed_there.standing (stands-here there here inside same placed) is)

pub returns-clause-inner : goal.returns-clause-inner
returns-clause-inner c = λ there here inside placed_there placed same.
    let is = (c.taking.ensures.kept (block_at here inside) (block_at there inside)).0 (is-alike there here inside same) in
    sym (c.resulting.ensures.blocks there here inside placed.block placed.cut placed_there.standing (stands-here there here inside same placed) is)
