use Rattle.std.proofs.Common.{◌-◌, arith, length}
use Rattle.idl_root_blocks.proofs.Helds.{dated-last}
use Rattle.idl_root_blocks.proofs.held.note_inside.Goals as goal

pub returns-in_ok-note : goal.returns-in_ok-note
returns-in_ok-note c =
    let blocks = c.args.blocks.now in
    dated-last blocks (length blocks - 1) c.in-Some.block.now c.note.new.self (omega (arith, c.in-Some.ensures.item.3.0)) c.in-Some.ensures.item.1 c.in_ok-note.ensures.text c.in_ok-note.ensures.start c.args.entry c.in_ok-note.ensures.noted
