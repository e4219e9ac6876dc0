use Rattle.std.proofs.Common.{◌++◌, []}
use Rattle.idl_memo.specs.Dated.{entries_before}
use Rattle.idl_root_blocks.specs.Asking.{OpenBlock, noted_in}
use Rattle.idl_root_blocks.proofs.Noting.{left-all}
use Rattle.idl_root_blocks.proofs.open.OpenBlocks.leave.Goals as goal

pub returns-clause-noted : goal.returns-clause-noted
returns-clause-noted c = λ facts right.
    let held = c.in-Some.block in
    let block : OpenBlock = record { text = held.text; start = held.start; log = entries_before held.start (noted_in held ++ []) } in
    let some = rw c.in-Some.is at c.in_ok-block.ensures.some in
    c.forget.ensures.noted facts (left-all facts c.args.self.now c.take_innermost.new.self right block some.1 c.in_ok-block.ensures.asked)
