use Rattle.std.proofs.Common.{◌≡◌, ◌++◌, [], take}
use Rattle.idl_memo.specs.Dated.{dated_on}
use Rattle.idl_root_blocks.specs.Asking.{noted_in}
use Rattle.idl_root_blocks.proofs.held.HeldBlock.join.Given as goal

-- the pages so far stand behind what was noted before
abbrev pub invariant-loop-page : goal.invariant-loop-page
invariant-loop-page l =
    (noted_in l.self ≡ noted_in l.fn.self ++ dated_on (take l.page-index l.pages))
    × (l.self.page.items ≡ [])
    × (l.self.text ≡ l.fn.self.text)
    × (l.self.start ≡ l.fn.self.start)
