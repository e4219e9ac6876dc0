use Rattle.std.proofs.Common.{◌≡◌, ◌++◌, length}
use Rattle.idl_memo.specs.Dated.{dated_on}
use Rattle.idl_memo.proofs.dated.PagedEntries.next.Given as goal

-- pages without entries are passed
abbrev pub invariant-pages : goal.invariant-pages
invariant-pages g l = l.fn.self ≡ l.self-inside.page.now ++ dated_on l.self-inside.pages.now

abbrev pub decreases-pages : goal.decreases-pages
decreases-pages g l = length l.self-inside.pages.now
