use Rattle.std.proofs.Common.{◌≡◌, length}
use Rattle.idl_memo.specs.Dated.{entries_before}
use Rattle.idl_memo.proofs.dated.DatedEntries.next.Given as goal

-- the entries so far have later dates
abbrev pub invariant-entries : goal.invariant-entries
invariant-entries g l = l.fn.self ≡ entries_before l.self-inside.before l.self-inside.left

abbrev pub decreases-entries : goal.decreases-entries
decreases-entries g l = length l.self-inside.left
