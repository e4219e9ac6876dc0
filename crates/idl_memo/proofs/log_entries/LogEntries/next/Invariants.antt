use Rattle.std.proofs.Common.{◌≡◌}
use Rattle.idl_memo.proofs.log_entries.LogEntries.next.Given as goal

-- the parts so far have no entries
abbrev pub invariant-parts : goal.invariant-parts
invariant-parts g l = l.fn.self ≡ l.self-inside.parts.entries

abbrev pub decreases-parts : goal.decreases-parts
decreases-parts g l = l.self-inside.parts.count
