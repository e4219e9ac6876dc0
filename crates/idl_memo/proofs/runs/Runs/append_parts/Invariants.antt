use Rattle.std.proofs.Common.{◌≡◌, ◌++◌, flat_map, length}
use Rattle.idl_memo.specs.Parts.{part_entries}
use Rattle.idl_memo.proofs.runs.Runs.append_parts.Given as goal

-- the parts so far, and behind them what is left
abbrev pub invariant-entries : goal.invariant-entries
invariant-entries g l = flat_map part_entries l.parts.items ++ l.rest ≡ flat_map part_entries l.fn.parts.items ++ l.entries

abbrev pub decreases-entries : goal.decreases-entries
decreases-entries g l = length l.rest
