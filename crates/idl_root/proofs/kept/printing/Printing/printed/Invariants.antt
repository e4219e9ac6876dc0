use Rattle.std.proofs.Common.{◌≡◌, ◌≤◌, ◌++◌, ℕ, List, drop, flat_map, map}
use Rattle.std.specs.Prelude.{sum_by}
use Rattle.idl_memo.specs.Meter.{compared_after, most_compared}
use Rattle.idl_store.specs.Stored.{grown, results_in}
use Rattle.idl_root.specs.Compared.{entry_keys, shared_entries}
use Rattle.idl_root.specs.Followed.{IsPrinting}
use Rattle.idl_root.specs.Held.{listed_at}
use Rattle.idl_root.specs.Places.{EntryPlace, entries_over}
use Rattle.idl_root.specs.Printed.{closing_finding, entry_row}
use Rattle.idl_root.specs.Results.{EntryResult, HasDraft, IsEntryPass, PrintsOnly, entry_result}
use Rattle.idl_root.proofs.kept.printing.Printing.printed.Given as goal

-- with what the rest comes to it is what all of them come to
abbrev pub invariant-loop-name : goal.invariant-loop-name
invariant-loop-name l =
    let left = map listed_at (drop l.name-index l.listed) in
    let all = map listed_at l.listed in
    (l.printed.findings.items ++ flat_map (closing_finding l.env) left ≡ flat_map (closing_finding l.env) all)
    × (l.printed.rows.items ++ flat_map (entry_row l.env) left ≡ flat_map (entry_row l.env) all)
    × (grown l.kept (map entry_result (entries_over l.env left)) ≡ grown l.fn.kept (map entry_result (entries_over l.env all)))
    × (l.kept.lists ≡ l.fn.kept.lists)
    × IsPrinting l.kept.lists l.self l.env
    × PrintsOnly l.fn.self.meter l.self.meter
    × (HasDraft l.fn.kept
    → HasDraft l.kept
    × ((end : List EntryResult) (total : ℕ)
    → IsEntryPass (entries_over l.env left) (results_in l.kept) end l.self.meter.printed total
    → IsEntryPass (entries_over l.env all) (results_in l.fn.kept) end l.fn.self.meter.printed total))
    × (compared_after l.keys (sum_by entry_keys (entries_over l.env left)) ≡ compared_after l.fn.self.keys (sum_by entry_keys (entries_over l.env all)))
    × (l.keys ≤ most_compared)
    × (l.fn.self.meter.compared ≤ most_compared → l.self.meter.compared ≤ most_compared)
    × ((known : List EntryPlace) → HasDraft l.fn.kept → results_in l.fn.kept ≡ map entry_result known
    → (seen : List EntryPlace)
    × ((results_in l.kept ≡ map entry_result seen)
    × (compared_after l.self.meter.compared (shared_entries seen (entries_over l.env left))
    ≡ compared_after l.fn.self.meter.compared (shared_entries known (entries_over l.env all)))))
