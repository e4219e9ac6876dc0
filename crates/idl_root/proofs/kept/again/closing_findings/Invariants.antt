use Rattle.std.proofs.Common.{◌≡◌, ◌≤◌, ◌++◌, drop, map}
use Rattle.idl_root.specs.AsBefore.{closing_beside}
use Rattle.idl_root.specs.Held.{listed_at}
use Rattle.idl_root.proofs.kept.again.closing_findings.Given as goal
use Rattle.idl_store.specs.Stored.{list_at}

-- with what is wrong with those that are left it is what is wrong with all
abbrev pub invariant-loop-name : goal.invariant-loop-name
invariant-loop-name l =
    let entries = list_at l.kept.lists l.list in
    (l.closing.items ++ closing_beside (map listed_at (drop l.name-index l.listed)) (drop l.place entries)
    ≡ closing_beside (map listed_at l.listed) entries)
    × (l.place ≤ l.name-index)
