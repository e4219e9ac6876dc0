use Rattle.std.proofs.Common.{◌≡◌, ◌≤◌, ◌++◌, drop, flat_map, map}
use Rattle.idl_root.specs.AsBefore.{judged_beside}
use Rattle.idl_root.specs.Findings.{unit_finding}
use Rattle.idl_root.specs.Held.{listed_at}
use Rattle.idl_root.specs.Printed.{listed_in}
use Rattle.idl_root.proofs.kept.again.Again.with_all.Given as goal
use Rattle.idl_store.specs.Stored.{list_at}

-- with what comes of those that are left it is what comes of all
abbrev pub invariant-loop-unit : goal.invariant-loop-unit
invariant-loop-unit l =
    let results = list_at l.kept.lists l.list in
    let left = judged_beside (drop l.unit-index l.units) (drop l.place results) in
    let all = judged_beside l.units results in
    (l.again.findings.items ++ flat_map unit_finding left ≡ l.fn.self.findings.items ++ flat_map unit_finding all)
    × (map listed_at l.again.listed.items ++ flat_map listed_in left ≡ map listed_at l.fn.self.listed.items ++ flat_map listed_in all)
    × (l.place ≤ l.unit-index)
