use Rattle.std.proofs.Common.{◌≡◌, ◌++◌, drop, map}
use Rattle.idl_root.specs.Held.{listed_at}
use Rattle.idl_root.specs.Printed.{first_paths, listed_with}
use Rattle.idl_root.proofs.compiling.printing.push_listed.Given as goal

-- those so far and those among the rest are all
abbrev pub invariant-loop-index : goal.invariant-loop-index
invariant-loop-index l =
    map listed_at l.listed.items ++ listed_with l.unit.text.now l.unit.sites.now (first_paths (drop l.index l.writes.additions))
    ≡ map listed_at l.fn.listed.items ++ listed_with l.unit.text.now l.unit.sites.now (first_paths l.writes.additions)
