use Rattle.std.proofs.Common.{◌≡◌, ◌++◌, drop, flat_map, map}
use Rattle.idl_root.specs.Details.{listed_entries}
use Rattle.idl_root.specs.Held.{listed_at}
use Rattle.idl_root.proofs.compiling.detailing.entries_of.Given as goal

-- what is told of the names so far, and of those from here on, is what is told of all
abbrev pub invariant-loop-name : goal.invariant-loop-name
invariant-loop-name l =
    l.entries.items ++ flat_map (listed_entries l.env l.names.declared.items) (map listed_at (drop l.name-index l.listed))
    ≡ flat_map (listed_entries l.env l.names.declared.items) (map listed_at l.listed)
