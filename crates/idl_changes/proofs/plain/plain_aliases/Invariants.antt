use Rattle.std.proofs.Common.{◌≡◌, take}
use Rattle.idl_changes.specs.Tables.{each, plain_alias}
use Rattle.idl_changes.proofs.plain.plain_aliases.Given as goal

-- those so far
abbrev pub invariant-loop-tree : goal.invariant-loop-tree
invariant-loop-tree l = l.plains.items ≡ take l.tree-index (each (plain_alias l.listing) l.listing)
