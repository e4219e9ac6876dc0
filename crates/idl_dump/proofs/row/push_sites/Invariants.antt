use Rattle.std.proofs.Common.{◌≡◌, ◌≤◌, ◌++◌, drop, map}
use Rattle.idl_dump.specs.HeldRow.{rest_at}
use Rattle.idl_dump.specs.Row.{unit_text}
use Rattle.idl_parts.specs.Item.{item_at, items_length}
use Rattle.idl_dump.proofs.row.push_sites.Given as goal

-- those so far and those of the rest are all
abbrev pub invariant-loop-site : goal.invariant-loop-site
invariant-loop-site l = record {
  text :
      l.text.items ++ unit_text (rest_at l.rest) (map item_at (drop l.site-index l.sites))
      ≡ l.fn.text.items ++ unit_text (rest_at l.unit) (map item_at l.sites);
  room : items_length (map item_at (drop l.site-index l.sites)) ≤ 18446744073709551615;
}
