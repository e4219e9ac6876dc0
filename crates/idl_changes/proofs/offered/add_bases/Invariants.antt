use Rattle.std.proofs.Common.{◌≡◌, ◌+◌, ◌&&◌, ◌||◌, ℕ, filter_map, length, nat_eq, not, take}
use Rattle.std.specs.List.{list_any}
use Rattle.idl_changes.specs.Listing.{interface_at}
use Rattle.idl_changes.specs.Tables.{count_besides}
use Rattle.idl_changes.proofs.offered.add_bases.Given as goal

-- those so far
abbrev pub invariant-loop-base : goal.invariant-loop-base
invariant-loop-base l = record {
  found : (n : ℕ) → list_any (nat_eq n) l.found.keys
      ≡ (list_any (nat_eq n) l.fn.found.keys
      || list_any (nat_eq n) (filter_map (λ r. interface_at l.listing r.path) (take l.base-index l.base-items)));
  ahead : (n : ℕ) → list_any (nat_eq n) l.ahead.items
      ≡ (list_any (nat_eq n) l.fn.ahead.items
      || (list_any (nat_eq n) l.found.keys && not (list_any (nat_eq n) l.fn.found.keys)));
  count : length l.ahead.items + count_besides l.listing l.found.keys
      ≡ length l.fn.ahead.items + count_besides l.listing l.fn.found.keys;
}
