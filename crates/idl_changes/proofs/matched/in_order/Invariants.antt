use Rattle.std.proofs.Common.{◌≡◌, ◌+◌, drop}
use Rattle.std.specs.Option.{option_map_or}
use Rattle.idl_changes.specs.Matched.{in_order_from}
use Rattle.idl_changes.proofs.matched.in_order.Given as goal

-- those that are left are in order behind the last so far
abbrev pub invariant-loop-place : goal.invariant-loop-place
invariant-loop-place l =
    in_order_from (option_map_or (λ n. n + 1) l.last 0) (drop l.place-index l.found) ≡ in_order_from 0 l.found
