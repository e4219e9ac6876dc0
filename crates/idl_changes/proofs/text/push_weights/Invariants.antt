use Rattle.std.proofs.Common.{◌≡◌, ◌++◌, codes, take}
use Rattle.std.specs.List.{join_by}
use Rattle.idl_changes.proofs.text.push_weights.Given as goal

-- those so far
abbrev pub invariant-loop-place : goal.invariant-loop-place
invariant-loop-place l =
    l.text.items
    ≡ l.fn.text.items ++ (codes "[" ++ join_by (λ t. t) (codes ",") (take l.place l.name-items))
