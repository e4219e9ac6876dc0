use Rattle.std.proofs.Common.{◌≡◌, ◌≤◌, [], drop, take}
use Rattle.idl_changes.specs.Chosen.{with_names}
use Rattle.idl_changes.specs.Rows.{nobody}
use Rattle.idl_changes.proofs.chosen.with_names.Given as goal

-- with the names that are left
abbrev pub invariant-loop-place : goal.invariant-loop-place
invariant-loop-place l = record {
  within : l.start ≤ l.place;
  rest : with_names (drop l.start (take l.place l.text)) (drop l.place l.text) l.weights ≡ with_names [] l.text nobody;
}
