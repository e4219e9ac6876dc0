use Rattle.std.proofs.Common.{◌≡◌, ◌≤◌, drop, take}
use Rattle.idl_changes.specs.Listing.{name_of}
use Rattle.idl_changes.proofs.listing.name_start.Given as goal

-- the name of those so far begins there
abbrev pub invariant-loop-place : goal.invariant-loop-place
invariant-loop-place l = record {
  within : l.start ≤ l.place;
  name : drop l.start (take l.place l.path) ≡ name_of (take l.place l.path);
}
