use Rattle.std.proofs.Common.{◌≡◌, ◌≤◌, ◌+◌, ◌*◌, ◌^◌, take}
use Rattle.idl_session.specs.Requests.{value_of}
use Rattle.idl_session.proofs.heading.parse_number.Given as goal

abbrev pub invariant-loop-d : goal.invariant-loop-d
invariant-loop-d l = record {
  value : l.n ≡ value_of (take l.d-index l.digits);
  bound : l.n + 23 ≤ 23 * 10 ^ l.d-index;
}
