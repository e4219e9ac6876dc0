use Rattle.std.proofs.Common.{◌≡◌, length}
use Rattle.idl_source.specs.names.Name.{climbs, segments}
use Rattle.idl_source.proofs.names.name.climbs.Given as goal

abbrev pub invariant-segments : goal.invariant-segments
invariant-segments l = climbs (segments l.left) ≡ climbs (segments l.fn.bytes)

abbrev pub decreases-segments : goal.decreases-segments
decreases-segments l = length l.left
