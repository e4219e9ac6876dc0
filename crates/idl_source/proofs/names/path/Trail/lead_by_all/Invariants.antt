use Rattle.std.proofs.Common.{◌≡◌, ◌+◌, ◌*◌, ◌≤◌, length}
use Rattle.idl_source.specs.names.Name.{segments}
use Rattle.idl_source.specs.names.Path.{led_by_all}
use Rattle.idl_source.proofs.names.path.Trail.lead_by_all.Given as goal

abbrev pub invariant-segments : goal.invariant-segments
invariant-segments l = record {
  whole : led_by_all (segments l.left) l.self ≡ led_by_all (segments l.bytes) l.initial.self;
  room : 2 * l.self.up + length l.left ≤ 2 * l.initial.self.up + length l.bytes;
}

abbrev pub decreases-segments : goal.decreases-segments
decreases-segments l = length l.left
