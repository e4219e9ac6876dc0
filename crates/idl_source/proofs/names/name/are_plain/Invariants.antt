use Rattle.std.proofs.Common.{◌≡◌, length}
use Rattle.std.specs.List.{list_all}
use Rattle.idl_source.specs.names.Name.{is_plain, segments}
use Rattle.idl_source.proofs.names.name.are_plain.Given as goal

abbrev pub invariant-segments : goal.invariant-segments
invariant-segments l = list_all is_plain (segments l.left) ≡ list_all is_plain (segments l.fn.bytes)

abbrev pub decreases-segments : goal.decreases-segments
decreases-segments l = length l.left
