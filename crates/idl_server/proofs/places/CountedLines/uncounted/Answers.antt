use Rattle.std.proofs.Common.{subst, sym}
use Rattle.idl_server.specs.Places.{AreCounts}
use Rattle.idl_server.proofs.PlaceLemmas.{none-counted}
use Rattle.idl_server.proofs.places.CountedLines.uncounted.Goals as goal

pub invariant_of-result : goal.invariant_of-result
invariant_of-result c = (c.requires, subst (AreCounts c.args.lines.now) (sym c.new-counts.ensures.items) (none-counted c.args.lines.now))
