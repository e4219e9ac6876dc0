use Rattle.std.proofs.Common.{◌∷◌, [], ap, arith, length, length-append, refl, subst, sym}
use Rattle.idl_server.specs.Places.{AreCounts}
use Rattle.idl_server.proofs.PlaceLemmas.{counts-more, none-counted}
use Rattle.idl_server.proofs.places.CountedLines.new.Goals as goal

pub lines-init : goal.lines-init
lines-init c = record {
  counts = subst (AreCounts c.args.lines.now) (sym c.in_ok-counts.ensures.items) (none-counted c.args.lines.now);
  many = ap length c.in_ok-counts.ensures.items;
  count = refl;
  few = omega arith;
}

pub lines-preserved : goal.lines-preserved
lines-preserved c =
    let lines = c.args.lines.now in
    let counts = c.lines.counts.items in
    let inv = c.lines.invariant in
    let pushed = c.in_ok-push.ensures.items in
    record {
      counts = subst (AreCounts lines) (sym pushed) (counts-more lines counts c.lines.index c.lines.count inv.counts inv.many inv.count (omega (arith, inv.few, c.lines-test.true)));
      many = omega (arith, inv.many, ap length pushed, length-append counts (c.lines.count ∷ []));
      count = c.count_behind-count.ensures.value;
      few = c.count_behind-count.ensures.few;
    }

pub invariant_of-result : goal.invariant_of-result
invariant_of-result c = (c.requires, c.lines.invariant.counts)
