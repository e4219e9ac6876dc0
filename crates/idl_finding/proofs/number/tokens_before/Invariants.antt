use Rattle.std.proofs.Common.{◌≡◌, ◌+◌, ◌≤◌}
use Rattle.idl_finding.specs.Number.{tokens_before}
use Rattle.idl_finding.proofs.number.tokens_before.Given as goal

abbrev pub invariant-back : goal.invariant-back
invariant-back l = record {
  within : l.first ≤ l.event;
  count :
      tokens_before l.expansion (record { file = l.place.0.now; line = l.place.1 }) l.event + l.first
      ≡ l.event + tokens_before l.expansion (record { file = l.place.0.now; line = l.place.1 }) l.first;
}

abbrev pub decreases-back : goal.decreases-back
decreases-back l = l.first
