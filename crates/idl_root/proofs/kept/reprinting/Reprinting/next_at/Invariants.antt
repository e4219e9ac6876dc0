use Rattle.std.proofs.Common.{◌≡◌}
use Rattle.idl_root.proofs.kept.reprinting.Reprinting.next_at.Given as goal

abbrev pub invariant-loop-first : goal.invariant-loop-first
invariant-loop-first l = (l.self.list ≡ l.fn.self.list) × (l.self.changed ≡ l.fn.self.changed)

abbrev pub decreases-loop-first : goal.decreases-loop-first
decreases-loop-first l = l.self.less
