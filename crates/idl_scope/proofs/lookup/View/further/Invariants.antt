use Rattle.std.proofs.Common.{◌≡◌, ℕ, ◌≤◌, drop}
use Rattle.idl_env.specs.Facts.{answers}
use Rattle.idl_scope.specs.Lookup.{further}
use Rattle.idl_scope.proofs.LookupLaws.RunLemmas.{runs}
use Rattle.idl_scope.proofs.lookup.View.further.Given as goal

-- what is left, over the log so far, is the whole
abbrev pub invariant-loop-part : goal.invariant-loop-part
invariant-loop-part l =
    (turns : ℕ) → 18446744073709551615 ≤ turns →
    runs l.self.own.now.additions (answers l.self.env.now) (further turns l.part l.entity (drop l.part l.names)) l.log
    ≡ runs l.self.own.now.additions (answers l.self.env.now) (further turns 0 l.first l.names) l.fn.log
