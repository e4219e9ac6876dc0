use Rattle.std.proofs.Common.{◌≡◌, ℕ, ◌+◌, ◌≤◌, length}
use Rattle.idl_env.specs.Facts.{answers}
use Rattle.idl_scope.specs.Lookup.{decided}
use Rattle.idl_scope.proofs.LookupLaws.RunLemmas.{runs}
use Rattle.idl_scope.proofs.lookup.View.found_outward.Given as goal

-- what is left, over the log so far, is the whole
abbrev pub invariant-loop-inside : goal.invariant-loop-inside
invariant-loop-inside l = record {
  passed : l.inside + length l.rest ≡ length l.scopes;
  run : (turns : ℕ) → 18446744073709551615 ≤ turns →
      runs l.self.own.now.additions (answers l.self.env.now) (decided turns l.inside l.rest l.name) l.log
      ≡ runs l.self.own.now.additions (answers l.self.env.now) (decided turns 0 l.scopes l.name) l.fn.log;
}
