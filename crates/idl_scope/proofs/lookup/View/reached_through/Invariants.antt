use Rattle.std.proofs.Common.{◌≡◌, ℕ, ◌-◌, ◌≤◌, map}
use Rattle.idl_env.specs.Facts.{answers}
use Rattle.idl_scope.specs.Lookup.{reached, walk}
use Rattle.idl_scope.proofs.LookupLaws.RunLemmas.{runs}
use Rattle.idl_scope.proofs.lookup.View.reached_through.Given as goal

-- the walk from here on, over the log so far, is the whole walk
abbrev pub invariant-bases : goal.invariant-bases
invariant-bases l =
    (turns : ℕ) → 18446744073709551615 ≤ turns →
    runs l.self.own.now.additions (answers l.self.env.now) (walk (turns - l.turn) l.name l.turn l.queue (map (λ e. e.now) l.found.items)) l.log
    ≡ runs l.self.own.now.additions (answers l.self.env.now) (reached turns l.name l.bases) l.fn.log

-- an index counts no more turns
abbrev pub decreases-bases : goal.decreases-bases
decreases-bases l = 18446744073709551615 - l.turn
