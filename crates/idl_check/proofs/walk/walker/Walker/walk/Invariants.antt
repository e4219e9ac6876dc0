use Rattle.std.proofs.Common.{◌≡◌, ◌≤◌, ℕ, drop, map}
use Rattle.idl_check.specs.walk.Held.{HasRoomFor, held}
use Rattle.idl_check.specs.walk.Walk.{walk}
use Rattle.idl_check.proofs.Visits.VisitLemmas.{runs_over}
use Rattle.idl_env.specs.Facts.{answers}
use Rattle.idl_env.specs.Turns.{turns_for}
use Rattle.idl_parts.specs.Item.{item_at}
use Rattle.idl_check.proofs.walk.walker.Walker.walk.Given as goal

-- what is left, over the log so far, is the whole
abbrev pub invariant-loop-site : goal.invariant-loop-site
invariant-loop-site l = record {
  rest : (turns : ℕ) → turns_for l.fn.self.env.now ≤ turns
      → runs_over (answers l.fn.self.env.now) (walk turns (map item_at (drop l.site-index l.sites)) (held l.self)) l.log
      ≡ runs_over (answers l.fn.self.env.now) (walk turns (map item_at l.sites) (held l.fn.self)) l.fn.log;
  env : l.self.env.now ≡ l.fn.self.env.now;
  room : HasRoomFor (held l.self) (map item_at (drop l.site-index l.sites));
}
