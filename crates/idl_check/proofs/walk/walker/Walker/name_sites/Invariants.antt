use Rattle.std.proofs.Common.{◌≡◌, ◌≤◌, ◌++◌, ℕ, drop, map}
use Rattle.idl_check.specs.walk.Held.{HasRoomFor, held}
use Rattle.idl_check.specs.walk.Names.{site_names}
use Rattle.idl_env.specs.Facts.{answers}
use Rattle.idl_env.specs.Turns.{turns_for}
use Rattle.idl_parts.specs.Item.{item_at}
use Rattle.idl_check.proofs.walk.walker.Walker.name_sites.Given as goal

-- those so far and those at what is left are all
abbrev pub invariant-loop-site : goal.invariant-loop-site
invariant-loop-site l = record {
  rest : (turns : ℕ) → turns_for l.fn.self.env.now ≤ turns
      → l.names.items ++ site_names turns (answers l.fn.self.env.now) (map item_at (drop l.site-index l.sites)) (held l.self)
      ≡ l.fn.names.items ++ site_names turns (answers l.fn.self.env.now) (map item_at l.sites) (held l.fn.self);
  env : l.self.env.now ≡ l.fn.self.env.now;
  room : HasRoomFor (held l.self) (map item_at (drop l.site-index l.sites));
}
