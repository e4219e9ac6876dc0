use Rattle.std.proofs.Common.{◌≡◌, drop, map}
use Rattle.idl_root_blocks.specs.Asking.{AreNoted, with_asked}
use Rattle.idl_root_blocks.proofs.open.OpenBlocks.ask.Given as goal

-- with those that are left each asks what it is to ask
abbrev pub invariant-loop-entry : goal.invariant-loop-entry
invariant-loop-entry l =
    (map (with_asked l.env (drop l.entry-index l.entries)) l.self.blocks
    ≡ map (with_asked l.env l.entries) l.fn.self.blocks)
    × AreNoted l.env l.self
