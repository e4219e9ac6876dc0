use Rattle.std.proofs.Common.{◌≡◌, drop}
use Rattle.std.specs.Prelude.{flat_map}
use Rattle.idl_env.specs.Facts.{stops_of}
use Rattle.idl_env.proofs.additions.facts.Facts.may_be_stopped.Given as goal

-- none is passed by
abbrev pub invariant-loop-index : goal.invariant-loop-index
invariant-loop-index l = flat_map stops_of (drop l.index l.self.additions) ≡ flat_map stops_of l.self.additions
