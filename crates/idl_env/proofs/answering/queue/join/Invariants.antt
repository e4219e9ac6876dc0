use Rattle.std.proofs.Common.{◌≡◌, drop}
use Rattle.std.specs.Map.{keys_of}
use Rattle.idl_env.specs.Facts.{joined}
use Rattle.idl_env.proofs.answering.queue.join.Given as goal

-- the rest of the paths, put behind those so far, comes to all of them
abbrev pub invariant-loop-path : goal.invariant-loop-path
invariant-loop-path l = joined (keys_of l.queue) (drop l.path-index l.paths) ≡ joined (keys_of l.fn.queue) l.paths
