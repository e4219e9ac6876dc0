use Rattle.std.proofs.Common.{◌≡◌, length, take}
use Rattle.idl_event.specs.Runs.{starts_of, tokens_of}
use Rattle.idl_event.proofs.told.runs.TokenRuns.new.Given as goal

abbrev pub invariant-runs : goal.invariant-runs
invariant-runs l = record {
  starts : l.starts.items ≡ starts_of 0 (take l.run-index l.fn.runs.items);
  count : l.count ≡ length (tokens_of (take l.run-index l.fn.runs.items));
}
