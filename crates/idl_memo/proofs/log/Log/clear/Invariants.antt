use Rattle.std.proofs.Common.{◌≡◌, ◌+◌, None, length}
use Rattle.idl_memo.proofs.log.Log.clear.Given as goal

-- so many are left, of which none is told
abbrev pub invariant-loop-entry : goal.invariant-loop-entry
invariant-loop-entry g l = (length l.self-inside.entries + l._entry ≡ length l.fn.self) × (l.self-inside.told ≡ None)
