use Rattle.std.proofs.Common.{◌≡◌, take}
use Rattle.std.specs.List.{fold}
use Rattle.idl_base.specs.Digest.{mixed}
use Rattle.idl_base.proofs.digest.with_bytes.Given as goal

abbrev pub invariant-loop-byte : goal.invariant-loop-byte
invariant-loop-byte l = l.whole ≡ fold mixed l.digest (take l.byte-index l.bytes)
