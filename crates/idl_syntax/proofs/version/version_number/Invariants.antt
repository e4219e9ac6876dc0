use Rattle.std.proofs.Common.{◌≡◌, ◌≤◌, drop}
use Rattle.idl_syntax.proofs.VersionLemmas.{number_from}
use Rattle.idl_syntax.proofs.version.version_number.Given as goal

abbrev pub invariant-loop-b : goal.invariant-loop-b
invariant-loop-b l = (number_from 0 l.bytes ≡ number_from l.value (drop l.b-index l.bytes)) × (l.value ≤ 65535)
