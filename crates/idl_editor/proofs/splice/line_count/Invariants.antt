use Rattle.std.proofs.Common.{◌≡◌, ◌≤◌, ◌+◌, false, [], drop}
use Rattle.idl_editor.proofs.CutLemmas.{count_left}
use Rattle.idl_editor.proofs.splice.line_count.Given as goal

abbrev pub invariant-loop-byte : goal.invariant-loop-byte
invariant-loop-byte l = record {
  count : l.count + count_left l.begun (drop l.byte-index l.bytes) ≡ count_left false l.bytes;
  few : l.count + count_left l.begun [] ≤ l.byte-index;
}
