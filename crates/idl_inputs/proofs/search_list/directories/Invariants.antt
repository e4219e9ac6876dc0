use Rattle.std.proofs.Common.{◌≡◌, map, take}
use Rattle.idl_inputs.proofs.search_list.directories.Given as goal

abbrev pub invariant-loop-bytes : goal.invariant-loop-bytes
invariant-loop-bytes l = record {
  taken : l.directories.items ≡ map (λ bytes. bytes.now) (take l.bytes-index l.list);
}
