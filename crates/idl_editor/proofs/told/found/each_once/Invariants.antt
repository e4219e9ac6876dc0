use Rattle.std.proofs.Common.{◌≡◌, map, take}
use Rattle.idl_editor.specs.told.Found.{each_once, findings_in, key_of}
use Rattle.idl_editor.proofs.told.found.each_once.Given as goal

-- of those before, each once
abbrev pub invariant-each : goal.invariant-each
invariant-each l = record {
  keys : l.keys.keys ≡ map key_of (findings_in l.once.items);
  once : findings_in l.once.items ≡ each_once (findings_in (take l.one-index l.found));
}
