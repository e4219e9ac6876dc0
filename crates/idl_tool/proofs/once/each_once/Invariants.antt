use Rattle.std.proofs.Common.{◌≡◌, map, take}
use Rattle.idl_json.specs.Listed.{row_of}
use Rattle.idl_tool.specs.Compared.{declared_text, each_once}
use Rattle.idl_tool.proofs.once.each_once.Given as goal

-- of those before, each once
abbrev pub invariant-each : goal.invariant-each
invariant-each l = record {
  keys : l.keys.keys ≡ map declared_text (map row_of l.once.items);
  once : map row_of l.once.items ≡ each_once (map row_of (take l.row-index l.rows));
}
