use Rattle.std.proofs.Common.{◌≡◌, ◌++◌, flat_map, take}
use Rattle.idl_tool.specs.make_rules.Make.{target_byte}
use Rattle.idl_tool.proofs.make_rules.make.push_target.Given as goal

-- those before
abbrev pub invariant-bytes : goal.invariant-bytes
invariant-bytes l = l.out.items ≡ l.fn.out.items ++ flat_map target_byte (take l.byte-index l.name)
