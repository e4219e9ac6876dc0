use Rattle.std.proofs.Common.{◌≡◌, ◌++◌, flat_map, take}
use Rattle.idl_tool.specs.Report.{other_byte}
use Rattle.idl_tool.proofs.report.push_others.Given as goal

-- those before
abbrev pub invariant-bytes : goal.invariant-bytes
invariant-bytes l = l.out.items ≡ l.fn.out.items ++ flat_map (other_byte l.is_line) (take l.b-index l.bytes)
