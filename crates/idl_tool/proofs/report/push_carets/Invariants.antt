use Rattle.std.proofs.Common.{◌≡◌, ◌++◌, flat_map, take}
use Rattle.idl_tool.specs.Report.{mark_below}
use Rattle.idl_tool.proofs.report.push_carets.Given as goal

-- below those before
abbrev pub invariant-bytes : goal.invariant-bytes
invariant-bytes l = l.out.items ≡ l.fn.out.items ++ flat_map mark_below (take l.b-index l.shown)
