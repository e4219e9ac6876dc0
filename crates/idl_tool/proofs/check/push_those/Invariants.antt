use Rattle.std.proofs.Common.{◌≡◌, ◌++◌, map, take}
use Rattle.std.specs.List.{filter, zip}
use Rattle.idl_tool.specs.Checked.{is_of}
use Rattle.idl_tool.specs.ToldAt.{told_at}
use Rattle.idl_tool.proofs.check.push_those.Given as goal

-- those of the findings before
abbrev pub invariant-findings : goal.invariant-findings
invariant-findings l = map told_at l.told.items
    ≡ map told_at l.fn.told.items ++ filter (is_of l.are_following) (take l.index (zip l.findings l.related))
