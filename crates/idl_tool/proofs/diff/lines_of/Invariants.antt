use Rattle.std.proofs.Common.{◌≡◌, map, take}
use Rattle.idl_json.specs.Listed.{row_of}
use Rattle.idl_tool.specs.Compared.{change_lines}
use Rattle.idl_tool.proofs.diff.lines_of.Given as goal

-- the lines of those so far
abbrev pub invariant-lines : goal.invariant-lines
invariant-lines l = l.text.items
    ≡ change_lines l.diff.is_json l.diff.fails (map row_of l.sides.old.now) (map row_of l.sides.new.now) (take l.change-index l.told)
