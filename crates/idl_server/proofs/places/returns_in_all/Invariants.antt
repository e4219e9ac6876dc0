use Rattle.std.proofs.Common.{◌≡◌, ◌≤◌, ◌*◌, take}
use Rattle.std.specs.List.{sum_by}
use Rattle.idl_source.specs.Limits.{longest_line}
use Rattle.idl_editor.specs.Places.{returns}
use Rattle.idl_server.proofs.places.returns_in_all.Given as goal

-- those of the lines before
abbrev pub invariant-lines : goal.invariant-lines
invariant-lines l = (l.count ≡ sum_by returns (take l.line-index l.lines)) × (l.count ≤ longest_line * l.line-index)
