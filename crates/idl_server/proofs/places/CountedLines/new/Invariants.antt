use Rattle.std.proofs.Common.{◌≡◌, ◌≤◌, ◌*◌, length, take}
use Rattle.std.specs.List.{sum_by}
use Rattle.idl_source.specs.Limits.{longest_line}
use Rattle.idl_editor.specs.Places.{returns}
use Rattle.idl_server.specs.Places.{AreCounts}
use Rattle.idl_server.proofs.places.CountedLines.new.Given as goal

-- those before the lines so far, and before the next
abbrev pub invariant-lines : goal.invariant-lines
invariant-lines l = record {
  counts : AreCounts l.lines l.counts.items;
  many : length l.counts.items ≡ l.index;
  count : l.count ≡ sum_by returns (take l.index l.lines);
  few : l.count ≤ longest_line * l.index;
}
