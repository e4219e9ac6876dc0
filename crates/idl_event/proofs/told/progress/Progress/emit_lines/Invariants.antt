use Rattle.std.proofs.Common.{◌≡◌, ◌≤◌, length}
use Rattle.idl_event.specs.Expanding.{after_text}
use Rattle.idl_event.specs.Items.{tokens_left}
use Rattle.idl_event.proofs.told.progress.Progress.emit_lines.Given as goal

abbrev pub invariant-chunks : goal.invariant-chunks
invariant-chunks g l = record {
  room : length l.left ≤ tokens_left l.self.left;
  is : after_text l.file l.left l.self ≡ after_text l.file l.text l.fn.self;
}

abbrev pub decreases-chunks : goal.decreases-chunks
decreases-chunks g l = length l.left
