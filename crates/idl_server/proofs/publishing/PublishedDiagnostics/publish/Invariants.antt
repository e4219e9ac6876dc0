use Rattle.std.proofs.Common.{◌≡◌}
use Rattle.idl_editor.specs.messages.Said.{said_by}
use Rattle.idl_server.specs.Messages.{answered}
use Rattle.idl_server.specs.Published.{ArePublished}
use Rattle.idl_server.proofs.publishing.PublishedDiagnostics.publish.Given as goal

-- what was said tells what is found, and answers nothing
abbrev pub invariant-files : goal.invariant-files
invariant-files l = record {
  published : ArePublished l.workspace (said_by l.fn.out) (said_by l.out);
  answers : answered (said_by l.out) ≡ answered (said_by l.fn.out);
}
