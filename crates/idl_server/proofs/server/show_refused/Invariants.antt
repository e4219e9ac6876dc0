use Rattle.std.proofs.Common.{◌≡◌}
use Rattle.idl_editor.specs.messages.Said.{said_by}
use Rattle.idl_server.specs.Messages.{answered}
use Rattle.idl_server.specs.Published.{ArePublished}
use Rattle.idl_server.specs.declared.workspace.Workspace.{Workspace}
use Rattle.idl_server.proofs.server.show_refused.Given as goal

-- no message tells what is found, or answers
abbrev pub invariant-refused : goal.invariant-refused
invariant-refused l = record {
  published : (w : Workspace) → ArePublished w (said_by l.fn.out) (said_by l.out);
  answers : answered (said_by l.out) ≡ answered (said_by l.fn.out);
}
