use Rattle.std.proofs.Common.{◌∙◌, refl}
use Rattle.idl_editor.specs.messages.Said.{said_by}
use Rattle.idl_server.proofs.PublishedLemmas.{both-published, none-published}
use Rattle.idl_server.proofs.publishing.PublishedDiagnostics.publish.Goals as goal

pub files-init : goal.files-init
files-init c = record { published = none-published c.args.workspace.now (said_by c.args.out.now); answers = refl }

pub files-preserved : goal.files-preserved
files-preserved c =
    let w = c.args.workspace.now in
    record {
      published =
          both-published w (said_by c.args.out.now) (said_by c.files.out) (said_by c.publish_file.new.out) c.files.invariant.published c.in_ok-publish_file.ensures.published;
      answers = c.in_ok-publish_file.ensures.answers ∙ c.files.invariant.answers;
    }
