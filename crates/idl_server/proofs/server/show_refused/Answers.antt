use Rattle.std.proofs.Common.{◌∙◌, refl}
use Rattle.serde_json.specs.View.{view}
use Rattle.idl_editor.specs.messages.Said.{said_by}
use Rattle.idl_server.proofs.PublishedLemmas.{both-published, none-published, one-published, shown-published}
use Rattle.idl_server.proofs.ServingLemmas.{answered-notice}
use Rattle.idl_server.proofs.server.show_refused.Goals as goal

pub refused-init : goal.refused-init
refused-init c = record { published = λ w. none-published w (said_by c.args.out.now); answers = refl }

pub refused-preserved : goal.refused-preserved
refused-preserved c = record {
  published = λ w.
      both-published w (said_by c.args.out.now) (said_by c.refused.out) (said_by c.tell.new.self) (c.refused.invariant.published w)
      (one-published w (said_by c.refused.out) (said_by c.tell.new.self) _ c.in_ok-tell.ensures (shown-published w (view c.in_ok-params.params)));
  answers = answered-notice (said_by c.refused.out) (said_by c.tell.new.self) _ (view c.in_ok-params.params) c.in_ok-tell.ensures ∙ c.refused.invariant.answers;
}
