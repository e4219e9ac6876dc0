use Rattle.std.proofs.Common.{◌≡◌, ◌∙◌, None, Option, ap, refl, subst, sym}
use Rattle.serde_json.specs.View.{view}
use Rattle.idl_editor.specs.messages.Message.{seen}
use Rattle.idl_editor.specs.documents.Documents.{Told}
use Rattle.idl_editor.specs.documents.Notices.{told_by_message, told_by_notice}
use Rattle.idl_server.specs.Server.{HasTaken, if_running}
use Rattle.idl_editor.specs.messages.Said.{said_by}
use Rattle.idl_server.proofs.PublishedLemmas.{none-published}
use Rattle.idl_server.proofs.NoticeLemmas.{none-running, params-given, taken-same, told-notice, told-request, view-Null}
use Rattle.idl_server.proofs.ServingLemmas.{answered-null, ends-told}
use Rattle.std.proofs.lemmas.List.{append-nil}
use Rattle.idl_editor.specs.declared.messages.message.Message.TheVariants.{Answer, Invalid, Notice, Request}
use Rattle.idl_editor.specs.declared.messages.answer.ErrorCode.TheVariants.{NoMessage}
use Rattle.idl_server.specs.Messages.{answered}
use Rattle.idl_server.proofs.server.Server.take_value.Goals as goal

pub returns-in-Request-clause-settled : goal.returns-in-Request-clause-settled
returns-in-Request-clause-settled g c = c.in_ok-take_request-in-Request.ensures.settled (g.L.PathLoader.told_of c.args.loader.now)

pub returns-in-Request-clause-taken : goal.returns-in-Request-clause-taken
returns-in-Request-clause-taken g c =
    let old = c.args.self.now in
    let json = view c.args.value.now in
    let none : if_running old.phase (told_by_message old.workspace.folders json) ≡ None =
    ap (if_running old.phase) (told-request old.workspace.folders json (view c.in-Request.id.now) c.in-Request.ensures.0)
    ∙ none-running old.phase in
    subst (λ (told : Option Told). HasTaken told old c.take_request.new.self) (sym none) c.in_ok-take_request-in-Request.ensures.taken

pub returns-in-Request-clause-published : goal.returns-in-Request-clause-published
returns-in-Request-clause-published g c =
    c.in_ok-take_request-in-Request.ensures.published c.take_request.new.self.workspace

pub returns-in-Goes : goal.returns-in-Goes
returns-in-Goes g c =
    let old = c.args.self.now in
    let json = view c.args.value.now in
    let folders = old.workspace.folders in
    let method = c.in-Notice.method in
    let told : if_running old.phase (told_by_message folders json) ≡ if_running old.phase (told_by_notice folders method (view c.unwrap_or-in-Goes.result.now)) =
    ap (if_running old.phase)
    (told-notice folders json method (seen c.in-Notice.params) c.in-Notice.ensures.0 c.in-Notice.ensures.1 c.in-Notice.ensures.2
    ∙ ap (told_by_notice folders method)
    (sym (params-given c.in-Notice.params _ c.unwrap_or-in-Goes.result c.unwrap_or-in-Goes.ensures view-Null))) in
    record {
      settled = λ is. c.in_ok-take_notice-in-Goes.ensures.settled is;
      taken = subst (λ (t : Option Told). HasTaken t old c.take_notice.new.self) (sym told) c.in_ok-take_notice-in-Goes.ensures.taken;
      published = c.in_ok-take_notice-in-Goes.ensures.published;
      answered = (
        Notice method c.in-Notice.params,
        c.in-Notice.ensures,
        record { answers = c.in_ok-take_notice-in-Goes.ensures.answers ∙ sym (append-nil (answered (said_by c.args.out.now))); led = c.take_notice.ensures.phase; ends = sym c.in-Goes.is ∙ c.outcome_by.ensures },
      );
      late = c.take_notice.ensures.late;
      stays = c.take_notice.ensures.stays;
    }

-- one that ends the server
pub returns-in-Notice : goal.returns-in-Notice
returns-in-Notice g c =
    let server = c.args.self.now in
    let json = view c.args.value.now in
    let folders = server.workspace.folders in
    let method = c.in-Notice.method in
    let told : if_running server.phase (told_by_message folders json) ≡ None =
    ap (if_running server.phase)
    (told-notice folders json method (seen c.in-Notice.params) c.in-Notice.ensures.0 c.in-Notice.ensures.1 c.in-Notice.ensures.2
    ∙ ends-told folders server.phase method _ (λ goes. c.in_default.not-Goes (c.outcome_by.ensures ∙ goes)))
    ∙ none-running server.phase in
    record {
      settled = λ is. is;
      taken = taken-same _ server told;
      published = none-published server.workspace (said_by c.args.out.now);
      answered = (
        Notice method c.in-Notice.params,
        c.in-Notice.ensures,
        record { answers = sym (append-nil (answered (said_by c.args.out.now))); led = refl; ends = cc },
      );
      late = refl;
      stays = refl;
    }

pub returns-in-Answer-clause-published : goal.returns-in-Answer-clause-published
returns-in-Answer-clause-published g c =
    none-published c.args.self.now.workspace (said_by c.args.out.now)

pub returns-in-Request-clause-answered : goal.returns-in-Request-clause-answered
returns-in-Request-clause-answered g c = (
  Request c.in-Request.id c.in-Request.method c.in-Request.params,
  c.in-Request.ensures,
  record { answers = c.in_ok-take_request-in-Request.ensures.answers; led = c.in_ok-take_request-in-Request.ensures.led; ends = refl },
)

pub returns-in-Answer-clause-answered : goal.returns-in-Answer-clause-answered
returns-in-Answer-clause-answered g c =
    (Answer, c.in-Answer.ensures, record { answers = sym (append-nil (answered (said_by c.args.out.now))); led = refl; ends = refl })

pub returns-clause-answered : goal.returns-clause-answered
returns-clause-answered g c = (
  Invalid,
  c.in-Invalid.ensures,
  record { answers = answered-null (said_by c.args.out.now) (said_by c.refuse.new.self) _ NoMessage view-Null c.in_ok-refuse-in-Invalid.ensures; led = refl; ends = refl },
)
