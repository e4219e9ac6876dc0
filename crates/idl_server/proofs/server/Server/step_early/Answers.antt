use Rattle.std.proofs.Common.{◌∙◌, ℕ, List, Option, ap, inl, inr, refl, subst, sym}
use Rattle.std.proofs.lemmas.Result.{IfOk-weaker}
use Rattle.std.specs.Result.{OnOk}
use Rattle.serde_json.specs.Data.{Data}
use Rattle.serde_json.specs.View.{view}
use Rattle.serde_json.specs.declared.value.Value.{Value}
use Rattle.idl_editor.specs.documents.Documents.{Told}
use Rattle.idl_editor.specs.documents.Notices.{told_by_message}
use Rattle.idl_editor.specs.messages.Said.{said_by}
use Rattle.idl_loader.specs.Holding.{Holding}
use Rattle.idl_server.specs.Messages.{IsRead, answered}
use Rattle.idl_server.specs.Published.{ArePublished}
use Rattle.idl_server.specs.Server.{HasTaken, IsSettled, if_running}
use Rattle.idl_server.proofs.LateLemmas.{answered-on, change-answered, change-asks, change-told, takes-before, takes-nothing, takes-on, unread-answered}
use Rattle.idl_server.proofs.NoticeLemmas.{told-json}
use Rattle.idl_server.proofs.PublishedLemmas.{none-published}
use Rattle.idl_server.proofs.ServingLemmas.{message-some}
use Rattle.idl_server.proofs.WorkspaceLemmas.{some_of}
use Rattle.idl_server.proofs.server.Server.step_early.Goals as goal

-- ---- no JSON

pub returns-in_default-clause-taken : goal.returns-in_default-clause-taken
returns-in_default-clause-taken g c =
    let old = c.args.self.now in
    let body = c.args.body.now in
    let before = said_by c.args.out.now in
    let after = said_by c.value_of.new.out in
    let read = subst (λ (found : Option Value). IsRead body found before after) c.in_default.is c.in_ok-value.ensures in
    takes-nothing old old body before after after read.0 read.1 (inl refl) (inr (λ w. none-published w after))

pub returns-in_default-clause-answered : goal.returns-in_default-clause-answered
returns-in_default-clause-answered g c =
    let phase = c.args.self.now.phase in
    let body = c.args.body.now in
    let before = said_by c.args.out.now in
    let after = said_by c.value_of.new.out in
    let read = subst (λ (found : Option Value). IsRead body found before after) c.in_default.is c.in_ok-value.ensures in
    unread-answered body phase phase before after after read.0 read.1 refl refl

-- ---- no change

pub returns-in_default-2-clause-settled : goal.returns-in_default-2-clause-settled
returns-in_default-2-clause-settled g c = λ is.
    subst (λ (t : List ℕ → Holding). IsSettled t c.catch_up.new.self → OnOk c.take_value.result (IsSettled t c.take_value.new.self)) c.catch_up.ensures.stays c.take_value.ensures.settled
    (c.in_ok-catch_up.ensures.settled is)

pub returns-in_default-2-clause-taken : goal.returns-in_default-2-clause-taken
returns-in_default-2-clause-taken g c =
    let body = c.args.body.now in
    let mid = c.catch_up.new.self in
    let json = view c.in-Some.value in
    let before = said_by c.args.out.now in
    let between = said_by c.catch_up.new.out in
    let read = subst (λ (found : Option Value). IsRead body found before (said_by c.value_of.new.out)) c.in-Some.is c.in_ok-value.ensures in
    takes-on c.take_value.result (if_running mid.phase (told_by_message mid.workspace.folders json)) c.args.self.now mid c.take_value.new.self body before between (said_by c.take_value.new.out)
    (told-json mid body json read.0) c.in_ok-catch_up.ensures.caught c.in_ok-catch_up.ensures.on_time c.take_value.ensures.late (subst (λ (said : List Data). ArePublished mid.workspace said between) read.1 c.in_ok-catch_up.ensures.published)
    c.take_value.ensures.taken c.take_value.ensures.published

pub returns-in_default-2-clause-answered : goal.returns-in_default-2-clause-answered
returns-in_default-2-clause-answered g c =
    let body = c.args.body.now in
    let json = view c.in-Some.value in
    let before = said_by c.args.out.now in
    let between = said_by c.catch_up.new.out in
    let read = subst (λ (found : Option Value). IsRead body found before (said_by c.value_of.new.out)) c.in-Some.is c.in_ok-value.ensures in
    IfOk-weaker c.take_value.result _ _
    (λ outcome some. (
      some.0,
      message-some body json some.0 read.0 some.1,
      answered-on some.0 c.args.self.now.phase c.catch_up.new.self.phase c.take_value.new.self.phase before between (said_by c.take_value.new.out) outcome c.catch_up.ensures.phase
          (c.in_ok-catch_up.ensures.answers ∙ ap answered read.1) some.2,
    )) c.take_value.ensures.answered

-- ---- a change

pub returns-clause-settled : goal.returns-clause-settled
returns-clause-settled g c = c.in_ok-put_off.ensures.settled (g.L.PathLoader.told_of c.args.loader.now)

pub returns-clause-taken : goal.returns-clause-taken
returns-clause-taken g c =
    let old = c.args.self.now in
    let new = c.put_off.new.self in
    let body = c.args.body.now in
    let before = said_by c.args.out.now in
    let after = said_by c.put_off.new.out in
    let read = subst (λ (found : Option Value). IsRead body found before (said_by c.value_of.new.out)) c.in-Some.is c.in_ok-value.ensures in
    let change = some_of c.in_ok-name.field-0 (c.in-Some-2.name, c.in-Some-2.params) _ c.in-Some-2.is c.in_ok-name.ensures in
    let told = change-told old body (view c.in-Some.value) (view c.in-Some-2.params.now) read.0 change.1 change.0 in
    takes-before old new new body before after after (change-asks body (view c.in-Some.value) (view c.in-Some-2.params.now) old read.0 change.1) (subst (λ (t : Option Told). HasTaken t old new) (sym told) c.in_ok-put_off.ensures.taken) (inl refl)
    (inr (λ w. subst (λ (said : List Data). ArePublished w said after) read.1 (c.in_ok-put_off.ensures.published w))) (inr (λ w. none-published w after))

pub returns-clause-answered : goal.returns-clause-answered
returns-clause-answered g c =
    let body = c.args.body.now in
    let before = said_by c.args.out.now in
    let read = subst (λ (found : Option Value). IsRead body found before (said_by c.value_of.new.out)) c.in-Some.is c.in_ok-value.ensures in
    let change = some_of c.in_ok-name.field-0 (c.in-Some-2.name, c.in-Some-2.params) _ c.in-Some-2.is c.in_ok-name.ensures in
    change-answered body (view c.in-Some.value) c.in-Some-2.params c.args.self.now.phase c.put_off.new.self.phase before (said_by c.put_off.new.out) read.0 change.1 change.0
    c.put_off.ensures.phase (c.in_ok-put_off.ensures.answers ∙ ap answered read.1)
