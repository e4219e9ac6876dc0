use Rattle.std.proofs.Common.{◌∙◌, ℕ, List, Option, ap, inl, inr, subst, sym}
use Rattle.std.proofs.lemmas.Result.{IfOk-weaker}
use Rattle.std.specs.Result.{OnOk}
use Rattle.serde_json.specs.Data.{Data}
use Rattle.serde_json.specs.View.{view}
use Rattle.serde_json.specs.declared.value.Value.{Value}
use Rattle.idl_editor.specs.documents.Documents.{Told}
use Rattle.idl_editor.specs.documents.Notices.{told_by_message}
use Rattle.idl_editor.specs.messages.Said.{said_by}
use Rattle.idl_loader.specs.Holding.{Holding}
use Rattle.idl_server.specs.Messages.{IsRead, answered}
use Rattle.idl_server.specs.Published.{ArePublished}
use Rattle.idl_server.specs.Server.{HasTaken, IsSettled, if_running}
use Rattle.idl_server.proofs.LateLemmas.{answered-on, change-answered, change-asks, change-told, takes-before, takes-nothing, takes-on, unread-answered}
use Rattle.idl_server.proofs.NoticeLemmas.{told-json}
use Rattle.idl_server.proofs.ServingLemmas.{message-some}
use Rattle.idl_server.proofs.WorkspaceLemmas.{on_ok, some_of}
use Rattle.idl_server.proofs.server.Server.step.Goals as goal

-- ---- no JSON

pub returns-in_default-clause-taken : goal.returns-in_default-clause-taken
returns-in_default-clause-taken g c =
    let body = c.args.body.now in
    let before = said_by c.args.out.now in
    let between = said_by c.value_of.new.out in
    let read = subst (λ (found : Option Value). IsRead body found before between) c.in_default.is c.in_ok-value.ensures in
    takes-nothing c.args.self.now c.catch_up.new.self body before between (said_by c.catch_up.new.out) read.0 read.1 c.in_ok-catch_up.ensures.caught
    (inl (c.in_ok-catch_up.ensures.on_time, c.in_ok-catch_up.ensures.published))

pub returns-in_default-clause-answered : goal.returns-in_default-clause-answered
returns-in_default-clause-answered g c =
    let body = c.args.body.now in
    let before = said_by c.args.out.now in
    let between = said_by c.value_of.new.out in
    let read = subst (λ (found : Option Value). IsRead body found before between) c.in_default.is c.in_ok-value.ensures in
    unread-answered body c.args.self.now.phase c.catch_up.new.self.phase before between (said_by c.catch_up.new.out) read.0 read.1 c.catch_up.ensures.phase c.in_ok-catch_up.ensures.answers

-- ---- no change of the document that is late

pub returns-in_default-2-clause-settled : goal.returns-in_default-2-clause-settled
returns-in_default-2-clause-settled g c = λ is.
    subst (λ (t : List ℕ → Holding). IsSettled t c.catch_up-in_default-2.new.self → OnOk c.take_value.result (IsSettled t c.take_value.new.self)) c.catch_up-in_default-2.ensures.stays c.take_value.ensures.settled
    (c.in_ok-catch_up-2.ensures.settled is)

pub returns-in_default-2-clause-taken : goal.returns-in_default-2-clause-taken
returns-in_default-2-clause-taken g c =
    let body = c.args.body.now in
    let mid = c.catch_up-in_default-2.new.self in
    let json = view c.in-Some.value in
    let before = said_by c.args.out.now in
    let between = said_by c.catch_up-in_default-2.new.out in
    let read = subst (λ (found : Option Value). IsRead body found before (said_by c.value_of.new.out)) c.in-Some.is c.in_ok-value.ensures in
    takes-on c.take_value.result (if_running mid.phase (told_by_message mid.workspace.folders json)) c.args.self.now mid c.take_value.new.self body before between (said_by c.take_value.new.out)
    (told-json mid body json read.0) c.in_ok-catch_up-2.ensures.caught c.in_ok-catch_up-2.ensures.on_time c.take_value.ensures.late (subst (λ (said : List Data). ArePublished mid.workspace said between) read.1 c.in_ok-catch_up-2.ensures.published)
    c.take_value.ensures.taken c.take_value.ensures.published

pub returns-in_default-2-clause-on_time : goal.returns-in_default-2-clause-on_time
returns-in_default-2-clause-on_time g c = on_ok c.take_value.result ((λ i. (c.take_value.ensures.late i).keys) ∙ c.in_ok-catch_up-2.ensures.on_time)

pub returns-in_default-2-clause-answered : goal.returns-in_default-2-clause-answered
returns-in_default-2-clause-answered g c =
    let body = c.args.body.now in
    let json = view c.in-Some.value in
    let before = said_by c.args.out.now in
    let between = said_by c.catch_up-in_default-2.new.out in
    let read = subst (λ (found : Option Value). IsRead body found before (said_by c.value_of.new.out)) c.in-Some.is c.in_ok-value.ensures in
    IfOk-weaker c.take_value.result _ _
    (λ outcome some. (
      some.0,
      message-some body json some.0 read.0 some.1,
      answered-on some.0 c.args.self.now.phase c.catch_up-in_default-2.new.self.phase c.take_value.new.self.phase before between (said_by c.take_value.new.out) outcome c.catch_up-in_default-2.ensures.phase
          (c.in_ok-catch_up-2.ensures.answers ∙ ap answered read.1) some.2,
    )) c.take_value.ensures.answered

-- ---- a change of it

pub returns-clause-settled : goal.returns-clause-settled
returns-clause-settled g c = λ is. c.in_ok-catch_up-3.ensures.settled (c.in_ok-put_off.ensures.settled (g.L.PathLoader.told_of c.args.loader.now) is)

pub returns-clause-taken : goal.returns-clause-taken
returns-clause-taken g c =
    let old = c.args.self.now in
    let body = c.args.body.now in
    let mid = c.put_off.new.self in
    let json = view c.in-Some.value in
    let params = view c.in-Some-2.params.now in
    let before = said_by c.args.out.now in
    let between = said_by c.put_off.new.out in
    let read = subst (λ (found : Option Value). IsRead body found before (said_by c.value_of.new.out)) c.in-Some.is c.in_ok-value.ensures in
    let change = some_of c.in_ok-name.field-0 (c.in-Some-2.name, c.in-Some-2.params) _ c.in-Some-2.is c.in_ok-name.ensures in
    let told = change-told old body json params read.0 change.1 change.0 in
    takes-before old mid c.catch_up-2.new.self body before between (said_by c.catch_up-2.new.out) (change-asks body json params old read.0 change.1) (subst (λ (t : Option Told). HasTaken t old mid) (sym told) c.in_ok-put_off.ensures.taken)
    c.in_ok-catch_up-3.ensures.caught (inr (λ w. subst (λ (said : List Data). ArePublished w said between) read.1 (c.in_ok-put_off.ensures.published w)))
    (inl (c.in_ok-catch_up-3.ensures.on_time, c.in_ok-catch_up-3.ensures.published))

pub returns-clause-answered : goal.returns-clause-answered
returns-clause-answered g c =
    let body = c.args.body.now in
    let before = said_by c.args.out.now in
    let read = subst (λ (found : Option Value). IsRead body found before (said_by c.value_of.new.out)) c.in-Some.is c.in_ok-value.ensures in
    let change = some_of c.in_ok-name.field-0 (c.in-Some-2.name, c.in-Some-2.params) _ c.in-Some-2.is c.in_ok-name.ensures in
    change-answered body (view c.in-Some.value) c.in-Some-2.params c.args.self.now.phase c.catch_up-2.new.self.phase before (said_by c.catch_up-2.new.out) read.0 change.1 change.0
    (c.catch_up-2.ensures.phase ∙ c.put_off.ensures.phase) (c.in_ok-catch_up-3.ensures.answers ∙ c.in_ok-put_off.ensures.answers ∙ ap answered read.1)
