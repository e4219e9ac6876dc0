use Rattle.std.proofs.Common.{◌≡◌, ◌∙◌, ℕ, List, refl, subst, sym}
use Rattle.serde_json.specs.View.{view}
use Rattle.idl_loader.specs.Holding.{Holding}
use Rattle.idl_editor.specs.documents.Documents.{texts_of}
use Rattle.idl_server.specs.Files.{AreFiled, told_by}
use Rattle.idl_editor.specs.documents.Notices.{told_by_notice}
use Rattle.idl_server.specs.Server.{HasTaken, if_running}
use Rattle.idl_server.specs.declared.server.Phase.{Phase}
use Rattle.idl_server.specs.declared.server.Phase.TheVariants.{Running, Waiting}
use Rattle.idl_editor.specs.messages.Said.{said_by}
use Rattle.idl_server.proofs.PublishedLemmas.{then-published}
use Rattle.idl_server.proofs.NoticeLemmas.{taken-before}
use Rattle.idl_server.proofs.ServerLemmas.{settled-kept, told-settled}
use Rattle.idl_server.proofs.HeldLemmas.{held-after, held-late, none-late}
use Rattle.idl_server.proofs.WorkspaceLemmas.{on_ok, set-both}
use Rattle.std.proofs.lemmas.Result.{on_ok_weaker}
use Rattle.idl_server.proofs.server.Server.take_notice.Goals as goal

pub returns-clause-settled : goal.returns-clause-settled
returns-clause-settled g c = λ is.
    let told = g.L.PathLoader.told_of c.args.loader.now in
    let old = c.args.self.now in
    let mid = c.take_told.new.self in
    let w = c.settle.new.self in
    let settled = record old { workspace = w } in
    let shown = record old { workspace = record w { refused = c.show_refused.new.refused } } in
    let same : told_by mid.folders (g.L.PathLoader.told_of c.take_told.new.loader) ≡ told_by old.workspace.folders told = λ i. told_by (c.in_ok-take_told.ensures.set.folders i) (c.take_told.ensures.stays i) in
    let filed : AreFiled (told_by old.workspace.folders told) w =
    subst (λ (t : List ℕ → Holding). AreFiled t w) same
    (c.in_ok-settle.ensures.filed (subst (λ (t : List ℕ → Holding). AreFiled t mid) (sym same) (c.in_ok-take_told.ensures.filed is.filed)))
    in
    let runs : old.phase ≡ Waiting → ⊥ = λ waiting. absurd (cc) in
    on_ok c.publish.result
    (settled-kept told shown _ (λ waiting. waiting) c.publish.ensures.kept
    (settled-kept told settled shown (λ waiting. waiting) (record { encoding = refl; folders = refl; session = refl; documents = refl; tried = refl; unread = refl })
    (told-settled told old w (set-both old.workspace mid w c.in_ok-take_told.ensures.set c.in_ok-settle.ensures.set) filed c.in_ok-settle.ensures.tried
    (c.in_ok-settle.ensures.rooted (c.in_ok-take_told.ensures.rooted is.rooted)) c.in_ok-settle.ensures.covered runs)))

pub returns-clause-taken : goal.returns-clause-taken
returns-clause-taken g c =
    let old = c.args.self.now in
    let mid = c.take_told.new.self in
    let w = c.settle.new.self in
    let settled = record old { workspace = w } in
    let shown = record old { workspace = record w { refused = c.show_refused.new.refused } } in
    let told = told_by_notice old.workspace.folders c.args.method (view c.args.params.now) in
    let runs : old.phase ≡ Running = cc in
    on_ok c.publish.result
    (taken-before (if_running old.phase told) old shown _ refl refl c.publish.ensures.kept
    (taken-before (if_running old.phase told) old settled shown refl refl (record { encoding = refl; folders = refl; session = refl; documents = refl; tried = refl; unread = refl })
    (subst (λ (phase : Phase). HasTaken (if_running phase told) old settled) (sym runs) (record {
      texts = λ name. (λ i. texts_of (c.in_ok-settle.ensures.documents i).entries name) ∙ c.in_ok-take_told.ensures.texts name;
      held = held-late old settled (none-late old settled c.requires.on_time) (held-after old.workspace.session.project _ _ _ (λ i. (c.in_ok-settle.ensures.documents i).entries) c.in_ok-take_told.ensures.held);
      set = λ is. set-both old.workspace mid w c.in_ok-take_told.ensures.set c.in_ok-settle.ensures.set;
    }))))

pub returns-clause-published : goal.returns-clause-published
returns-clause-published g c =
    let w = c.publish.new.workspace in
    then-published c.publish.result w (said_by c.args.out.now) (said_by c.show_refused.new.out) (said_by c.publish.new.out)
    (c.in_ok-show_refused.ensures.published w) c.publish.ensures.published

pub returns-clause-answers : goal.returns-clause-answers
returns-clause-answers g c = on_ok_weaker c.publish.result (λ same. same ∙ c.in_ok-show_refused.ensures.answers) c.publish.ensures.answers
