use Rattle.std.proofs.Common.{◌≡◌, ◌∙◌, ℕ, List, inl, inr, refl, subst}
use Rattle.std.proofs.lemmas.Result.{on_ok_weaker}
use Rattle.idl_editor.specs.messages.Said.{said_by}
use Rattle.idl_server.specs.Late.{ArePut}
use Rattle.idl_server.specs.declared.server.Phase.TheVariants.{Running, Waiting}
use Rattle.idl_server.proofs.LateLemmas.{caught-none, caught-settled, late-run, puts-set}
use Rattle.idl_server.proofs.PublishedLemmas.{none-published, then-published}
use Rattle.idl_server.proofs.ServerLemmas.{settled-kept}
use Rattle.idl_server.proofs.WorkspaceLemmas.{on_ok, set-both}
use Rattle.idl_server.proofs.server.Server.catch_up.Goals as goal

pub returns-in_default-clause-settled : goal.returns-in_default-clause-settled
returns-in_default-clause-settled g c = λ is.
    settled-kept (g.L.PathLoader.told_of c.args.loader.now) c.args.self.now _ (λ waiting. waiting)
    (record { encoding = refl; folders = refl; session = refl; documents = refl; tried = refl; unread = refl }) is

pub returns-in_default-clause-caught : goal.returns-in_default-clause-caught
returns-in_default-clause-caught g c = inr (caught-none c.args.self.now _ refl refl c.clear.ensures.empty c.in_default.not-Running)

pub returns-in_default-clause-published : goal.returns-in_default-clause-published
returns-in_default-clause-published g c = none-published c.args.self.now.workspace (said_by c.args.out.now)

-- ---- no document is late

pub returns-then-is_empty-clause-caught : goal.returns-then-is_empty-clause-caught
returns-then-is_empty-clause-caught g c = inl refl

pub returns-then-is_empty-clause-published : goal.returns-then-is_empty-clause-published
returns-then-is_empty-clause-published g c = none-published c.args.self.now.workspace (said_by c.args.out.now)

-- ---- some are

pub returns-clause-settled : goal.returns-clause-settled
returns-clause-settled g c = λ is.
    let told = g.L.PathLoader.told_of c.args.loader.now in
    let old = c.args.self.now in
    let put = c.put_each.new.self in
    let w = c.settle.new.self in
    let settled = record old { workspace = w } in
    let puts = c.in_ok-put_each.ensures in
    let settles = c.in_ok-settle.ensures in
    let runs : old.phase ≡ Waiting → ⊥ = λ waiting. absurd (cc) in
    let shown = record (record settled { late = c.clear-2.new.self }) { workspace = record w { refused = c.show_refused.new.refused } } in
    on_ok c.publish.result
    (settled-kept told shown _ (λ waiting. waiting) c.publish.ensures.kept
    (settled-kept told settled shown (λ waiting. waiting) (record { encoding = refl; folders = refl; session = refl; documents = refl; tried = refl; unread = refl })
    (caught-settled told old put w (puts-set _ old.workspace put puts.put) settles.set (puts.filed _ is.filed) settles.filed settles.tried (settles.rooted (puts.rooted is.rooted)) settles.covered runs)))

pub returns-clause-caught : goal.returns-clause-caught
returns-clause-caught g c =
    let old = c.args.self.now in
    let put = c.put_each.new.self in
    let w = c.settle.new.self in
    let last = c.publish.new.workspace in
    let kept = c.publish.ensures.kept in
    let puts = c.in_ok-put_each.ensures in
    let settles = c.in_ok-settle.ensures in
    let runs : old.phase ≡ Running = cc in
    on_ok c.publish.result
    (inr (record {
      put = put;
      puts = subst (λ (names : List (List ℕ)). ArePut names old.workspace put) (c.as_slice.ensures.keys ∙ late-run old runs) puts.put;
      documents = kept.documents ∙ settles.documents;
      set = set-both old.workspace w last (set-both old.workspace put w (puts-set _ old.workspace put puts.put) settles.set)
          (record { encoding = kept.encoding; folders = kept.folders; macros = λ i. (kept.session i).project.inputs.macros; search = λ i. (kept.session i).project.inputs.search });
      phase = refl;
      none = c.clear-2.ensures.empty;
    }))

pub returns-clause-published : goal.returns-clause-published
returns-clause-published g c =
    let w = c.publish.new.workspace in
    then-published c.publish.result w (said_by c.args.out.now) (said_by c.show_refused.new.out) (said_by c.publish.new.out)
    (c.in_ok-show_refused.ensures.published w) c.publish.ensures.published

pub returns-clause-answers : goal.returns-clause-answers
returns-clause-answers g c = on_ok_weaker c.publish.result (λ same. same ∙ c.in_ok-show_refused.ensures.answers) c.publish.ensures.answers
