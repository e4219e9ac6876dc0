use Rattle.std.proofs.Common.{◌≡◌, ◌∙◌, ℕ, true, List, Option, Some, ap, map, subst, sym}
use Rattle.std.proofs.lemmas.Result.{on_ok_weaker}
use Rattle.std.specs.Global.{Global}
use Rattle.std.specs.Option.{option_map}
use Rattle.std.specs.Prelude.{Vec}
use Rattle.serde_json.specs.View.{view}
use Rattle.idl_editor.specs.declared.change.ContentChange.{ContentChange}
use Rattle.idl_editor.specs.documents.Documents.{change_told}
use Rattle.idl_editor.specs.messages.Said.{said_by}
use Rattle.idl_server.specs.declared.server.Phase.TheVariants.{Waiting}
use Rattle.idl_server.specs.Files.{IsWith}
use Rattle.idl_server.proofs.HeldLemmas.{late-more, late-still}
use Rattle.idl_server.proofs.LateLemmas.{changed-told, late-settled, taken-bad, taken-late}
use Rattle.idl_server.proofs.PublishedLemmas.{none-published}
use Rattle.idl_server.proofs.ServerLemmas.{settled-kept}
use Rattle.idl_server.proofs.WorkspaceLemmas.{on_ok}
use Rattle.idl_server.proofs.server.Server.put_off.Goals as goal

pub returns-in_default-clause-settled : goal.returns-in_default-clause-settled
returns-in_default-clause-settled c = λ told is.
    let kept = c.keep_bad_change.ensures.kept in
    on_ok c.show_refused.result
    (settled-kept told c.args.self.now _ (λ waiting. waiting)
    (record { encoding = kept.encoding; folders = kept.folders; session = kept.session; documents = kept.documents; tried = kept.tried; unread = kept.unread }) is)

pub returns-in_default-clause-taken : goal.returns-in_default-clause-taken
returns-in_default-clause-taken c =
    let kept = c.keep_bad_change.ensures.kept in
    let none = sym c.in_ok-changes.ensures ∙ ap (λ (o : Option (Vec ContentChange Global)). option_map (λ (list : Vec ContentChange Global). map change_told list.items) o) c.in_default.is in
    on_ok c.show_refused.result
    (taken-bad c.args.self.now.workspace.folders (view c.args.params.now) c.args.self.now _ (λ name is. is) none
    (record { encoding = kept.encoding; folders = kept.folders; session = kept.session; documents = kept.documents; tried = kept.tried; unread = kept.unread }))

pub returns-clause-settled : goal.returns-clause-settled
returns-clause-settled c = λ told is.
    let runs : c.args.self.now.phase ≡ Waiting → ⊥ = λ waiting. absurd (cc) in
    late-settled c.put_off.result told c.args.name.now _ c.args.self.now _ c.put_off.ensures.stays c.put_off.ensures.text c.put_off.ensures.filed runs is

pub returns-clause-taken : goal.returns-clause-taken
returns-clause-taken c =
    let folders = c.args.self.now.workspace.folders in
    let params = view c.args.params.now in
    let changes = map change_told c.deref.result.now in
    let some = sym c.in_ok-changes.ensures ∙ ap (λ (o : Option (Vec ContentChange Global)). option_map (λ (list : Vec ContentChange Global). map change_told list.items) o) c.in-Some.is
    ∙ ap (λ items. Some (map change_told items)) (sym c.deref.ensures.value) in
    let name = c.args.name.now in
    let old = c.args.self.now in
    let one = subst (λ (n : List ℕ). IsWith n true old.late.keys c.insert.new.self.keys) c.copied.ensures c.in_ok-insert.ensures.updates.0 in
    let new = record old { late = c.insert.new.self; workspace = c.put_off.new.self } in
    on_ok_weaker c.put_off.result
    (λ text. taken-late _ name changes old new (late-still name old new c.requires.runs c.requires.runs one) (changed-told folders params name changes c.requires.change.0 some) c.put_off.ensures.stays text
    (late-more name old new c.requires.runs c.requires.runs one)) c.put_off.ensures.text

pub returns-clause-published : goal.returns-clause-published
returns-clause-published c = λ w. on_ok c.put_off.result (none-published w (said_by c.args.out.now))
