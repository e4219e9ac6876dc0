use Rattle.std.proofs.Common.{◌∙◌, Option, ap, map, sym}
use Rattle.std.specs.Global.{Global}
use Rattle.std.specs.Option.{option_map}
use Rattle.std.specs.Prelude.{Vec}
use Rattle.serde_json.specs.View.{view}
use Rattle.idl_editor.specs.declared.change.ContentChange.{ContentChange}
use Rattle.idl_editor.specs.documents.Documents.{Changed, change_told}
use Rattle.idl_editor.specs.documents.Notices.{changes_told, name_in}
use Rattle.idl_editor.specs.messages.Params.{both}
use Rattle.idl_server.specs.Files.{StaysBeside}
use Rattle.idl_server.proofs.CoveredLemmas.{rooted-changed, rooted-kept}
use Rattle.idl_server.proofs.HeldLemmas.{held-beside, held-same}
use Rattle.idl_server.proofs.NoticeLemmas.{both-lost, texts-kept}
use Rattle.idl_server.proofs.WorkspaceLemmas.{all-beside, all-kept, on_ok, on_ok_both, set-kept}
use Rattle.idl_server.proofs.workspace.Workspace.take_changed.Goals as goal

pub returns-in-Some-2-clause-filed : goal.returns-in-Some-2-clause-filed
returns-in-Some-2-clause-filed c = λ told are.
    on_ok_both c.change_document.result (λ (b : StaysBeside _ _ _) filed. all-beside told _ _ _ b filed are) c.change_document.ensures.beside
    (c.change_document.ensures.filed told (are _))

pub returns-in-Some-2-clause-rooted : goal.returns-in-Some-2-clause-rooted
returns-in-Some-2-clause-rooted c = λ are.
    on_ok_both c.change_document.result
    (λ (b : StaysBeside c.in-Some.name c.args.self.now c.change_document.new.self) text.
    rooted-changed c.in-Some.name _ c.args.self.now c.change_document.new.self b.roots b.documents text are) c.change_document.ensures.beside c.change_document.ensures.text

pub returns-in-Some-2-clause-held : goal.returns-in-Some-2-clause-held
returns-in-Some-2-clause-held c =
    on_ok_both c.change_document.result (λ (b : StaysBeside _ _ _) held. held-beside _ _ _ _ b.documents held) c.change_document.ensures.beside c.change_document.ensures.held

pub returns-in-None-clause-set : goal.returns-in-None-clause-set
returns-in-None-clause-set c = on_ok c.keep_bad_change.result (set-kept _ _ c.keep_bad_change.ensures.kept)

pub returns-in-None-clause-filed : goal.returns-in-None-clause-filed
returns-in-None-clause-filed c = λ told are. on_ok c.keep_bad_change.result (all-kept told _ _ c.keep_bad_change.ensures.kept are)

pub returns-in-None-clause-rooted : goal.returns-in-None-clause-rooted
returns-in-None-clause-rooted c = λ are. on_ok c.keep_bad_change.result (rooted-kept _ _ c.keep_bad_change.ensures.kept are)

pub returns-in-None-clause-texts : goal.returns-in-None-clause-texts
returns-in-None-clause-texts c =
    let old = c.args.self.now in
    let name = name_in old.folders (view c.args.params.now) in
    let told = both Changed name (changes_told (view c.args.params.now)) in
    let none = sym c.in_ok-changes.ensures ∙ ap (λ (o : Option (Vec ContentChange Global)). option_map (λ (list : Vec ContentChange Global). map change_told list.items) o) c.in-None.is in
    on_ok c.keep_bad_change.result
    (texts-kept old.encoding told old.documents.entries c.keep_bad_change.new.self.documents.entries (λ i. (c.keep_bad_change.ensures.kept.documents i).entries)
    (ap (both Changed name) none ∙ both-lost Changed name))

pub returns-in-None-clause-held : goal.returns-in-None-clause-held
returns-in-None-clause-held c =
    on_ok c.keep_bad_change.result (held-same c.args.self.now.session.project _ _ (λ i. (c.keep_bad_change.ensures.kept.documents i).entries))
