use Rattle.std.proofs.Common.{◌≡◌, ℕ, List, None, Option, subst}
use Rattle.std.proofs.lemmas.Result.{on_ok_weaker}
use Rattle.std.specs.Option.{option_map}
use Rattle.std.specs.Result.{OnOk}
use Rattle.idl_editor.specs.documents.Documents.{Closed, HaveTexts, open_after_told, texts_of}
use Rattle.serde_json.specs.View.{view}
use Rattle.idl_server.specs.Files.{StaysBeside}
use Rattle.idl_editor.specs.documents.Notices.{name_in}
use Rattle.idl_server.proofs.CoveredLemmas.{rooted-beside}
use Rattle.idl_server.proofs.HeldLemmas.{held-beside, held-closed}
use Rattle.idl_server.proofs.NoticeLemmas.{texts-with}
use Rattle.idl_server.proofs.WorkspaceLemmas.{all-beside, on_ok_both}
use Rattle.idl_server.proofs.workspace.Workspace.take_closed.Goals as goal

pub returns-in-Some-clause-set : goal.returns-in-Some-clause-set
returns-in-Some-clause-set g c = on_ok_weaker c.close_document.result (λ (b : StaysBeside _ _ _). b.set) c.close_document.ensures.beside

pub returns-in-Some-clause-filed : goal.returns-in-Some-clause-filed
returns-in-Some-clause-filed g c = λ are.
    on_ok_both c.close_document.result (λ (b : StaysBeside _ _ _) filed. all-beside _ _ _ _ b filed are) c.close_document.ensures.beside
    (c.close_document.ensures.filed (are _))

pub returns-in-Some-clause-rooted : goal.returns-in-Some-clause-rooted
returns-in-Some-clause-rooted g c = λ are.
    on_ok_both c.close_document.result
    (λ (b : StaysBeside c.in-Some.name c.args.self.now c.close_document.new.self) rooted.
    rooted-beside c.in-Some.name c.args.self.now c.close_document.new.self b.roots b.documents rooted are) c.close_document.ensures.beside (c.close_document.ensures.rooted (are c.in-Some.name))

pub returns-in-Some-clause-texts : goal.returns-in-Some-clause-texts
returns-in-Some-clause-texts g c =
    let old = c.args.self.now in
    let new = c.close_document.new.self in
    subst
    (λ (name : Option (List ℕ)). OnOk c.close_document.result (HaveTexts new.documents.entries (open_after_told old.encoding (texts_of old.documents.entries) (option_map Closed name))))
    (subst (λ (name : Option (List ℕ)). name ≡ name_in old.folders (view c.args.params.now)) c.in-Some.is c.in_ok-name.ensures)
    (on_ok_both c.close_document.result (λ (b : StaysBeside _ _ _) text. texts-with c.in-Some.name None old.documents.entries new.documents.entries b.documents text) c.close_document.ensures.beside
    c.close_document.ensures.text)

pub returns-in-Some-clause-held : goal.returns-in-Some-clause-held
returns-in-Some-clause-held g c =
    let project = c.args.self.now.session.project in
    on_ok_both c.close_document.result (λ (b : StaysBeside _ _ _) text. held-beside project c.in-Some.name _ _ b.documents (held-closed project c.in-Some.name _ text))
    c.close_document.ensures.beside c.close_document.ensures.text
