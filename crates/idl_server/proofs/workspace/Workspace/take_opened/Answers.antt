use Rattle.std.proofs.lemmas.Result.{on_ok_weaker}
use Rattle.idl_server.specs.Files.{StaysBeside}
use Rattle.idl_server.proofs.CoveredLemmas.{rooted-beside, text-open}
use Rattle.idl_server.proofs.HeldLemmas.{held-beside}
use Rattle.idl_server.proofs.WorkspaceLemmas.{all-beside, on_ok_both}
use Rattle.idl_server.proofs.workspace.Workspace.take_opened.Goals as goal

pub returns-in-Some-clause-set : goal.returns-in-Some-clause-set
returns-in-Some-clause-set c = on_ok_weaker c.open_document.result (λ (b : StaysBeside _ _ _). b.set) c.open_document.ensures.beside

pub returns-in-Some-clause-filed : goal.returns-in-Some-clause-filed
returns-in-Some-clause-filed c = λ told are.
    on_ok_both c.open_document.result (λ (b : StaysBeside _ _ _) filed. all-beside told _ _ _ b (filed told) are) c.open_document.ensures.beside c.open_document.ensures.filed

pub returns-in-Some-clause-rooted : goal.returns-in-Some-clause-rooted
returns-in-Some-clause-rooted c = λ are.
    on_ok_both c.open_document.result
    (λ (b : StaysBeside c.in-Some.name c.args.self.now c.open_document.new.self) text.
    rooted-beside c.in-Some.name c.args.self.now c.open_document.new.self b.roots b.documents (λ root. text-open c.open_document.new.self c.in-Some.name _ text) are)
    c.open_document.ensures.beside c.open_document.ensures.text

pub returns-in-Some-clause-held : goal.returns-in-Some-clause-held
returns-in-Some-clause-held c =
    on_ok_both c.open_document.result (λ (b : StaysBeside _ _ _) held. held-beside _ _ _ _ b.documents held) c.open_document.ensures.beside c.open_document.ensures.held
