use Rattle.std.proofs.Common.{ℕ, List, Option, ap, is_some, subst, sym}
use Rattle.std.proofs.lemmas.Result.{on_ok_weaker}
use Rattle.idl_source.specs.texts.Cut.{cut_lines}
use Rattle.idl_editor.specs.Splices.{IsSplice}
use Rattle.idl_loader.specs.Holding.{Holding}
use Rattle.idl_server.specs.Files.{IsFiled}
use Rattle.idl_editor.specs.declared.documents.document.Document.{Document}
use Rattle.idl_server.proofs.workspace.Workspace.change_document.Goals as goal

pub returns-clause-filed : goal.returns-clause-filed
returns-clause-filed c = λ told was.
    let d = c.in-Some.document.now in
    let is = sym c.in-Some.ensures.value in
    let after = c.in_ok-after.after in
    on_ok_weaker c.splice.result (λ (all : (t : List ℕ → Holding) → IsFiled t c.splice.new.self c.args.name.now). all told)
    (c.splice.ensures.filed (record {
      document = _;
      lines = cut_lines d.text.items;
      opened = c.set_text.ensures.there d is;
      there = was.opened d is c.if-not-document.true;
      splices = subst (λ (t : List ℕ). IsSplice (cut_lines t) after.splice (cut_lines after.text.items)) c.deref.ensures.value c.in_ok-after.ensures.lines;
    }))

pub returns-2-clause-filed : goal.returns-2-clause-filed
returns-2-clause-filed c = λ told was.
    on_ok_weaker c.put_whole.result (λ (all : (t : List ℕ → Holding) → IsFiled t c.put_whole.new.self c.args.name.now). all told)
    (c.put_whole.ensures.filed (ap (λ (o : Option Document). is_some o) (c.set_text-2.ensures.there c.in-Some.document.now (sym c.in-Some.ensures.value))))
