use Rattle.std.proofs.Common.{◌∙◌, Some, ap, sym}
use Rattle.std.specs.List.{find, list_any}
use Rattle.std.specs.Str.{bytes_eq}
use Rattle.idl_inputs.specs.Asked.{asked_of}
use Rattle.idl_server.specs.Named.{asks_for}
use Rattle.idl_server.proofs.NamedLemmas.{find-end, find-here, find-past}
use Rattle.idl_server.proofs.workspace.Workspace.root_with.Goals as goal

pub each-preserved : goal.each-preserved
each-preserved c =
    let p = asks_for c.args.self.now.session.project c.args.name.now in
    find-past p c.as_slice-held.result.now c.each.index c.index-held-index.result c.each-test.true c.index-held-index.is (sym (c.contains.ensures.value ∙ (ap (λ names. list_any (λ asked. bytes_eq asked c.args.name.now) names) (c.deref.ensures.value ∙ c.in_ok-asked.ensures ∙ ap (asked_of c.args.self.now.session.project) c.as_bytes.ensures.bytes))) ∙ c.if-contains.false) ∙ c.each.invariant

pub returns-then-contains : goal.returns-then-contains
returns-then-contains c =
    let p = asks_for c.args.self.now.session.project c.args.name.now in
    ap Some c.copied.ensures
    ∙ sym (find-here p c.as_slice-held.result.now c.each.index c.index-held-index.result c.each-test.true c.index-held-index.is (sym (c.contains.ensures.value ∙ (ap (λ names. list_any (λ asked. bytes_eq asked c.args.name.now) names) (c.deref.ensures.value ∙ c.in_ok-asked.ensures ∙ ap (asked_of c.args.self.now.session.project) c.as_bytes.ensures.bytes))) ∙ c.if-contains.true))
    ∙ c.each.invariant ∙ ap (find p) (c.as_slice-held.ensures.value ∙ c.in_ok-roots.ensures)

pub returns : goal.returns
returns c =
    let p = asks_for c.args.self.now.session.project c.args.name.now in
    sym (find-end p c.as_slice-held.result.now c.each.index c.each-test.false) ∙ c.each.invariant ∙ ap (find p) (c.as_slice-held.ensures.value ∙ c.in_ok-roots.ensures)
