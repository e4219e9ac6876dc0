use Rattle.std.proofs.Common.{◌∙◌, ap, sym}
use Rattle.std.specs.List.{find}
use Rattle.idl_server.specs.Named.{has_path}
use Rattle.idl_server.proofs.NamedLemmas.{find-end, find-here, find-past}
use Rattle.idl_server.proofs.named.entry_of.Goals as goal

pub each-preserved : goal.each-preserved
each-preserved c =
    let p = has_path c.args.path.now in
    find-past p c.as_slice-entries.result.now c.each.index c.index-entries-index.result c.each-test.true c.index-entries-index.is (sym c.has_path.ensures ∙ c.if-has_path.false) ∙ c.each.invariant

pub returns-then-has_path : goal.returns-then-has_path
returns-then-has_path c =
    let p = has_path c.args.path.now in
    sym (find-here p c.as_slice-entries.result.now c.each.index c.index-entries-index.result c.each-test.true c.index-entries-index.is (sym c.has_path.ensures ∙ c.if-has_path.true))
    ∙ c.each.invariant ∙ ap (find p) c.as_slice-entries.ensures

pub returns : goal.returns
returns c =
    let p = has_path c.args.path.now in
    sym (find-end p c.as_slice-entries.result.now c.each.index c.each-test.false) ∙ c.each.invariant ∙ ap (find p) c.as_slice-entries.ensures
