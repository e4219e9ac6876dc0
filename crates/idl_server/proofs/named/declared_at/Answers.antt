use Rattle.std.proofs.Common.{◌∙◌, ap, sym}
use Rattle.std.specs.List.{find}
use Rattle.idl_server.specs.Named.{stands_at}
use Rattle.idl_project.specs.idl_sources.idl_root.declared.compiling.places.PlacedName.{PlacedName}
use Rattle.idl_server.proofs.NamedLemmas.{find-end, find-here, find-past}
use Rattle.idl_server.proofs.named.declared_at.Goals as goal

pub each-preserved : goal.each-preserved
each-preserved c =
    let p = (λ (declared : PlacedName). stands_at c.args.encoding c.args.session.now.project c.args.spot.file.now.name.now c.args.spot.position declared.place.name) in
    find-past p c.as_slice-names.result.now c.each.index c.index-names-index.result c.each-test.true c.index-names-index.is (sym c.stands_at.ensures ∙ c.if-stands_at.false) ∙ c.each.invariant

pub returns-then-stands_at : goal.returns-then-stands_at
returns-then-stands_at c =
    let p = (λ (declared : PlacedName). stands_at c.args.encoding c.args.session.now.project c.args.spot.file.now.name.now c.args.spot.position declared.place.name) in
    sym (find-here p c.as_slice-names.result.now c.each.index c.index-names-index.result c.each-test.true c.index-names-index.is (sym c.stands_at.ensures ∙ c.if-stands_at.true))
    ∙ c.each.invariant ∙ ap (find p) c.as_slice-names.ensures

pub returns : goal.returns
returns c =
    let p = (λ (declared : PlacedName). stands_at c.args.encoding c.args.session.now.project c.args.spot.file.now.name.now c.args.spot.position declared.place.name) in
    sym (find-end p c.as_slice-names.result.now c.each.index c.each-test.false) ∙ c.each.invariant ∙ ap (find p) c.as_slice-names.ensures
