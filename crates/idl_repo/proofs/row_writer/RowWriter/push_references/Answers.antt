use Rattle.std.proofs.Common.{◌-◌, ◌∷◌, codes, drop, length, take}
use Rattle.idl_repo.proofs.WriteLemmas.{grows-commas, grows-more, grows-no_commas, grows-nothing, says-then}
use Rattle.idl_repo.specs.Pieces.{Says}
use Rattle.idl_repo.specs.TypeCode.{reference}
use Rattle.idl_repo.proofs.row_writer.RowWriter.push_references.Goals as goal

pub returns-in_default : goal.returns-in_default
returns-in_default c = grows-no_commas reference c.args.paths.now c.in_default.len_below

pub loop-path-init : goal.loop-path-init
loop-path-init c = grows-nothing

pub loop-path-preserved : goal.loop-path-preserved
loop-path-preserved c =
    let items = c.args.paths.now in
    grows-more (λ x. Says (codes ",") ∷ reference x) (take (length items - 1) (drop 1 items)) c.loop-path.path-index c.path-item.result c.loop-path-test.true c.path-item.is c.loop-path.invariant
    (says-then c.in_ok-extend_from_slice.ensures.items c.in_ok-push_reference-2.ensures)

pub returns : goal.returns
returns c =
    let items = c.args.paths.now in
    grows-commas reference items c.first-item.result c.loop-path.path-index c.in-len1-up.len_at_least c.first-item.is c.loop-path-test.false c.in_ok-push_reference.ensures c.loop-path.invariant
