use Rattle.std.proofs.Common.{◌-◌, ◌∷◌, codes, drop, length, take}
use Rattle.idl_repo.proofs.WriteLemmas.{grows-commas, grows-more, grows-no_commas, grows-nothing, says-then}
use Rattle.idl_repo.specs.Pieces.{Says}
use Rattle.idl_repo.specs.Row.{parameter_pieces}
use Rattle.idl_repo.proofs.row_writer.RowWriter.push_parameters.Goals as goal

pub returns-in_default : goal.returns-in_default
returns-in_default c = grows-no_commas parameter_pieces c.args.parameters.now c.in_default.len_below

pub loop-parameter-init : goal.loop-parameter-init
loop-parameter-init c = grows-nothing

pub loop-parameter-preserved : goal.loop-parameter-preserved
loop-parameter-preserved c =
    let items = c.args.parameters.now in
    grows-more (λ x. Says (codes ",") ∷ parameter_pieces x) (take (length items - 1) (drop 1 items)) c.loop-parameter.parameter-index c.parameter-item.result c.loop-parameter-test.true c.parameter-item.is c.loop-parameter.invariant
    (says-then c.in_ok-extend_from_slice.ensures.items c.in_ok-push_parameter-2.ensures)

pub returns : goal.returns
returns c =
    let items = c.args.parameters.now in
    grows-commas parameter_pieces items c.first-item.result c.loop-parameter.parameter-index c.in-len1-up.len_at_least c.first-item.is c.loop-parameter-test.false c.in_ok-push_parameter.ensures c.loop-parameter.invariant
