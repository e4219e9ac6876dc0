use Rattle.std.proofs.Common.{◌∙◌, ap, flat_map}
use Rattle.std.proofs.lemmas.Result.{on_ok_weaker}
use Rattle.idl_repo.proofs.WriteLemmas.{grown-on_ok, grows-as, grows-text, grows-then, says-as, text-as}
use Rattle.idl_repo.specs.TypeCode.{element_pieces, layer_end, layers_begin}
use Rattle.idl_entity.specs.declared.data_type.DataType.{DataType}
use Rattle.idl_repo.proofs.row_writer.RowWriter.push_type.Goals as goal

pub returns-in_default : goal.returns-in_default
returns-in_default c =
    rw c.in_default.is (on_ok_weaker c.extend_from_slice.result (λ e. grows-text e) (grown-on_ok _ _ c.extend_from_slice.result c.extend_from_slice.ensures.items))

pub returns : goal.returns
returns c =
    let layers = λ (t : DataType). t.layers in
    rw c.in-Some.is
    (says-as c.in_ok-begin_layers.ensures (ap layers_begin (c.as_slice.ensures ∙ ap layers c.get.ensures))
    (grows-then (grows-as (ap (λ (t : DataType). element_pieces t.element) c.get.ensures) c.in_ok-push_element.ensures)
    (text-as c.in_ok-end_layers.ensures (ap (flat_map layer_end) (c.as_slice-2.ensures ∙ ap layers c.get.ensures)))))
