use Rattle.std.proofs.Common.{◌∙◌, ap, codes}
use Rattle.idl_repo.proofs.WriteLemmas.{grows-as, grows-text, grows-then, says-as, says-then}
use Rattle.idl_repo.specs.Pieces.{commas, with_commas}
use Rattle.idl_repo.specs.Row.{context_word, flag, parameter_pieces, references}
use Rattle.idl_repo.specs.TypeCode.{type_pieces}
use Rattle.idl_repo.proofs.row_writer.RowWriter.push_operation.Goals as goal

pub returns : goal.returns
returns c =
    says-as c.in_ok-extend_from_slice.ensures.items (c.flag.ensures ∙ ap (λ stands. flag stands (codes " oneway ")) c.is_oneway.ensures)
    (grows-then (grows-as (ap type_pieces c.data_type.ensures) c.in_ok-push_type.ensures)
    (says-then c.in_ok-extend_from_slice-2.ensures.items
    (grows-then (grows-as (ap (commas parameter_pieces) c.members_of.ensures) c.in_ok-push_parameters.ensures)
    (says-then c.in_ok-extend_from_slice-3.ensures.items
    (grows-then (grows-as (ap references c.raised_of.ensures) c.in_ok-push_references.ensures)
    (says-then c.in_ok-extend_from_slice-4.ensures.items
    (says-as c.in_ok-push_contexts.ensures (ap (with_commas context_word) c.contexts_of.ensures)
    (grows-text c.in_ok-extend_from_slice-5.ensures.items))))))))
