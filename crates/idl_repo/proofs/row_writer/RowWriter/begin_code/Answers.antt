use Rattle.std.proofs.Common.{◌∙◌, ap}
use Rattle.idl_repo.proofs.WriteLemmas.{grows-known, id-then, says-then, text-as}
use Rattle.idl_entity.specs.Path.{name_of}
use Rattle.idl_repo.proofs.row_writer.RowWriter.begin_code.Goals as goal

pub returns : goal.returns
returns c =
    says-then c.in_ok-extend_from_slice.ensures.items
    (id-then (grows-known c.requires.0 c.in_ok-write.ensures c.requires.1)
    (says-then c.in_ok-extend_from_slice-2.ensures.items
    (text-as c.in_ok-extend_from_slice-3.ensures.items (c.name.ensures ∙ ap name_of c.path.ensures))))
