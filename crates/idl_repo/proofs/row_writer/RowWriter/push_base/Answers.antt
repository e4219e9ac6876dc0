use Rattle.idl_repo.proofs.RowLemmas.{no-base, some-base}
use Rattle.idl_repo.proofs.WriteLemmas.{grows-as, grows-text, grows-then, says-then}
use Rattle.idl_repo.proofs.row_writer.RowWriter.push_base.Goals as goal

pub returns-in_default : goal.returns-in_default
returns-in_default c = no-base c.args.paths.now c.in_default.len_below

pub returns : goal.returns
returns c =
    grows-as (some-base c.args.paths.now c.in-len1-up.len_at_least)
    (says-then c.in_ok-extend_from_slice.ensures.items
    (grows-then c.in_ok-push_references.ensures
    (grows-text c.in_ok-extend_from_slice-2.ensures.items)))
