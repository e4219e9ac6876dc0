-- The last draft has the numbers more.
use Rattle.std.proofs.Common.{refl, vec_len}
use Rattle.idl_store.proofs.Bucketed.{on_err}
use Rattle.idl_store.proofs.Drafting.{drafts-more, drafts-same}
use Rattle.idl_store.proofs.numbers.push_numbers.Goals as goal

pub returns-in_err-extend_from_slice-clause-err : goal.returns-in_err-extend_from_slice-clause-err
returns-in_err-extend_from_slice-clause-err c =
    on_err c.from_residual.result (drafts-same c.args.drafts.now.items (vec_len c.args.drafts.now) c.args.drafts.now.ok.0 c.in-Some.draft.now (c.in-Some.ensures.variant.0 refl) c.in-Some.ensures.value c.extend_from_slice.new.self c.in_err-extend_from_slice.ensures.items)

pub returns-in_ok-extend_from_slice-clause-ok : goal.returns-in_ok-extend_from_slice-clause-ok
returns-in_ok-extend_from_slice-clause-ok c =
    drafts-more c.args.drafts.now.items (vec_len c.args.drafts.now) c.args.drafts.now.ok.0 c.in-Some.draft.now (c.in-Some.ensures.variant.0 refl) c.in-Some.ensures.value c.extend_from_slice.new.self c.args.numbers.now c.in_ok-extend_from_slice.ensures.items
