-- Room is made first; then the result goes into the index, and then into its place and the last draft.
use Rattle.std.proofs.Common.{◌≡◌, ◌∷◌, ◌++◌, [], Some, ℕ, ap, refl, subst, sym, vec_len, ◌∙◌, arith}
use Rattle.slab.specs.Slab.{get}
use Rattle.idl_store.specs.Index.{AddsTo, numbered}
use Rattle.idl_store.proofs.Bucketed.{on_err}
use Rattle.idl_store.proofs.Drafting.{drafts-more, drafts-same}
use Rattle.std.proofs.lemmas.Grind.{common_steps}
use Rattle.idl_store.proofs.uses.put.Goals as goal

pub returns-in_err-reserve-clause-err : goal.returns-in_err-reserve-clause-err
returns-in_err-reserve-clause-err g c =
    on_err c.from_residual.result (λ n. refl, drafts-same c.args.drafts.now.items (vec_len c.args.drafts.now) c.args.drafts.now.ok.0 c.in-Some.draft.now (c.in-Some.ensures.variant.0 refl) c.in-Some.ensures.value c.reserve.new.self c.in_err-reserve.ensures.items, refl)

pub returns-in_err-reserve-2-clause-err : goal.returns-in_err-reserve-2-clause-err
returns-in_err-reserve-2-clause-err g c =
    on_err c.from_residual-in_err-reserve-2.result (λ n. ap (λ s. get s n) c.in_err-reserve-2.ensures.rest_kept, drafts-same c.args.drafts.now.items (vec_len c.args.drafts.now) c.args.drafts.now.ok.0 c.in-Some.draft.now (c.in-Some.ensures.variant.0 refl) c.in-Some.ensures.value c.reserve.new.self c.in_ok-reserve.ensures.items, refl)

pub returns-in_err-again-clause-err : goal.returns-in_err-again-clause-err
returns-in_err-again-clause-err g c =
    on_err c.from_residual-in_err-again.result (λ n. ap (λ s. get s n) c.in_ok-reserve-2.ensures.rest_kept, drafts-same c.args.drafts.now.items (vec_len c.args.drafts.now) c.args.drafts.now.ok.0 c.in-Some.draft.now (c.in-Some.ensures.variant.0 refl) c.in-Some.ensures.value c.reserve.new.self c.in_ok-reserve.ensures.items, refl)

pub returns-in_err-insert-clause-err : goal.returns-in_err-insert-clause-err
returns-in_err-insert-clause-err g c =
    on_err c.from_residual-in_err-insert.result (λ n. ap (λ s. get s n) c.in_ok-reserve-2.ensures.rest_kept, drafts-same c.args.drafts.now.items (vec_len c.args.drafts.now) c.args.drafts.now.ok.0 c.in-Some.draft.now (c.in-Some.ensures.variant.0 refl) c.in-Some.ensures.value c.reserve.new.self c.in_ok-reserve.ensures.items, c.in_err-insert.ensures.err)

pub returns-clause-ok : goal.returns-clause-ok
returns-clause-ok g c =
    let same = λ (n : ℕ). ap (λ s. get s n) c.in_ok-reserve-2.ensures.rest_kept in
    let key : c.insert_reserved.result ≡ c.vacant_key-number.result = c.insert_reserved.ensures.key ∙ sym c.vacant_key-number.ensures.value in
    let put = c.insert_reserved.ensures.updates in
    let items = c.push_reserved.ensures.items ∙ ap (λ ns. ns ++ c.vacant_key-number.result ∷ []) c.in_ok-reserve.ensures.items in (
      c.vacant_key-number.result,
      record {
        free = sym (same c.vacant_key-number.result) ∙ c.vacant_key-number.ensures.vacant;
        place = c.len-place.result;
        changed = subst (λ k. get c.insert_reserved.new.self k ≡ Some (record { result = c.args.kept; uses = 1; bucket = c.args.gap.bucket; place = c.len-place.result })) key put.changed;
        others = λ n other. put.others n (λ h. other (h ∙ key)) ∙ same n;
      },
      drafts-more c.args.drafts.now.items (vec_len c.args.drafts.now) c.args.drafts.now.ok.0 c.in-Some.draft.now (c.in-Some.ensures.variant.0 refl) c.in-Some.ensures.value c.push_reserved.new.self (c.vacant_key-number.result ∷ []) items,
      subst (λ k. AddsTo c.args.index.now c.insert.new.self c.args.gap.bucket (numbered k c.vacant_key-number.result)) c.in_ok-again.ensures c.in_ok-insert.ensures.ok,
    )

pub returns-in_default : goal.returns-in_default
returns-in_default g c = grind (arith, common_steps)

pub returns-clause-err : goal.returns-clause-err
returns-clause-err g c = grind (arith, common_steps)

pub returns-clause-count : goal.returns-clause-count
returns-clause-count g c = grind (arith, common_steps)
