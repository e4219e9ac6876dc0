-- The uses of one draft after another are given up.
use Rattle.std.proofs.Common.{◌≡◌, ◌<◌, ◌∙◌, ℕ, List, ap, arith, length, get_or, subst, sym, take}
use Rattle.std.proofs.lemmas.List.{get_or-map}
use Rattle.idl_store.specs.Numbers.{AreFewer, drafts_of, times, uses_of}
use Rattle.idl_store.specs.Stored.{results_of_drafts}
use Rattle.idl_store.specs.declared.numbers.Draft.{Draft}
use Rattle.idl_store.proofs.Drafting.{length-drafts}
use Rattle.idl_store.proofs.Using.{drafted-more, fewer-then, next-drafted}
use Rattle.idl_store.proofs.uses.release_drafts.Goals as goal

-- what a draft is seen as, and that it is the one at its place
abbrev see : Draft → ℕ × List ℕ
see d = (d.at, d.numbers.items)

here : (slice drafts : List Draft) (i : ℕ) (item : Draft) → slice ≡ drafts → item ≡ get_or slice i item → i < length slice → (i < length (drafts_of drafts)) × (see item ≡ get_or (drafts_of drafts) i (see item))
here slice drafts i item same is below =
    let within : i < length drafts = omega (arith, below, ap (λ (ds : List Draft). length ds) same) in (
      omega (arith, within, length-drafts drafts),
      ap see (is ∙ ap (λ (ds : List Draft). get_or ds i item) same) ∙ sym (get_or-map see drafts i item (see item) within),
    )

pub release-requires-clause-uses : goal.release-requires-clause-uses
release-requires-clause-uses g c = λ n.
    let drafts = c.args.drafts.now.items in
    let i = c.loop-draft.draft-index in
    let item = c.draft-item.result in
    let at = here c.as_slice-draft-items.result.now drafts i item c.as_slice-draft-items.ensures.value c.draft-item.is c.loop-draft-test.true in
    let next = next-drafted (drafts_of drafts) i n (uses_of c.args.used.now n) (uses_of c.loop-draft.used n) (see item) at.0 at.1 (c.loop-draft.invariant.fewer.uses n) (c.requires.uses n) in
    omega (arith, next, ap (times n) c.deref.ensures.value)

pub loop-draft-preserved : goal.loop-draft-preserved
loop-draft-preserved g c =
    let drafts = c.args.drafts.now.items in
    let ds = drafts_of drafts in
    let i = c.loop-draft.draft-index in
    let item = c.draft-item.result in
    let at = here c.as_slice-draft-items.result.now drafts i item c.as_slice-draft-items.ensures.value c.draft-item.is c.loop-draft-test.true in
    let fewer = subst (AreFewer c.loop-draft.used c.release.new.used) c.deref.ensures.value c.release.ensures.fewer in
    record {
      fewer = subst (AreFewer c.args.used.now c.release.new.used) (sym (drafted-more ds i (see item) at.0 at.1)) (fewer-then c.args.used.now c.loop-draft.used c.release.new.used (results_of_drafts (take i ds)) item.numbers.items c.loop-draft.invariant.fewer fewer);
      used = c.release.ensures.used;
      indexed = c.release.ensures.indexed;
    }
