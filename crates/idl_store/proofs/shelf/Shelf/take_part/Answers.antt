-- The numbers there go into the last draft.
use Rattle.std.proofs.Common.{◌∙◌, All, ap, arith, subst, sym}
use Rattle.std.specs.Prelude.{IsSome}
use Rattle.slab.specs.Slab.{get}
use Rattle.idl_store.specs.Numbers.{drafts_of, numbers_of}
use Rattle.idl_store.specs.Spots.{results_from}
use Rattle.idl_store.proofs.Changing.{stored-used}
use Rattle.idl_store.proofs.Spotted.{part-taken, taken-from}
use Rattle.idl_store.proofs.shelf.Shelf.take_part.Goals as goal

pub use_all_again-requires : goal.use_all_again-requires
use_all_again-requires g c =
    let same = c.deref-3.ensures.value ∙ c.in_ok-numbers.ensures.items ∙ c.numbers_from-part.ensures ∙ (λ i. results_from (numbers_of (c.deref.ensures.value i) (c.deref-2.ensures.value i)) c.args.from c.args.count) in
    subst (All (λ n. IsSome (get c.self.inside.used n))) (sym same) (taken-from c.self.invariant.0 c.args.from c.args.count)

pub invariant_of-self : goal.invariant_of-self
invariant_of-self g c = (
  stored-used c.self.invariant.0 c.use_all_again.new.used c.use_all_again.result c.deref-3.result.now (drafts_of c.use_all_again.new.drafts.items) c.use_all_again.ensures.drafts c.use_all_again.ensures.uses c.use_all_again.ensures.err,
  omega (arith, c.self.invariant.1, c.use_all_again.ensures.count),
)

pub returns-clause-ok : goal.returns-clause-ok
returns-clause-ok g c =
    let same = c.deref-3.ensures.value ∙ c.in_ok-numbers.ensures.items ∙ c.numbers_from-part.ensures ∙ (λ i. results_from (numbers_of (c.deref.ensures.value i) (c.deref-2.ensures.value i)) c.args.from c.args.count) in
    part-taken c.self.invariant.0 c.args.from c.args.count c.use_all_again.result c.use_all_again.new.used (drafts_of c.use_all_again.new.drafts.items) c.deref-3.result.now c.args.self.now.stored (ap (λ s. s.stored) c.self.view_is) same c.use_all_again.ensures.drafts c.use_all_again.ensures.uses
