-- What comes goes into its gap, and into the last draft.
use Rattle.std.proofs.Common.{◌<◌, ◌∙◌, ap, arith, length, subst, sym}
use Rattle.idl_store.specs.Index.{IsGapAmong}
use Rattle.idl_store.specs.Numbers.{drafts_of}
use Rattle.idl_store.specs.Shelved.{Shelved}
use Rattle.idl_store.proofs.Bucketed.{on_err}
use Rattle.idl_store.proofs.Changing.{stored-kept}
use Rattle.idl_store.proofs.Drafting.{length-drafts, some-unless}
use Rattle.idl_store.proofs.Obtaining.{comes-shown, comes-stored, refused-shown}
use Rattle.std.proofs.lemmas.Grind.{common_steps}
use Rattle.idl_store.proofs.shelf.Shelf.put.Goals as goal

pub put-requires-clause-gap : goal.put-requires-clause-gap
put-requires-clause-gap g c =
    subst (λ (s : Shelved g.row.R.Denot). IsGapAmong (λ other. g.R.Ranked.rank other c.args.kept) s.index c.args.gap) (sym c.self.view_is) c.requires.gap

pub invariant_of-self : goal.invariant_of-self
invariant_of-self g c =
    let err = c.in_err-put.ensures.err in (
      stored-kept c.self.invariant.0 c.put.new.used err.0 c.put.new.index (drafts_of c.put.new.drafts.items) err.1 err.2,
      omega (arith, c.self.invariant.1, c.put.ensures.count),
    )

pub returns-in_err-put-clause-err : goal.returns-in_err-put-clause-err
returns-in_err-put-clause-err g c =
    let err = c.in_err-put.ensures.err in
    on_err c.from_residual-in_err-put.result (refused-shown c.self.invariant.0 c.put.new.used (drafts_of c.put.new.drafts.items) c.args.self.now.stored (ap (λ s. s.stored) c.self.view_is) err.0 err.1)

pub invariant_of-self-2 : goal.invariant_of-self-2
invariant_of-self-2 g c =
    let there : 0 < length c.self.inside.drafts.items = omega (arith, c.self.inside.drafts.ok.0, some-unless _ (sym c.is_empty.ensures ∙ c.if-is_empty.false)) in
    let some : 0 < length (drafts_of c.self.inside.drafts.items) = omega (arith, there, length-drafts c.self.inside.drafts.items) in (
      comes-stored c.self.invariant.0 c.put.new.used c.put.new.index c.args.kept c.args.gap.bucket (drafts_of c.put.new.drafts.items) c.requires.bucket c.requires.sound some c.in_ok-put.ensures.ok,
      omega (arith, c.self.invariant.1, c.put.ensures.count),
    )

pub returns-clause-ok : goal.returns-clause-ok
returns-clause-ok g c =
    comes-shown c.self.invariant.0 c.put.new.used c.put.new.index c.args.kept c.args.gap.bucket (drafts_of c.put.new.drafts.items) c.requires.bucket c.args.self.now.stored (ap (λ s. s.stored) c.self.view_is) c.in_ok-put.ensures.ok

pub returns-clause-err : goal.returns-clause-err
returns-clause-err g c = grind (arith, common_steps)

pub returns-then-is_empty : goal.returns-then-is_empty
returns-then-is_empty g c = grind (arith, common_steps)

pub returns-in_err-again-clause-err : goal.returns-in_err-again-clause-err
returns-in_err-again-clause-err g c = grind (arith, common_steps)

pub returns-clause-result : goal.returns-clause-result
returns-clause-result g c = grind (arith, common_steps)
