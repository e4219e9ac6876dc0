-- What is found goes into the last draft; a gap is that of the one that is looked for.
use Rattle.std.proofs.Common.{◌≡◌, ◌∷◌, [], ap, arith, subst}
use Rattle.std.specs.declared.cmp.Ordering.{Ordering}
use Rattle.std.specs.declared.cmp.Ordering.TheVariants.{Equal}
use Rattle.idl_store.specs.Index.{IsGapAmong}
use Rattle.idl_store.specs.Numbers.{drafts_of}
use Rattle.idl_store.specs.Shelved.{Shelved}
use Rattle.idl_store.proofs.Changing.{stored-used}
use Rattle.idl_store.proofs.Obtaining.{again-found, again-grown, again-taken, all-stand, gap-stands, none-there}
use Rattle.idl_store.proofs.shelf.Shelf.take.Goals as goal

pub use_again-requires : goal.use_again-requires
use_again-requires g c =
    again-taken c.self.invariant.0 (λ one. g.P.Probe.stand c.args.probe.now one ≡ Equal) c.args.bucket c.in-Ok.number c.in-Ok.ensures.found

pub invariant_of-self-in-Ok : goal.invariant_of-self-in-Ok
invariant_of-self-in-Ok g c = (
  stored-used c.self.invariant.0 c.use_again.new.used c.use_again.result (c.in-Ok.number ∷ []) (drafts_of c.use_again.new.drafts.items) c.use_again.ensures.drafts c.use_again.ensures.uses c.use_again.ensures.err,
  omega (arith, c.self.invariant.1, c.use_again.ensures.count),
)

pub returns-in_ok-use_again-in-Ok-clause-found : goal.returns-in_ok-use_again-in-Ok-clause-found
returns-in_ok-use_again-in-Ok-clause-found g c =
    let stored = c.self.invariant.0 in
    let number = c.in-Ok.number in
    let again = c.in_ok-use_again-in-Ok.ensures in
    let one = c.in_ok-use_again-in-Ok.field-0 in
    let before = c.args.self.now.stored in
    let view = ap (λ s. s.stored) c.self.view_is in
    let is = again-found stored (λ one. g.P.Probe.stand c.args.probe.now one ≡ Equal) c.args.bucket number c.in-Ok.ensures.found one again.kept before view in
    (is.0, is.1, is.2, again-grown stored number one again.kept c.use_again.new.used (drafts_of c.use_again.new.drafts.items) before view again.drafts again.uses)

pub returns-in-Err-clause-none : goal.returns-in-Err-clause-none
returns-in-Err-clause-none g c = λ one sought.
    let stand = g.P.Probe.stand c.args.probe.now in
    let stored = c.self.invariant.0 in
    let gap = c.in-Err.ensures.gap one (all-stand stored stand (λ other. g.R.Ranked.rank other one) sought c.args.bucket) in
    none-there stored stand c.in-Err.gap c.args.bucket c.in-Err.ensures.bucket gap c.args.self.now.stored (ap (λ s. s.stored) c.self.view_is)

pub returns-in-Err-clause-gap : goal.returns-in-Err-clause-gap
returns-in-Err-clause-gap g c = λ one sought.
    let stand = g.P.Probe.stand c.args.probe.now in
    let order : g.row.R.Denot → Ordering = λ other. g.R.Ranked.rank other one in
    let stored = c.self.invariant.0 in
    let gap = c.in-Err.ensures.gap one (all-stand stored stand order sought c.args.bucket) in
    subst (λ (s : Shelved g.row.R.Denot). IsGapAmong order s.index c.in-Err.gap) c.self.view_is (gap-stands stored stand order sought c.in-Err.gap gap)
