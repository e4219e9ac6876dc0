-- What is found stands at a spot.
use Rattle.std.proofs.Common.{◌≡◌, ◌∙◌, IfSome, Some, ap, subst, sym}
use Rattle.std.specs.declared.cmp.Ordering.TheVariants.{Equal}
use Rattle.idl_store.specs.Numbers.{numbers_of, times}
use Rattle.idl_store.specs.Spots.{result_on}
use Rattle.idl_store.specs.Stored.{results_in}
use Rattle.idl_store.proofs.Obtaining.{again-some, again-spot, again-taken, all-stand, none-there}
use Rattle.idl_store.proofs.shelf.Shelf.spot.Goals as goal

pub index-requires : goal.index-requires
index-requires g c = again-taken c.self.invariant.0 (λ one. g.P.Probe.stand c.args.probe.now one ≡ Equal) c.args.bucket c.in-Ok.number c.in-Ok.ensures.found

pub returns-in-Ok-clause-found : goal.returns-in-Ok-clause-found
returns-in-Ok-clause-found g c =
    let stand = g.P.Probe.stand c.args.probe.now in
    let number = c.in-Ok.number in
    let numbers : numbers_of c.deref.result.now c.deref-in-Ok.result.now ≡ numbers_of c.self.inside.lists.items c.self.inside.drafts.items = λ i. numbers_of (c.deref.ensures.value i) (c.deref-in-Ok.ensures.value i) in
    again-spot c.self.invariant.0 (λ one. stand one ≡ Equal) c.args.bucket number c.in-Ok.ensures.found c.spot_of.result c.args.self.now.stored (ap (λ s. s.stored) c.self.view_is)
    (subst (λ ns. IfSome c.spot_of.result (λ spot. result_on ns spot ≡ Some number)) numbers c.spot_of.ensures.found)

pub returns-in-Ok-clause-none : goal.returns-in-Ok-clause-none
returns-in-Ok-clause-none g c = λ one sought.
    let stand = g.P.Probe.stand c.args.probe.now in
    let number = c.in-Ok.number in
    let numbers : numbers_of c.deref.result.now c.deref-in-Ok.result.now ≡ numbers_of c.self.inside.lists.items c.self.inside.drafts.items = λ i. numbers_of (c.deref.ensures.value i) (c.deref-in-Ok.ensures.value i) in
    again-some c.self.invariant.0 (λ one. stand one ≡ Equal) c.args.bucket number c.in-Ok.ensures.found _ c.spot_of.result
    (λ none. ap (λ ns. times number (results_in ns)) (sym numbers) ∙ c.spot_of.ensures.none none)

pub returns-in-Err-clause-none : goal.returns-in-Err-clause-none
returns-in-Err-clause-none g c = λ one sought.
    let stand = g.P.Probe.stand c.args.probe.now in
    let stored = c.self.invariant.0 in
    let gap = c.in-Err.ensures.gap one (all-stand stored stand (λ other. g.R.Ranked.rank other one) sought c.args.bucket) in
    none-there stored stand _ c.args.bucket c.in-Err.ensures.bucket gap c.args.self.now.stored (ap (λ s. s.stored) c.self.view_is)
