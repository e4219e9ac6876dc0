use Rattle.std.proofs.Common.{◌≡◌, ◌+◌, suc, length, take, sym, ap, arith}
use Rattle.idl_env.specs.Turns.{bases_among}
use Rattle.idl_env.proofs.DeclaredLemmas.{bases-at}
use Rattle.std.proofs.lemmas.Grind.{common_steps}
use Rattle.idl_env.proofs.additions.facts.Facts.bases.Goals as goal

pub loop-index-preserved : goal.loop-index-preserved
loop-index-preserved c =
    let additions = c.args.self.now.additions in
    let index = c.loop-index.index in
    let more = bases-at additions index c.in-Some.addition.now (sym c.in-Some.ensures) in
    let next : index + 1 ≡ suc index = omega arith in
    let up_to = ap (λ j. length (bases_among (take j additions))) next in
    record {
      within = omega (arith, c.loop-index.invariant.within);
      bases = omega (arith, c.in_ok-bases.ensures.sum, c.loop-index.invariant.bases, ap length c.bases.ensures, more, up_to);
    }

pub returns : goal.returns
returns c = grind (arith, common_steps)

pub loop-index-init : goal.loop-index-init
loop-index-init c = grind (arith, common_steps)
