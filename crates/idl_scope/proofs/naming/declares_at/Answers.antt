use Rattle.std.proofs.Common.{◌≡◌, suc, ◌+◌, ◌-◌, ◌∷◌, sym, ◌∙◌, arith}
use Rattle.idl_scope.specs.Lookup.{declares_at}
use Rattle.idl_scope.proofs.naming.declares_at.Goals as goal

pub loop-passed-preserved : goal.loop-passed-preserved
loop-passed-preserved c =
    let inside = c.args.inside in
    let at = c.loop-passed._passed in
    let scope = c.in-Some._scope.now in
    let outer = c.in-Some.outer.now in
    let first = c.args.first.now in
    let here : c.loop-passed.rest.now ≡ scope ∷ outer = c.in-Some.ensures.some in
    let fewer : inside - at ≡ suc (inside - (at + 1)) = omega (arith, c.loop-passed-test.true) in
    record {
      within = omega (arith, c.loop-passed-test.true);
      rest = sym (λ i. declares_at (here i) (fewer i) first) ∙ c.loop-passed.invariant.rest;
    }
