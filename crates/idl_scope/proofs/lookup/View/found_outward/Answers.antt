use Rattle.std.proofs.Common.{◌≡◌, ◌+◌, ◌∷◌, [], length, sym, ap, refl, ◌∙◌, true, false, arith}
use Rattle.std.proofs.lemmas.List.{nil_from_length}
use Rattle.idl_env.specs.Facts.{answers}
use Rattle.idl_scope.specs.Finds.{those}
use Rattle.idl_scope.specs.Lookup.{decided, is_nothing}
use Rattle.idl_scope.proofs.LookupLaws.RunLemmas.{decided_found, decided_on, runs}
use Rattle.idl_scope.proofs.lookup.View.found_outward.Goals as goal

pub returns-then-not-is_nothing : goal.returns-then-not-is_nothing
returns-then-not-is_nothing c turns more =
    let own = c.args.self.own.now.additions in
    let bank = answers c.args.self.env.now in
    let inside = c.loop-inside.inside in
    let scope = c.in-Some.scope.now in
    let outer = c.in-Some.outer.now in
    let here : c.loop-inside.rest.now ≡ scope ∷ outer = c.in-Some.ensures.some in
    let some : is_nothing (those c.in_ok-found.found) ≡ false = sym c.is_nothing.ensures ∙ c.if-not-is_nothing.true in
    sym (decided_found own bank turns inside scope outer c.args.name.now c.loop-inside.log _ _ (c.in_ok-found.ensures turns more) some)
    ∙ ap (λ rest. runs own bank (decided turns inside rest c.args.name.now) c.loop-inside.log) (sym here) ∙ c.loop-inside.invariant.run turns more

pub loop-inside-preserved : goal.loop-inside-preserved
loop-inside-preserved c =
    let own = c.args.self.own.now.additions in
    let bank = answers c.args.self.env.now in
    let inside = c.loop-inside.inside in
    let scope = c.in-Some.scope.now in
    let outer = c.in-Some.outer.now in
    let here : c.loop-inside.rest.now ≡ scope ∷ outer = c.in-Some.ensures.some in
    let none : is_nothing (those c.in_ok-found.found) ≡ true = sym c.is_nothing.ensures ∙ c.if-not-is_nothing.false in
    record {
      passed = omega (arith, c.loop-inside.invariant.passed, ap length here);
      run = λ turns more.
          sym (decided_on own bank turns inside scope outer c.args.name.now c.loop-inside.log _ _ (c.in_ok-found.ensures turns more) none)
          ∙ ap (λ rest. runs own bank (decided turns inside rest c.args.name.now) c.loop-inside.log) (sym here) ∙ c.loop-inside.invariant.run turns more;
    }

pub returns-in_default : goal.returns-in_default
returns-in_default c turns more =
    let own = c.args.self.own.now.additions in
    let bank = answers c.args.self.env.now in
    let name = c.args.name.now in
    let inside = c.loop-inside.inside in
    let ended : c.loop-inside.rest.now ≡ [] = c.in_default.ensures.none refl in
    let none : those c.own.result ≡ [] = c.own.ensures in
    (λ i. ((none i, 0), c.loop-inside.log))
    ∙ ap (λ rest. runs own bank (decided turns inside rest name) c.loop-inside.log) (sym ended) ∙ c.loop-inside.invariant.run turns more

pub returns : goal.returns
returns c turns more =
    let own = c.args.self.own.now.additions in
    let bank = answers c.args.self.env.now in
    let name = c.args.name.now in
    let inside = c.loop-inside.inside in
    let ended : c.loop-inside.rest.now ≡ [] = nil_from_length c.loop-inside.rest.now (omega (arith, c.loop-inside.invariant.passed, c.loop-inside-test.false, c.len-inside-end.ensures)) in
    let none : those c.own-2.result ≡ [] = c.own-2.ensures in
    (λ i. ((none i, 0), c.loop-inside.log))
    ∙ ap (λ rest. runs own bank (decided turns inside rest name) c.loop-inside.log) (sym ended) ∙ c.loop-inside.invariant.run turns more
