use Rattle.std.proofs.Common.{rules, ◌≡◌, ℕ, List, suc, ◌+◌, ◌-◌, ◌∷◌, ◌++◌, [], None, cond, sym, ap, ◌∙◌, take, refl, arith}
use Rattle.std.specs.Prelude.{fold, is_some}
use Rattle.idl_check.specs.tables.Using.{further_uses}
use Rattle.idl_check.proofs.UseLemmas.{is_none, own-none, take-none, uses-ended}
use Rattle.idl_env.specs.Facts.{UnitFacts, over, with_addition}
use Rattle.idl_env.specs.declared.additions.addition.Addition.TheVariants.{UsesFurther}
use Rattle.idl_env.specs.declared.keys.key.Key.{Key}
use Rattle.idl_lex.specs.kinds.Keywords.{folded}
use Rattle.idl_scope.specs.Meaning.{own_at, undeclared}
use Rattle.idl_check.proofs.tables.using.introduce_further.Goals as goal

pub loop-passed-preserved : goal.loop-passed-preserved
loop-passed-preserved c =
    let name = folded c.args.used.name.now.first in
    let count = c.args.used.reach.further in
    let bank = λ (k : Key). over c.args.own.now.additions k None in
    let at = c.loop-passed._passed in
    let scope = c.in-Some.scope.now in
    let outer = c.in-Some.outer.now in
    let own = c.loop-passed.own in
    let before = c.loop-passed.unless in
    let now = c.push.new.self in
    let rest = undeclared bank name (take (count - (at + 1)) outer) in
    let use_with = λ (unless : List (List (List ℕ))). UsesFurther name scope.path (record { body = scope.body; unless = unless }) in
    let here : c.loop-passed.rest.now ≡ scope ∷ outer = c.in-Some.ensures.some in
    let fewer : count - at ≡ suc (count - (at + 1)) = omega (arith, c.loop-passed-test.true) in
    let none : own_at bank name scope.path ≡ None =
    sym (c.loop-passed.invariant.declared scope.path) ∙ is_none (own_at (λ k. over own.additions k None) name scope.path) (ap (λ m. is_some (own_at (λ k. over own.additions k None) m scope.path)) (sym c.loop-passed.invariant.name) ∙ sym c.in_ok-declares.ensures ∙ c.if-branch.false) in
    let left : undeclared bank name (take (count - at) c.loop-passed.rest.now) ≡ scope ∷ rest =
    (λ i. undeclared bank name (take (fewer i) (here i))) ∙ ap (λ o. cond (is_some o) [] (scope ∷ rest)) none in
    let pushed : now ≡ before ++ scope.path ∷ [] = search rules in
    let added : c.add.new.self ≡ record own { additions = with_addition own.additions (use_with now) } = search rules in
    record {
      name = c.loop-passed.invariant.name;
      uses = ap (λ (f : UnitFacts). fold with_addition f.additions (further_uses name now rest)) added
          ∙ (λ i. fold with_addition (with_addition own.additions (use_with (pushed i))) (further_uses name (pushed i) rest))
          ∙ ap (λ ss. fold with_addition own.additions (further_uses name before ss)) (sym left)
          ∙ c.loop-passed.invariant.uses;
      declared = λ path.
          ap (λ (f : UnitFacts). own_at (λ k. over f.additions k None) name path) added
          ∙ own-none name (use_with now ∷ []) ((λ m q. refl), tt) own.additions path
          ∙ c.loop-passed.invariant.declared path;
      step = ap (λ (f : UnitFacts). f.step) added ∙ c.loop-passed.invariant.step;
    }

pub returns-then-branch : goal.returns-then-branch
returns-then-branch c =
    let name = folded c.args.used.name.now.first in
    let count = c.args.used.reach.further in
    let bank = λ (k : Key). over c.args.own.now.additions k None in
    let at = c.loop-passed._passed in
    let scope = c.in-Some.scope.now in
    let outer = c.in-Some.outer.now in
    let own = c.loop-passed.own in
    let here : c.loop-passed.rest.now ≡ scope ∷ outer = c.in-Some.ensures.some in
    let fewer : count - at ≡ suc (count - (at + 1)) = omega (arith, c.loop-passed-test.true) in
    let some = ap is_some (sym (c.loop-passed.invariant.declared scope.path))
    ∙ ap (λ m. is_some (own_at (λ k. over own.additions k None) m scope.path)) (sym c.loop-passed.invariant.name) ∙ sym c.in_ok-declares.ensures ∙ c.if-branch.true in
    let none : undeclared bank name (take (count - at) c.loop-passed.rest.now) ≡ [] =
    (λ i. undeclared bank name (take (fewer i) (here i))) ∙ ap (λ b. cond b [] (scope ∷ undeclared bank name (take (count - (at + 1)) outer))) some in
    let all = uses-ended bank name c.loop-passed.unless (take (count - at) c.loop-passed.rest.now) own.additions _ none c.loop-passed.invariant.uses in
    λ i. record own { additions = all i; step = c.loop-passed.invariant.step i }

pub returns-in_default : goal.returns-in_default
returns-in_default c =
    let name = folded c.args.used.name.now.first in
    let count = c.args.used.reach.further in
    let bank = λ (k : Key). over c.args.own.now.additions k None in
    let at = c.loop-passed._passed in
    let own = c.loop-passed.own in
    let none : undeclared bank name (take (count - at) c.loop-passed.rest.now) ≡ [] =
    ap (undeclared bank name) (ap (take (count - at)) (c.in_default.ensures.none refl) ∙ take-none (count - at)) in
    let all = uses-ended bank name c.loop-passed.unless (take (count - at) c.loop-passed.rest.now) own.additions _ none c.loop-passed.invariant.uses in
    λ i. record own { additions = all i; step = c.loop-passed.invariant.step i }

pub returns : goal.returns
returns c =
    let name = folded c.args.used.name.now.first in
    let count = c.args.used.reach.further in
    let bank = λ (k : Key). over c.args.own.now.additions k None in
    let own = c.loop-passed.own in
    let ended : count - c.loop-passed._passed ≡ 0 = omega (arith, c.loop-passed-test.false) in
    let none : undeclared bank name (take (count - c.loop-passed._passed) c.loop-passed.rest.now) ≡ [] = ap (λ k. undeclared bank name (take k c.loop-passed.rest.now)) ended in
    let all = uses-ended bank name c.loop-passed.unless (take (count - c.loop-passed._passed) c.loop-passed.rest.now) own.additions _ none c.loop-passed.invariant.uses in
    λ i. record own { additions = all i; step = c.loop-passed.invariant.step i }
