use Rattle.std.proofs.Common.{rules, ◌≡◌, suc, ◌+◌, ◌-◌, ◌∷◌, sym, ap, ◌∙◌, map, take, arith}
use Rattle.std.specs.Prelude.{fold}
use Rattle.idl_env.specs.Facts.{UnitFacts, with_addition}
use Rattle.idl_env.specs.declared.additions.addition.Addition.TheVariants.{Uses}
use Rattle.idl_env.specs.declared.answering.answer.Scope.{Scope}
use Rattle.idl_check.proofs.UseLemmas.{drop-next}
use Rattle.idl_check.proofs.tables.using.introduce_certain.Goals as goal

pub loop-reached-preserved : goal.loop-reached-preserved
loop-reached-preserved c =
    let name = c.args.name.now in
    let count = c.args.count in
    let at = c.loop-reached._reached in
    let scope = c.in-Some.scope.now in
    let outer = c.in-Some.outer.now in
    let own = c.loop-reached.own in
    let use_in = λ (s : Scope). Uses name s.path s.body in
    let here : c.loop-reached.rest.now ≡ scope ∷ outer = c.in-Some.ensures.some in
    let fewer : count - at ≡ suc (count - (at + 1)) = omega (arith, c.loop-reached-test.true) in
    let left : take (count - at) c.loop-reached.rest.now ≡ scope ∷ take (count - (at + 1)) outer = λ i. take (fewer i) (here i) in
    let added : c.add.new.self ≡ record own { additions = with_addition own.additions (Uses name scope.path scope.body) } = search rules in
    record {
      left = drop-next c.args.scopes.now at scope outer (sym (c.loop-reached.invariant.left) ∙ here);
      uses = ap (λ (f : UnitFacts). fold with_addition f.additions (map use_in (take (count - (at + 1)) outer))) added
          ∙ ap (λ scopes. fold with_addition own.additions (map use_in scopes)) (sym left)
          ∙ c.loop-reached.invariant.uses;
      step = ap (λ (f : UnitFacts). f.step) added ∙ c.loop-reached.invariant.step;
    }
