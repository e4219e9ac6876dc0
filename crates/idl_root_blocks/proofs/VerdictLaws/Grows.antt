-- With others behind them facts count no fewer nameless scopes.
use Rattle.std.proofs.Common.{◌≤◌, ℕ, List, [], ◌∷◌, ◌++◌, arith, sym, subst}
use Rattle.idl_env.specs.Facts.{UnitFacts, World, after, after_all, after_closing, after_step, answers, closing, count_in, first_world, scopes_in, unstopped, with_additions, world}
use Rattle.idl_env.specs.declared.additions.addition.Step.{Step}
use Rattle.idl_env.specs.declared.additions.addition.Step.TheVariants.{Stays, Opens, OpensNameless, Closes, Prefixes, Enters, Leaves}
use Rattle.idl_env.specs.declared.answering.answer.Scope.{Scope}
use Rattle.idl_env.specs.declared.keys.key.Key.TheVariants.{Cursor, Nameless}
use Rattle.idl_check_laws.proofs.NamingLaws.{over_nameless}
use Rattle.idl_block.proofs.FactLaws.BeneathLaws.{after_all-append}

abbrev counted : World → ℕ
counted w = count_in (w.answers Nameless)

closing-grows : (w : World) (scopes : List Scope) → counted w ≤ counted (after_closing w scopes)
closing-grows w [] = omega arith
closing-grows w (s ∷ []) = omega arith
closing-grows w (s ∷ t ∷ outer) = subst (λ o. counted w ≤ count_in o) (sym (over_nameless (closing w s) (w.answers Nameless))) (omega arith)

step-grows : (w : World) (step : Step) → counted w ≤ counted (after_step w step)
step-grows w Stays = omega arith
step-grows w (Opens path kind) = omega arith
step-grows w (OpensNameless kind) = omega arith
step-grows w Closes = closing-grows w (scopes_in (w.answers Cursor))
step-grows w (Prefixes text) = omega arith
step-grows w Enters = omega arith
step-grows w Leaves = omega arith

after-grows : (w : World) (f : UnitFacts) → counted w ≤ counted (after w f)
after-grows w f =
    subst (λ o. count_in o ≤ counted (after w f)) (over_nameless (unstopped w.answers f.additions) (w.answers Nameless)) (step-grows (with_additions f.additions w) f.step)

all-grow : (w : World) (facts : List UnitFacts) → counted w ≤ counted (after_all w facts)
all-grow w [] = omega arith
all-grow w (f ∷ facts) =
    let first = after-grows w f in
    let rest = all-grow (after w f) facts in
    omega (arith, first, rest)

pub count-grow : (facts more : List UnitFacts) → count_in (answers facts Nameless) ≤ count_in (answers (facts ++ more) Nameless)
unfolding world
count-grow facts more =
    subst (λ (w : World). counted (after_all first_world facts) ≤ counted w) (sym (after_all-append first_world facts more)) (all-grow (after_all first_world facts) more)
