-- A scope is open behind any facts: the global one is never closed.
use Rattle.std.proofs.Common.{List, [], ◌∷◌, sym, ap, ◌∙◌}
use Rattle.std.specs.Prelude.{◌≢◌}
use Rattle.idl_env.specs.Facts.{UnitFacts, World, after, after_all, after_closing, after_step, answers, first_world, scopes_in, unstopped, with_additions, world}
use Rattle.idl_env.specs.declared.additions.addition.Step.{Step}
use Rattle.idl_env.specs.declared.additions.addition.Step.TheVariants.{Stays, Opens, OpensNameless, Closes, Prefixes, Enters, Leaves}
use Rattle.idl_env.specs.declared.answering.answer.Scope.{Scope}
use Rattle.idl_env.specs.declared.keys.key.Key.TheVariants.{Cursor}
use Rattle.idl_block.proofs.FactLaws.BalanceLaws.{over_cursor}

abbrev IsOpen : World → Type 0
IsOpen w = scopes_in (w.answers Cursor) ≢ []

closing-open : (w : World) (scopes : List Scope) → IsOpen w → IsOpen (after_closing w scopes)
closing-open w [] some = some
closing-open w (s ∷ []) some = some
closing-open w (s ∷ t ∷ outer) some = λ none. cc

step-open : (w : World) (step : Step) → IsOpen w → IsOpen (after_step w step)
step-open w Stays some = some
step-open w (Opens path kind) some = λ none. cc
step-open w (OpensNameless kind) some = λ none. cc
step-open w Closes some = closing-open w (scopes_in (w.answers Cursor)) some
step-open w (Prefixes text) some = some
step-open w Enters some = some
step-open w Leaves some = some

all-open : (facts : List UnitFacts) (w : World) → IsOpen w → IsOpen (after_all w facts)
all-open [] w some = some
all-open (f ∷ facts) w some =
    let more : IsOpen (with_additions f.additions w) = λ none. some (ap scopes_in (sym (over_cursor (unstopped w.answers f.additions) (w.answers Cursor))) ∙ none) in
    all-open facts (after w f) (step-open (with_additions f.additions w) f.step more)

pub facts-open : (facts : List UnitFacts) → scopes_in (answers facts Cursor) ≢ []
unfolding world
facts-open facts = all-open facts first_world (λ none. cc)
