-- Facts where others stand beneath.
use Rattle.std.specs.Prelude.{drop}
use Rattle.std.proofs.Common.{◌≡◌, ℕ, List, [], ◌∷◌, ◌++◌, Option, append-nil, append_assoc, refl, sym, ap, ◌∙◌}
use Rattle.idl_env.specs.Facts.{UnitFacts, World, after, after_all, after_closing, after_leaving, after_step, answers, first_world, more_inside, operations_among, scopes_in, with_additions, world}
use Rattle.idl_env.specs.declared.additions.addition.Addition.{Addition}
use Rattle.idl_env.specs.declared.additions.addition.Step.{Step}
use Rattle.idl_env.specs.declared.additions.addition.Step.TheVariants.{Stays, Opens, OpensNameless, Closes, Prefixes, Enters, Leaves}
use Rattle.idl_env.specs.declared.answering.answer.Answer.{Answer}
use Rattle.idl_env.specs.declared.answering.answer.Scope.{Scope}
use Rattle.idl_env.specs.declared.keys.key.Key.{Key}
use Rattle.idl_env.specs.declared.keys.key.Key.TheVariants.{Cursor}
use Rattle.idl_entity.specs.declared.identity.Prefix.{Prefix}
use Rattle.idl_block.specs.facts.Beneath.{AreTwo, IsThere, StayWithin, StaysWithin, answers_over, inside_onto, onto, start}

abbrev Paths : Type 0
Paths = List (List (List ℕ))

-- ---- additions

-- more of the innermost scope, on those of the scopes beneath
more-more : (beneath : List Paths) (own paths : Paths) → more_inside (more_inside beneath own) paths ≡ more_inside beneath (own ++ paths)
more-more [] own paths = refl
more-more (first ∷ outer) own paths = ap (λ ps. ps ∷ outer) (append_assoc first own paths)

more-onto : (inside beneath : List Paths) (paths : Paths) → IsThere inside → more_inside (inside_onto inside beneath) paths ≡ inside_onto (more_inside inside paths) beneath
more-onto [] beneath paths there = absurd there
more-onto (own ∷ []) beneath paths there = more-more beneath own paths
more-onto (own ∷ next ∷ outer) beneath paths there = refl

pub additions-onto : (w beneath : World) (additions : List Addition) → IsThere w.inside → with_additions additions (onto w beneath) ≡ onto (with_additions additions w) beneath
additions-onto w beneath additions there =
    let more = more-onto w.inside beneath.inside (operations_among additions) there in
    λ i. record (onto (with_additions additions w) beneath) { inside = more i }

there-more : (inside : List Paths) (paths : Paths) → IsThere inside → IsThere (more_inside inside paths)
there-more [] paths there = there
there-more (own ∷ outer) paths there = tt

two-more : (inside : List Paths) (paths : Paths) → AreTwo inside → AreTwo (more_inside inside paths)
two-more [] paths two = two
two-more (own ∷ outer) paths two = two

within-more : (w : World) (additions : List Addition) (step : Step) → StaysWithin w step → StaysWithin (with_additions additions w) step
within-more w additions Closes h = (two-more w.inside (operations_among additions) h.0, h.1)
within-more w additions Leaves h = h
within-more w additions other h = tt

-- ---- steps

module _ (beneath : World) (answers : Key → Option Answer) where
  abbrev with_these : List Paths → List Prefix → List Prefix → World
  with_these inside opened entered = record { answers = answers; inside = inside; before = record { opened = opened; entered = entered } }

  opening-onto : (inside : List Paths) → IsThere inside → [] ∷ inside_onto inside beneath.inside ≡ inside_onto ([] ∷ inside) beneath.inside
  opening-onto [] there = absurd there
  opening-onto (own ∷ outer) there = refl

  closing-onto : (inside : List Paths) (opened entered : List Prefix) (scopes : List Scope) → AreTwo inside → IsThere opened
      → after_closing (onto (with_these inside opened entered) beneath) scopes ≡ onto (after_closing (with_these inside opened entered) scopes) beneath
  closing-onto inside opened entered [] two there = refl
  closing-onto inside opened entered (s ∷ []) two there = refl
  closing-onto [] opened entered (s ∷ t ∷ outer) two there = absurd two
  closing-onto (own ∷ []) opened entered (s ∷ t ∷ outer) two there = absurd two
  closing-onto (own ∷ next ∷ inside) [] entered (s ∷ t ∷ outer) two there = absurd there
  closing-onto (own ∷ next ∷ inside) (prefix ∷ opened) entered (s ∷ t ∷ outer) two there = refl

  leaving-onto : (inside : List Paths) (opened entered : List Prefix) → IsThere entered
      → after_leaving (onto (with_these inside opened entered) beneath) ≡ onto (after_leaving (with_these inside opened entered)) beneath
  leaving-onto inside opened [] there = absurd there
  leaving-onto inside opened (prefix ∷ entered) there = refl

step-onto : (w beneath : World) (step : Step) → IsThere w.inside → StaysWithin w step → after_step (onto w beneath) step ≡ onto (after_step w step) beneath
step-onto w beneath Stays there within = refl
step-onto w beneath (Opens path kind) there within =
    let more = opening-onto beneath w.answers w.inside there in
    λ i. record (onto (after_step w (Opens path kind)) beneath) { inside = more i }
step-onto w beneath (OpensNameless kind) there within =
    let more = opening-onto beneath w.answers w.inside there in
    λ i. record (onto (after_step w (OpensNameless kind)) beneath) { inside = more i }
step-onto w beneath Closes there within =
    closing-onto beneath w.answers w.inside w.before.opened w.before.entered (scopes_in (w.answers Cursor)) within.0 within.1
step-onto w beneath (Prefixes text) there within = refl
step-onto w beneath Enters there within = refl
step-onto w beneath Leaves there within = leaving-onto beneath w.answers w.inside w.before.opened w.before.entered within

-- ---- what a unit adds

pub after-onto : (w beneath : World) (f : UnitFacts) → IsThere w.inside → StaysWithin w f.step → after (onto w beneath) f ≡ onto (after w f) beneath
after-onto w beneath f there within =
    ap (λ v. after_step v f.step) (additions-onto w beneath f.additions there)
    ∙ step-onto (with_additions f.additions w) beneath f.step (there-more w.inside (operations_among f.additions) there) (within-more w f.additions f.step within)

there-closing : (w : World) (scopes : List Scope) → AreTwo w.inside → IsThere (after_closing w scopes).inside
there-closing w [] two = first w.inside two
  where
    first : (inside : List Paths) → AreTwo inside → IsThere inside
    first [] two = two
    first (own ∷ outer) two = tt
there-closing w (s ∷ []) two = first w.inside two
  where
    first : (inside : List Paths) → AreTwo inside → IsThere inside
    first [] two = two
    first (own ∷ outer) two = tt
there-closing w (s ∷ t ∷ outer) two = next w.inside two
  where
    next : (inside : List Paths) → AreTwo inside → IsThere (drop 1 inside)
    next [] two = two
    next (own ∷ outer) two = two

there-step : (w : World) (step : Step) → IsThere w.inside → StaysWithin w step → IsThere (after_step w step).inside
there-step w Stays there within = there
there-step w (Opens path kind) there within = tt
there-step w (OpensNameless kind) there within = tt
there-step w Closes there within = there-closing w (scopes_in (w.answers Cursor)) within.0
there-step w (Prefixes text) there within = there
there-step w Enters there within = there
there-step w Leaves there within = there

pub there-after : (w : World) (f : UnitFacts) → IsThere w.inside → StaysWithin w f.step → IsThere (after w f).inside
there-after w f there within =
    there-step (with_additions f.additions w) f.step (there-more w.inside (operations_among f.additions) there) (within-more w f.additions f.step within)

pub all-onto : (w beneath : World) (facts : List UnitFacts) → IsThere w.inside → StayWithin w facts → after_all (onto w beneath) facts ≡ onto (after_all w facts) beneath
all-onto w beneath [] there within = refl
all-onto w beneath (f ∷ facts) there within =
    ap (λ v. after_all v facts) (after-onto w beneath f there within.0)
    ∙ all-onto (after w f) beneath facts (there-after w f there within.0) within.1

-- ---- the world before

pub after_all-append : (w : World) (facts more : List UnitFacts) → after_all w (facts ++ more) ≡ after_all (after_all w facts) more
after_all-append w [] more = refl
after_all-append w (f ∷ facts) more = after_all-append (after w f) facts more

nothing-more : (inside : List Paths) → more_inside inside [] ≡ inside
nothing-more [] = refl
nothing-more (own ∷ outer) = ap (λ ps. ps ∷ outer) (append-nil own)

-- a world is its answers alone, on it
pub start-onto : (w : World) → onto (start w.answers) w ≡ w
start-onto w = let same = nothing-more w.inside in λ i. record w { inside = same i }

pub answers-append : (before facts : List UnitFacts) → StayWithin (start (answers before)) facts → answers (before ++ facts) ≡ answers_over facts (answers before)
unfolding world
answers-append before facts within =
    let w : World = world before in
    ap (λ (v : World). v.answers) (after_all-append first_world before facts)
    ∙ ap (λ v. (after_all v facts).answers) (sym (start-onto w))
    ∙ ap (λ (v : World). v.answers) (all-onto (start w.answers) w facts tt within)
