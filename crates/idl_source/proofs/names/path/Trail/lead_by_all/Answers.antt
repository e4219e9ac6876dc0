use Rattle.std.proofs.Common.{◌≡◌, ◌∷◌, ◌++◌, ◌<◌, ◌∙◌, ℕ, List, Option, None, Some, Bor, MatchOption, false, eqb, ap, sym, subst, length, arith, length-append}
use Rattle.std.specs.List.{All}
use Rattle.idl_source.specs.names.Name.{segments}
use Rattle.idl_source.specs.names.Path.{Path, led_by, led_by_all, slashed}
use Rattle.idl_source.proofs.PathLemmas.{led_by_all-last, led_by_all-longer, led_by_all-one}
use Rattle.idl_source.proofs.names.path.Trail.lead_by_all.Goals as goal

-- what is too long after the last segment is too long after all of them
longer : (left : List ℕ) (before : Option (Bor (List ℕ))) (last : List ℕ) (path : Path) → All (λ b. eqb b 47 ≡ false) last → MatchOption before (last ≡ left) (λ b. left ≡ b.now ++ 47 ∷ last)
    → 256 < length (slashed (led_by last path).down) → 256 < length (slashed (led_by_all (segments left) path).down)
longer left None last path none whole long = subst (λ (p : Path). 256 < length (slashed p.down)) (sym (led_by_all-one last path none) ∙ ap (λ (l : List ℕ). led_by_all (segments l) path) whole) long
longer left (Some before) last path none whole long =
    let all : 256 < length (slashed (led_by_all (segments before.now) (led_by last path)).down) = omega (arith, led_by_all-longer (segments before.now) (led_by last path)) in
    subst (λ (p : Path). 256 < length (slashed p.down)) (sym (led_by_all-last before.now last path none) ∙ ap (λ (l : List ℕ). led_by_all (segments l) path) (sym whole)) all

pub returns-in_err-lead_by-clause-none : goal.returns-in_err-lead_by-clause-none
returns-in_err-lead_by-clause-none c =
    rw c.from_residual.ensures (subst (λ (p : Path). 256 < length (slashed p.down)) c.segments.invariant.whole (longer c.segments.left.now c.last_part.result.0 c.last_part.result.1.now c.segments.self c.last_part.ensures.last c.last_part.ensures.whole c.in_err-lead_by.ensures.none))

pub segments-preserved : goal.segments-preserved
segments-preserved c =
    let left : c.segments.left.now ≡ c.in-Some.before.now ++ 47 ∷ c.last_part.result.1.now = rw c.in-Some.is at c.last_part.ensures.whole in
    let led : c.lead_by.new.self ≡ led_by c.last_part.result.1.now c.segments.self = c.in_ok-lead_by.ensures.some in
    record {
      whole = ap (led_by_all (segments c.in-Some.before.now)) led
          ∙ sym (led_by_all-last c.in-Some.before.now c.last_part.result.1.now c.segments.self c.last_part.ensures.last)
          ∙ ap (λ (l : List ℕ). led_by_all (segments l) c.segments.self) (sym left)
          ∙ c.segments.invariant.whole;
      room = omega (arith, ap length left, length-append c.in-Some.before.now (47 ∷ c.last_part.result.1.now), c.lead_by.ensures.bound, c.segments.invariant.room);
    }

pub returns-in-None-clause-some : goal.returns-in-None-clause-some
returns-in-None-clause-some c =
    let left : c.last_part.result.1.now ≡ c.segments.left.now = rw c.in-None.is at c.last_part.ensures.whole in
    let led : c.lead_by.new.self ≡ led_by c.last_part.result.1.now c.segments.self = c.in_ok-lead_by.ensures.some in
    led
    ∙ sym (led_by_all-one c.last_part.result.1.now c.segments.self c.last_part.ensures.last)
    ∙ ap (λ (l : List ℕ). led_by_all (segments l) c.segments.self) left
    ∙ c.segments.invariant.whole
