-- Facts that are told, with more of them behind, and the turns that they need.
use Rattle.std.proofs.Common.{◌≡◌, ◌≤◌, ◌+◌, ◌-◌, ◌⊎◌, ◌∙◌, ℕ, List, [], ◌∷◌, ◌++◌, Option, append_assoc, arith, length-append, refl, sym, ap, subst, inl, inr}
use Rattle.idl_check.specs.walk.Verdict.{verdict}
use Rattle.idl_check_laws.specs.Closing.{AreTold, IsTold}
use Rattle.idl_env.specs.Facts.{UnitFacts, answers}
use Rattle.idl_env.specs.Turns.{bases_among, bases_named, declared_among, declared_named, most_turns, turns_for}
use Rattle.idl_env.specs.declared.answering.answer.Answer.{Answer}
use Rattle.idl_env.specs.declared.keys.key.Key.{Key}
use Rattle.idl_env.specs.keys.Key.{key_eq}
use Rattle.idl_memo.specs.Query.{outcome, run}
use Rattle.idl_unit.specs.declared.unit.UnitText.{UnitText}

-- what stands somewhere among these and one more is the last, or stands there without it
last-or-before : (xs : List UnitFacts) (x : UnitFacts) (front : List UnitFacts) (g : UnitFacts) (back : List UnitFacts) → xs ++ x ∷ [] ≡ front ++ g ∷ back
    → ((xs ≡ front) × (x ≡ g)) ⊎ ((rest : List UnitFacts) × (xs ≡ front ++ g ∷ rest))
last-or-before [] x [] g back h = inl (refl, cc)
last-or-before [] x (f ∷ []) g back h = cc
last-or-before [] x (f ∷ e ∷ front) g back h = cc
last-or-before (y ∷ xs) x [] g back h =
    let same : y ≡ g = cc in
    inr (xs, ap (λ z. z ∷ xs) same)
last-or-before (y ∷ xs) x (f ∷ front) g back h =
    let same : y ≡ f = cc in
    let behind : xs ++ x ∷ [] ≡ front ++ g ∷ back = cc in
    elim (last-or-before xs x front g back behind) [
      | inl is ↦ inl (ap (λ z. z ∷ xs) same ∙ ap (λ zs. f ∷ zs) is.0, is.1)
      | inr is ↦ inr (is.0, ap (λ z. z ∷ xs) same ∙ ap (λ zs. f ∷ zs) is.1)
    ]

-- no facts are told
pub told-nothing : AreTold []
told-nothing [] g back h = cc
told-nothing (f ∷ front) g back h = cc

-- with one more
pub told-more : (facts : List UnitFacts) (f : UnitFacts) → AreTold facts → IsTold facts f → AreTold (facts ++ f ∷ [])
told-more facts f h t front g back is = elim (last-or-before facts f front g back is) [
  | inl last ↦ subst (λ fs. IsTold fs g) last.0 (subst (IsTold facts) last.1 t)
  | inr before ↦ h front g before.0 before.1
]

-- the first of them
pub told-front : (facts front back : List UnitFacts) → facts ≡ front ++ back → AreTold facts → AreTold front
told-front facts front back is told head f rest at =
    told head f (rest ++ back) (is ∙ ap (λ fs. fs ++ back) at ∙ append_assoc head (f ∷ rest) back)

-- facts need no fewer turns with others behind them
pub turns-grow : (facts more : List UnitFacts) → turns_for facts ≤ turns_for (facts ++ more)
turns-grow [] more = omega arith
turns-grow (f ∷ facts) more =
    let b = length-append (bases_among f.additions) (bases_named facts) in
    let c = length-append (bases_among f.additions) (bases_named (facts ++ more)) in
    let d = length-append (declared_among f.additions) (declared_named facts) in
    let e = length-append (declared_among f.additions) (declared_named (facts ++ more)) in
    let rest = turns-grow facts more in
    omega (arith, b, c, d, e, rest)

-- as many turns as facts need are enough
abbrev pub MoreTurns : Type 0
MoreTurns = (facts : List UnitFacts) (turns more : ℕ) (text : UnitText) (log : List (Key × Option Answer)) → turns_for facts ≤ turns
    → run key_eq (verdict (turns + more) text) (answers facts) log ≡ run key_eq (verdict turns text) (answers facts) log

-- so a verdict is that with as many
pub said-alike : MoreTurns → (facts : List UnitFacts) (text : UnitText) → turns_for facts ≤ most_turns
    → outcome (verdict most_turns text) (answers facts) ≡ outcome (verdict (turns_for facts) text) (answers facts)
said-alike more facts text enough =
    let rest = most_turns - turns_for facts in
    let whole : turns_for facts + rest ≡ most_turns = omega (arith, enough) in
    ap (λ t. outcome (verdict t text) (answers facts)) (sym whole) ∙ ap (λ p. p.0) (more facts (turns_for facts) rest text [] (omega arith))
