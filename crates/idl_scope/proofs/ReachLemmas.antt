-- How far a use goes, by where the scopes end into which it may go.
use Rattle.std.proofs.Common.{◌≡◌, ℕ, suc, ◌+◌, ◌-◌, ◌<◌, ◌≤◌, min, Bool, true, false, List, ap, ◌∙◌, arith}
use Rattle.idl_scope.specs.Lookup.{declares_at, extent, reach, reach_by}
use Rattle.idl_env.specs.declared.answering.answer.Scope.{Scope}
use Rattle.idl_entity.specs.declared.entity.Entity.{Entity}
use Rattle.idl_scope.specs.declared.found.Reach.{Reach}

parts : (r s : Reach) → r.certain ≡ s.certain → r.further ≡ s.further → r ≡ s
parts r s h g = λ i. record { certain = h i; further = g i }

-- into all of them, where these are inside the deciding scope
pub reach_past : (scopes : List Scope) (inside : ℕ) (e : Entity) → extent scopes ≤ inside → reach scopes inside e ≡ record { certain = extent scopes; further = 0 }
reach_past scopes inside e past = by (declares_at scopes inside e)
  where
    by : (b : Bool) → reach_by b inside (extent scopes) ≡ record { certain = extent scopes; further = 0 }
    by true = parts _ _ (omega (arith, past)) (omega arith)
    by false = parts _ _ (omega (arith, past)) (omega (arith, past))

-- into those inside the deciding scope, where that itself declares the name
pub reach_up_to : (scopes : List Scope) (inside : ℕ) (e : Entity) → inside < extent scopes → declares_at scopes inside e ≡ true → reach scopes inside e ≡ record { certain = inside; further = 0 }
reach_up_to scopes inside e within own =
    ap (λ b. reach_by b inside (extent scopes)) own ∙ parts _ _ (omega (arith, within)) (omega arith)

-- and else into that too, and on
pub reach_on : (scopes : List Scope) (inside : ℕ) (e : Entity) → inside < extent scopes → declares_at scopes inside e ≡ false
    → reach scopes inside e ≡ record { certain = inside + 1; further = extent scopes - (inside + 1) }
reach_on scopes inside e within other =
    ap (λ b. reach_by b inside (extent scopes)) other ∙ parts _ _ (omega (arith, within)) (omega (arith, within))
