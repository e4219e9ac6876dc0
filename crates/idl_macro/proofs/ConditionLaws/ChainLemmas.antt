-- An operator that the next one does not outrank, nor the one before it, may be replaced by its value at once.
use Rattle.std.proofs.Common.{◌≡◌, ◌≢◌, ℕ, zero, suc, ◌<◌, ◌≤◌, inl, inr, nat_eq, false, if◌then◌else◌, [], ◌∷◌, ◌++◌, refl, sym, ◌∙◌, ap, arith}
use Rattle.std.proofs.lemmas.Bool.{cases_lt, eq-eqb}
use Rattle.std.proofs.lemmas.Bool.Decides.{eqb_tells}
use Rattle.idl_macro.specs.conditions.Arithmetic.{Value}
use Rattle.idl_macro.specs.conditions.Operator.{rank, highest_rank, application}
use Rattle.idl_macro.specs.conditions.Condition.{Chain, merged, levels, resolved}
use Rattle.idl_macro.specs.conditions.Waiting.{IsBelow}
use Rattle.idl_macro.specs.declared.conditions.operator.Operator.{Operator}

nat_eq-unequal : (a b : ℕ) → a ≢ b → nat_eq a b ≡ false
nat_eq-unequal a b ne = elim (eqb_tells a b) [ inl h ↦ absurd (ne h.1) | inr h ↦ h.0 ]

-- a merge at an operator of its rank, and at one of another
pub merged-here : (r : ℕ) (a : Value) (o : Operator) (v : Value) (ps : Chain) → rank o ≡ r → merged r a ((o, v) ∷ ps) ≡ merged r (application o a v) ps
merged-here r a o v ps e =
    ap (λ b. if b then merged r (application o a v) ps else (a, (o, (merged r v ps).0) ∷ (merged r v ps).1)) (eq-eqb (rank o) r e)

pub merged-past : (r : ℕ) (a : Value) (o : Operator) (v : Value) (ps : Chain) → rank o ≢ r → merged r a ((o, v) ∷ ps) ≡ (a, (o, (merged r v ps).0) ∷ (merged r v ps).1)
merged-past r a o v ps ne =
    ap (λ b. if b then merged r (application o a v) ps else (a, (o, (merged r v ps).0) ∷ (merged r v ps).1)) (nat_eq-unequal (rank o) r ne)

-- what a merge makes of a chain whose first operator is of another rank, whatever stands before it
abbrev merged_later : ℕ → Chain → Chain
merged_later r [] = []
merged_later r (p ∷ ps) = (p.0, (merged r p.1 ps).0) ∷ (merged r p.1 ps).1

merged-below : (r s : ℕ) (a : Value) (ps : Chain) → IsBelow ps s → s < r → merged r a ps ≡ (a, merged_later r ps)
merged-below r s a [] below lt = refl
merged-below r s a ((o, v) ∷ ps) below lt = merged-past r a o v ps (omega arith)

IsBelow-merged_later : (r s : ℕ) (ps : Chain) → IsBelow ps s → IsBelow (merged_later r ps) s
IsBelow-merged_later r s [] below = below
IsBelow-merged_later r s (p ∷ ps) below = below

-- what stands before an operator of another rank is merged by itself
merged-append : (r : ℕ) (x : Value) (front : Chain) (q : Operator) (a : Value) (ps : Chain) → rank q ≢ r →
    merged r x (front ++ (q, a) ∷ ps) ≡ ((merged r x front).0, (merged r x front).1 ++ (q, (merged r a ps).0) ∷ (merged r a ps).1)
merged-append r x [] q a ps ne = merged-past r x q a ps ne
merged-append r x ((o, v) ∷ front) q a ps ne =
    elim (eqb_tells (rank o) r) [
      | inl h ↦ merged-here r x o v (front ++ (q, a) ∷ ps) h.1 ∙ merged-append r (application o x v) front q a ps ne
          ∙ ap (λ m. (m.0, m.1 ++ (q, (merged r a ps).0) ∷ (merged r a ps).1)) (sym (merged-here r x o v front h.1))
      | inr h ↦ merged-past r x o v (front ++ (q, a) ∷ ps) h.1
          ∙ ap (λ m. (x, (o, m.0) ∷ m.1)) (merged-append r v front q a ps ne)
          ∙ ap (λ m. (m.0, m.1 ++ (q, (merged r a ps).0) ∷ (merged r a ps).1)) (sym (merged-past r x o v front h.1))
    ]

-- an operator that stands first
levels-first : (r : ℕ) (a : Value) (o : Operator) (v : Value) (ps : Chain) → 1 ≤ rank o → rank o ≤ r → IsBelow ps (rank o) →
    levels r (a, (o, v) ∷ ps) ≡ levels r (application o a v, ps)
levels-first zero a o v ps low high below = absurd (omega arith)
levels-first (suc r) a o v ps low high below =
    elim (cases_lt (rank o) (suc r)) [
      | inl lt ↦ ap (levels r) (merged-past (suc r) a o v ps (omega arith))
          ∙ ap (λ m. levels r (a, (o, m.0) ∷ m.1)) (merged-below (suc r) (rank o) v ps below lt)
          ∙ levels-first r a o v (merged_later (suc r) ps) low (omega arith) (IsBelow-merged_later (suc r) (rank o) ps below)
          ∙ ap (levels r) (sym (merged-below (suc r) (rank o) (application o a v) ps below lt))
      | inr ge ↦ ap (levels r) (merged-here (suc r) a o v ps (omega arith))
    ]

-- an operator behind one of a lower rank
levels-behind : (r : ℕ) (x : Value) (front : Chain) (q : Operator) (a : Value) (o : Operator) (v : Value) (ps : Chain) → rank q < rank o → rank o ≤ r → IsBelow ps (rank o) →
    levels r (x, front ++ (q, a) ∷ (o, v) ∷ ps) ≡ levels r (x, front ++ (q, application o a v) ∷ ps)
levels-behind zero x front q a o v ps lower high below = absurd (omega arith)
levels-behind (suc r) x front q a o v ps lower high below =
    let f = merged (suc r) x front in
    let b = application o a v in
    elim (cases_lt (rank o) (suc r)) [
      | inl lt ↦ ap (levels r) (merged-append (suc r) x front q a ((o, v) ∷ ps) (omega arith))
          ∙ ap (λ m. levels r (f.0, f.1 ++ (q, m.0) ∷ m.1)) (merged-past (suc r) a o v ps (omega arith))
          ∙ ap (λ m. levels r (f.0, f.1 ++ (q, a) ∷ (o, m.0) ∷ m.1)) (merged-below (suc r) (rank o) v ps below lt)
          ∙ levels-behind r f.0 f.1 q a o v (merged_later (suc r) ps) lower (omega arith) (IsBelow-merged_later (suc r) (rank o) ps below)
          ∙ ap (λ m. levels r (f.0, f.1 ++ (q, m.0) ∷ m.1)) (sym (merged-below (suc r) (rank o) b ps below lt))
          ∙ ap (levels r) (sym (merged-append (suc r) x front q b ps (omega arith)))
      | inr ge ↦ ap (levels r) (merged-append (suc r) x front q a ((o, v) ∷ ps) (omega arith))
          ∙ ap (λ m. levels r (f.0, f.1 ++ (q, m.0) ∷ m.1)) (merged-here (suc r) a o v ps (omega arith))
          ∙ ap (levels r) (sym (merged-append (suc r) x front q b ps (omega arith)))
    ]

-- the operator has one of the ranks
pub record HasRank (o : Operator) : Type 0 where
  pub low : 1 ≤ rank o
  pub high : rank o ≤ highest_rank

pub resolved-first : (a : Value) (o : Operator) (v : Value) (ps : Chain) → HasRank o → IsBelow ps (rank o) → resolved a ((o, v) ∷ ps) ≡ resolved (application o a v) ps
unfolding resolved
resolved-first a o v ps ranked below = ap (λ m. m.0) (levels-first highest_rank a o v ps ranked.low ranked.high below)

pub resolved-behind : (x : Value) (front : Chain) (q : Operator) (a : Value) (o : Operator) (v : Value) (ps : Chain) → HasRank o → rank q < rank o → IsBelow ps (rank o) →
    resolved x (front ++ (q, a) ∷ (o, v) ∷ ps) ≡ resolved x (front ++ (q, application o a v) ∷ ps)
unfolding resolved
resolved-behind x front q a o v ps ranked lower below = ap (λ m. m.0) (levels-behind highest_rank x front q a o v ps lower ranked.high below)
