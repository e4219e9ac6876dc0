-- The faults of an expression: the first is the least, and the walk tells it at its token.
use Rattle.std.proofs.Common.{◌≡◌, ◌∙◌, ℕ, ◌+◌, ◌^◌, ◌<◌, ◌≤◌, cond, List, [], ◌∷◌, length, map, Option, None, Some, refl, sym, ap, arith}
use Rattle.std.proofs.Common.{zero, suc}
use Rattle.std.proofs.lemmas.List.Elements.{All-cons, All-map, All-nil, All-weaker}
use Rattle.std.specs.Prelude.{All, pos, negsuc}
use Rattle.idl_check.specs.walk.AllFaults.{evaluation_faults, first_token, placed_at}
use Rattle.idl_check.specs.told.Values.{code_of, evaluation_for, evaluation_in}
use Rattle.idl_check.specs.walk.Walk.{Walk, begin_of, is_repeated, noted, token_of, value_visit}
use Rattle.idl_fault.specs.declared.code.Code.TheVariants.{RepeatedLabel}
use Rattle.idl_parts.proofs.ExpressionSpelling.{expression_spells-parts}
use Rattle.idl_parts.proofs.UnitSpelling.{counted}
use Rattle.idl_parts.specs.ExpressionParts.{expression_parts}
use Rattle.idl_parts.specs.Item.{items, items_length}
use Rattle.idl_parts.specs.declared.part.Purpose.{Purpose}
use Rattle.idl_parts.specs.declared.part.Purpose.TheVariants as purpose
use Rattle.idl_tree.specs.Expression.{spell_expression}
use Rattle.idl_tree.specs.declared.expression.Expression.{Expression}
use Rattle.idl_unit.specs.TokenRules.{fault_at}
use Rattle.idl_value.proofs.OrderLemmas.{value-ascends}
use Rattle.idl_value.specs.Evaluation.{Evaluation, Faulty, Operands, Valued, bound_of, faults_of, first_of, positive, value_of}
use Rattle.idl_value.specs.Order.{IsAscending}
use Rattle.idl_value.specs.declared.integer.IntegerKind.TheVariants.{UnsignedLong}
use Rattle.idl_value.specs.declared.outcome.ValueFault.{ValueFault}
use Rattle.idl_value.specs.declared.constant_type.ConstantType.{ConstantType}
use Rattle.idl_value.specs.declared.constant_type.ConstantType.TheVariants as target
use Rattle.idl_value.specs.declared.value.Value.TheVariants as value
use Rattle.idl_check_laws.proofs.Faults.AlikeLemmas.{AreAlike, alike-led}
use Rattle.idl_check.proofs.Faults.FaultOrder.{Leads, leads-later}
use Rattle.idl_check.proofs.Visits.SiteLaws.{begin_before}

-- ---- its sites are as many as it is spelled with

pub expression-count : (e : Expression) → items_length (items (expression_parts e)) ≡ length (spell_expression e)
expression-count e = counted (expression_parts e) ∙ ap length (expression_spells-parts e)

-- ---- its faults ascend

-- the first stands at one of so many tokens, or behind the last, and the others behind the first
abbrev pub IsOrdered : ℕ → List ValueFault → Type 0
IsOrdered n [] = Unit {0}
IsOrdered n (f ∷ fs) = (f.token ≤ n) × All (λ g. f.token < g.token) fs

spans : (from to : ℕ) (fs : List ValueFault) → IsAscending from fs to → from ≤ to
spans from to [] h = h
spans from to (f ∷ fs) h = let k = spans (f.token + 1) to fs h.1 in omega (arith, h.0, k)

all-later : (from to : ℕ) (fs : List ValueFault) → IsAscending from fs to → All (λ g. from ≤ g.token) fs
all-later from to [] h = All-nil (λ g. from ≤ g.token)
all-later from to (f ∷ fs) h =
    All-cons (λ g. from ≤ g.token) f fs h.0
    (All-weaker (λ g. f.token + 1 ≤ g.token) (λ g. from ≤ g.token) (λ g le. omega (arith, le, h.0)) fs (all-later (f.token + 1) to fs h.1))

ordered : (n : ℕ) (fs : List ValueFault) → IsAscending 0 fs n → IsOrdered n fs
ordered n [] h = tt
ordered n (f ∷ fs) h =
    let k = spans (f.token + 1) n fs h.1 in
    (omega (arith, k), All-weaker (λ g. f.token + 1 ≤ g.token) (λ g. f.token < g.token) (λ g le. omega (arith, le)) fs (all-later (f.token + 1) n fs h.1))

positive-ordered : (n : ℕ) (x : Evaluation) → IsOrdered n (faults_of x) → IsOrdered n (faults_of (positive x))
positive-ordered n (Valued (value.Integer (pos zero))) h = (omega arith, All-nil (λ g. 0 < g.token))
positive-ordered n (Valued (value.Integer (pos (suc m)))) h = tt
positive-ordered n (Valued (value.Integer (negsuc m))) h = tt
positive-ordered n (Valued (value.Boolean b)) h = tt
positive-ordered n (Valued (value.Character c)) h = tt
positive-ordered n (Valued (value.WideCharacter c)) h = tt
positive-ordered n (Valued (value.Text text)) h = tt
positive-ordered n (Valued (value.WideText text)) h = tt
positive-ordered n (Valued (value.Enumerator path name)) h = tt
positive-ordered n (Faulty fs) h = h

module _ (os : Operands) (e : Expression) (fits : length (spell_expression e) < 2 ^ 64) where
  abbrev count : ℕ
  count = length (spell_expression e)

  value-ordered : (t : ConstantType) → IsOrdered count (faults_of (value_of t os e))
  value-ordered t = ordered count (faults_of (value_of t os e)) (value-ascends t os e fits)

  bound-ordered : IsOrdered count (faults_of (bound_of os e))
  unfolding bound_of
  bound-ordered = positive-ordered count (value_of (target.Integer UnsignedLong) os e) (value-ordered (target.Integer UnsignedLong))

  in-ordered : (t : Option ConstantType) → IsOrdered count (faults_of (evaluation_in t os e))
  in-ordered (Some t) = value-ordered t
  in-ordered None = tt

  pub for-ordered : (way : Purpose) (constant label : Option ConstantType) → IsOrdered count (faults_of (evaluation_for way constant label os e))
  for-ordered purpose.Bound constant label = bound-ordered
  for-ordered purpose.Length constant label = bound-ordered
  for-ordered purpose.Constant constant label = in-ordered constant
  for-ordered purpose.Label constant label = in-ordered label

-- ---- the first is told

first-here : (o : Option ℕ) (begin at : ℕ) → o ≡ Some begin → elim o [ None ↦ at | Some b ↦ b ] ≡ begin
first-here None begin at h = cc
first-here (Some b) begin at h = cc

begin-here : (o : Option ℕ) (begin at : ℕ) → o ≡ Some begin → begin ≤ at → begin_before o at ≡ begin
begin-here None begin at h le = cc
begin-here (Some b) begin at h le = let same : b ≡ begin = cc in omega (arith, same, le)

pub alike-expression : (w : Walk) (way : Purpose) (begin n : ℕ) → w.values.begin ≡ Some begin → w.at ≡ begin + n → (x : Evaluation) → IsOrdered n (faults_of x) → AreAlike (value_visit w way (first_of x)).faults (evaluation_faults w way x)
alike-expression w way begin n h at (Valued v) up o =
    let same : begin_of w ≡ first_token w = begin-here w.values.begin begin w.at h (omega (arith, at)) ∙ sym (first-here w.values.begin begin w.at h) in
    ap (λ t. noted o (cond (is_repeated w way v) (fault_at t RepeatedLabel ∷ []) [])) same
alike-expression w way begin n h at (Faulty []) up o = refl
alike-expression w way begin n h at (Faulty (f ∷ fs)) up o =
    let at_first : begin_of w ≡ begin = begin-here w.values.begin begin w.at h (omega (arith, at)) in
    let first : first_token w ≡ begin = first-here w.values.begin begin w.at h in
    let same : token_of w f.token ≡ first_token w + f.token = omega (arith, at_first, first, at, up.0) in
    let p = placed_at (first_token w) in
    ap (λ t. noted o (fault_at t (code_of f.code) ∷ [])) same
    ∙ sym (alike-led (p f) (map p fs) (All-map (Leads (p f)) p fs (All-weaker (λ g. f.token < g.token) (λ g. Leads (p f) (p g)) (λ g lt. leads-later (p f) (p g) (omega (arith, lt))) fs up.1)) o)
