-- Faults of which none is less than the first: the first is the least.
use Rattle.std.proofs.Common.{◌≡◌, ◌∙◌, ◌<◌, ◌≤◌, ℕ, List, [], ◌∷◌, map, Some, refl, ap, subst, arith}
use Rattle.std.proofs.lemmas.Bool.{and_left, and_right, cond-false, cond_both, le-ltb, ne_eqb, or_from}
use Rattle.std.proofs.lemmas.List.Elements.{All-cons, All-head, All-map, All-nil, All-tail, All-weaker}
use Rattle.std.specs.Prelude.{All, fold, nat_eq, nat_lt, ◌&&◌, ◌||◌, ⊤}
use Rattle.idl_fault.specs.Code.{number_of}
use Rattle.idl_fault.specs.declared.code.Code.{Code}
use Rattle.idl_unit.specs.Faults.{least_fault, lesser_fault}
use Rattle.idl_unit.specs.TokenRules.{fault_at}
use Rattle.idl_unit.specs.declared.fault.Fault.{Fault}

-- ---- the lesser of two

-- a fault isn't greater than another
abbrev pub Leads : Fault → Fault → Type 0
Leads f g = lesser_fault f g ≡ f

pub leads-later : (f g : Fault) → f.index < g.index → Leads f g
leads-later f g lt = cond-false _ g f (or_from _ _ (le-ltb g.index f.index (omega arith)) (and_left _ _ (ne_eqb g.index f.index (λ e. omega arith))))

pub leads-beside : (f g : Fault) → f.index ≤ g.index → number_of f.code ≤ number_of g.code → Leads f g
leads-beside f g le codes = cond-false _ g f (or_from _ _ (le-ltb g.index f.index le) (and_right (nat_eq g.index f.index) _ (le-ltb (number_of g.code) (number_of f.code) codes)))

-- ---- the least of all

-- none is less than the first
abbrev pub IsLed : List Fault → Type 0
IsLed [] = ⊤
IsLed (f ∷ fs) = All (Leads f) fs

pub fold-led : (f : Fault) (fs : List Fault) → All (Leads f) fs → fold lesser_fault f fs ≡ f
fold-led f [] led = refl
fold-led f (g ∷ fs) led = ap (λ x. fold lesser_fault x fs) (All-head (Leads f) g fs led) ∙ fold-led f fs (All-tail (Leads f) g fs led)

-- codes of which the first has the least number, at one token
abbrev pub AreLed : List Code → Type 0
AreLed [] = ⊤
AreLed (c ∷ cs) = All (λ d. number_of c ≤ number_of d) cs

pub led-codes : (n : ℕ) (cs : List Code) → AreLed cs → IsLed (map (fault_at n) cs)
led-codes n [] led = tt
led-codes n (c ∷ cs) led =
    All-map (Leads (fault_at n c)) (fault_at n) cs
    (All-weaker (λ d. number_of c ≤ number_of d) (λ d. Leads (fault_at n c) (fault_at n d)) (λ d le. leads-beside (fault_at n c) (fault_at n d) (omega arith) le) cs led)

-- ---- what holds of each holds of the least

fold-in : (P : Fault → Type 0) (f : Fault) (fs : List Fault) → P f → All P fs → P (fold lesser_fault f fs)
fold-in P f [] here more = here
fold-in P f (g ∷ fs) here more =
    fold-in P (lesser_fault f g) fs
    (cond_both (nat_lt g.index f.index || (nat_eq g.index f.index && nat_lt (number_of g.code) (number_of f.code))) g f P (λ h. All-head P g fs more) (λ h. here))
    (All-tail P g fs more)

pub least-in : (P : Fault → Type 0) (fs : List Fault) (f : Fault) → All P fs → least_fault fs ≡ Some f → P f
least-in P [] f all h = cc
least-in P (g ∷ fs) f all h =
    let same : fold lesser_fault g fs ≡ f = cc in
    subst P same (fold-in P g fs (All-head P g fs all) (All-tail P g fs all))

-- those of one token
pub all-at : (P : Fault → Type 0) (n : ℕ) → ((c : Code) → P (fault_at n c)) → (cs : List Code) → All P (map (fault_at n) cs)
all-at P n here [] = All-nil P
all-at P n here (c ∷ cs) = All-cons P (fault_at n c) (map (fault_at n) cs) (here c) (all-at P n here cs)
