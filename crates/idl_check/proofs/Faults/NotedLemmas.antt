-- The least fault of a walk, as further ones are noted.
use Rattle.std.proofs.Common.{◌≡◌, ◌∙◌, ◌<◌, ◌≤◌, ℕ, true, false, cond, List, [], ◌∷◌, ◌++◌, Option, None, Some, Ok, map, refl, sym, ap, subst, arith, inl, inr, Bool}
use Rattle.std.proofs.lemmas.Bool.{cond_both}
use Rattle.std.proofs.lemmas.List.Elements.{All-weaker}
use Rattle.std.proofs.lemmas.List.Sums.{fold-append}
use Rattle.std.specs.Prelude.{All, option_to_list}
use Rattle.idl_check.specs.tables.Codes.{Table, codes_in, faults_by}
use Rattle.idl_check.specs.walk.Judging.{IsNotAfter}
use Rattle.idl_check.specs.walk.Walk.{Walk, head_visit, noted, noted_in, past_name, quiet, faulty_if}
use Rattle.idl_fault.specs.declared.code.Code.{Code}
use Rattle.idl_fault.specs.declared.code.Code.TheVariants.{NoScope}
use Rattle.idl_entity.specs.Kind.{is_scope}
use Rattle.idl_scope.specs.declared.found.Found.{Found}
use Rattle.idl_tree.specs.declared.name.ScopedName.{ScopedName}
use Rattle.idl_unit.specs.Faults.{lesser_fault}
use Rattle.idl_unit.specs.TokenRules.{fault_at, first}
use Rattle.idl_unit.specs.declared.fault.Fault.{Fault}
use Rattle.idl_check.proofs.Faults.FaultOrder.{IsLed, Leads, fold-led, leads-beside, leads-later}
use Rattle.idl_check.proofs.Faults.LeastFault.{after-trans, is_lesser, lesser-first, lesser-no, lesser-second}
use Rattle.idl_check.proofs.Faults.TableLaws.{Ascends, led-by}

-- none more
pub noted-none : (o : Option Fault) → noted o [] ≡ o
noted-none None = refl
noted-none (Some f) = refl

-- some, and then others
pub noted-append : (o : Option Fault) (fs gs : List Fault) → noted (noted o fs) gs ≡ noted o (fs ++ gs)
noted-append None [] gs = refl
noted-append None (f ∷ fs) gs = ap Some (sym (fold-append lesser_fault f fs gs))
noted-append (Some e) fs gs = ap Some (sym (fold-append lesser_fault e fs gs))

leads-from : (f g : Fault) → IsNotAfter f g → Leads f g
leads-from f g (inl lt) = leads-later f g lt
leads-from f g (inr h) = leads-beside f g (omega (arith, h.0)) h.1

after-from : (f g : Fault) → Leads f g → IsNotAfter f g
after-from f g h = subst (λ x. IsNotAfter x g) h (lesser-second f g)

-- what leads others still does where a lesser one takes its place
leads-through : (e f g : Fault) → Leads f g → Leads (lesser_fault e f) g
leads-through e f g h =
    cond_both (is_lesser e f) f e (λ x. Leads x g) (λ yes. h) (λ no. leads-from e g (after-trans e f g (lesser-no e f no) (after-from f g h)))

-- of faults of which none is less than the first, that one counts
pub noted-led : (o : Option Fault) (fs : List Fault) → IsLed fs → noted o fs ≡ noted o (option_to_list (first fs))
noted-led o [] led = refl
noted-led None (f ∷ fs) led = ap Some (fold-led f fs led)
noted-led (Some e) (f ∷ fs) led =
    ap Some (fold-led (lesser_fault e f) fs (All-weaker (Leads f) (Leads (lesser_fault e f)) (λ g h. leads-through e f g h) fs led))

-- those at later tokens don't count behind one that is known
abbrev pub IsLater : ℕ → List Fault → Type 0
IsLater at fs = All (λ g. at < g.index) fs

pub noted-later : (f : Fault) (at : ℕ) (fs : List Fault) → f.index ≤ at → IsLater at fs → noted (Some f) fs ≡ Some f
noted-later f at fs le later = ap Some (fold-led f fs (All-weaker (λ g. at < g.index) (Leads f) (λ g lt. leads-later f g (omega (arith, le, lt))) fs later))

not-later : (f g : Fault) (at : ℕ) → IsNotAfter g f → f.index ≤ at → g.index ≤ at
not-later f g at (inl lt) le = omega (arith, lt, le)
not-later f g at (inr beside) le = omega (arith, beside.0, le)

pub noted-behind : (f : Fault) (at : ℕ) (fs gs : List Fault) → f.index ≤ at → IsLater at gs → noted (Some f) (fs ++ gs) ≡ noted (Some f) fs
noted-behind f at [] gs le later = noted-later f at gs le later
noted-behind f at (g ∷ fs) gs le later = noted-behind (lesser_fault f g) at fs gs (not-later f (lesser_fault f g) at (lesser-first f g) le) later

first-list : (n : ℕ) (codes : List Code) → option_to_list (first (map (fault_at n) codes)) ≡ map (fault_at n) (option_to_list (first codes))
first-list n [] = refl
first-list n (c ∷ codes) = refl

-- of the faults of a table whose codes ascend, that of its first code
pub noted-by : (o : Option Fault) (n : ℕ) (table : Table) (code : Option Code) → Ascends 22 table → code ≡ first (codes_in table)
    → noted o (map (fault_at n) (option_to_list code)) ≡ noted o (faults_by n table)
noted-by o n table code up is =
    ap (λ c. noted o (map (fault_at n) (option_to_list c))) is
    ∙ ap (noted o) (sym (first-list n (codes_in table)))
    ∙ sym (noted-led o (faults_by n table) (led-by n table up))

-- a site at which nothing is wrong
pub noted_in-quiet : (w : Walk) (fault : Option Fault) → noted_in (quiet w) fault ≡ record w { fault = fault }
noted_in-quiet w fault = λ i. record w { fault = noted-none fault i }

-- a fault at the next token, by a test
pub faulty-yes : (b : Bool) (why : Code) (w after : Walk) (fault : Option Fault) → b ≡ true → noted_in (faulty_if b why w after) fault ≡ record after { fault = noted fault (fault_at w.at why ∷ []) }
faulty-yes b why w after fault h = ap (λ b. noted_in (faulty_if b why w after) fault) h

pub faulty-no : (b : Bool) (why : Code) (w after : Walk) (fault : Option Fault) → b ≡ false → noted_in (faulty_if b why w after) fault ≡ record after { fault = fault }
faulty-no b why w after fault h = ap (λ b. noted_in (faulty_if b why w after) fault) h ∙ noted_in-quiet after fault

-- the first part of a name denotes a scope, or something else
pub head-scope : (name : ScopedName) (w : Walk) (found : Found) (fault : Option Fault) → is_scope found.entity.kind ≡ true
    → noted_in (head_visit name w (Ok found)) fault ≡ record (past_name name w) { fault = fault }
head-scope name w found fault h =
    ap (λ b. record (past_name name w) { fault = noted fault (cond b [] (fault_at w.at NoScope ∷ [])) }) h
    ∙ noted_in-quiet (past_name name w) fault

pub head-other : (name : ScopedName) (w : Walk) (found : Found) (fault : Option Fault) → is_scope found.entity.kind ≡ false
    → noted_in (head_visit name w (Ok found)) fault ≡ record (past_name name w) { fault = noted fault (fault_at w.at NoScope ∷ []) }
head-other name w found fault h =
    ap (λ b. record (past_name name w) { fault = noted fault (cond b [] (fault_at w.at NoScope ∷ [])) }) h
