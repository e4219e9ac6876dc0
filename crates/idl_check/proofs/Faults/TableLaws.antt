-- Tables whose codes ascend, and tables that bring no fault.
use Rattle.std.proofs.Common.{◌≡◌, ℕ, ◌≤◌, Bool, true, false, cond, List, [], ◌∷◌, arith, map, refl}
use Rattle.std.proofs.lemmas.List.Elements.{All-cons, All-nil}
use Rattle.std.specs.Prelude.{All, ⊤}
use Rattle.idl_check.specs.tables.Codes.{Table, codes_in, faults_by}
use Rattle.idl_check.specs.tables.Declaring.{declared_table}
use Rattle.idl_check.specs.tables.Using.{Bases, suited_table, used_table}
use Rattle.idl_check.specs.tables.Rules.{suits}
use Rattle.idl_check.specs.declared.tables.standing.Standing.{Standing}
use Rattle.idl_fault.specs.Code.{number_of}
use Rattle.idl_fault.specs.declared.code.Code.{Code}
use Rattle.idl_fault.specs.declared.code.Code.TheVariants as code
use Rattle.idl_env.specs.declared.answering.answer.Scope.{Scope}
use Rattle.idl_entity.specs.declared.entity.Entity.{Entity}
use Rattle.idl_parts.specs.declared.part.Use.{Use}
use Rattle.idl_parts.specs.declared.part.Use.TheVariants.{AsBase, AsStructBase, AsType, AsConstantType, AsDiscriminator}
use Rattle.idl_unit.specs.TokenRules.{fault_at}
use Rattle.idl_check.proofs.Faults.FaultOrder.{AreLed, IsLed, led-codes}

-- the codes ascend, from this number on
abbrev pub Ascends : ℕ → Table → Type 0
Ascends n [] = ⊤
Ascends n (row ∷ rows) = (n ≤ number_of row.1) × Ascends (number_of row.1) rows

pub all-if : {X : Type 0} (P : X → Type 0) (b : Bool) (x : X) (xs : List X) → P x → All P xs → All P (cond b (x ∷ xs) xs)
all-if P true x xs here more = All-cons P x xs here more
all-if P false x xs here more = more

-- a table that brings no fault has no code, and none of its rows holds
pub no-codes : (n : ℕ) (cs : List Code) → map (fault_at n) cs ≡ [] → cs ≡ []
no-codes n [] h = refl
no-codes n (c ∷ cs) h = cc

pub no-row : (b : Bool) (c : Code) (cs : List Code) → cond b (c ∷ cs) cs ≡ [] → (b ≡ false) × (cs ≡ [])
no-row true c cs h = cc
no-row false c cs h = (refl, h)

codes-from : (m n : ℕ) (table : Table) → m ≤ n → Ascends n table → All (λ c. m ≤ number_of c) (codes_in table)
codes-from m n [] le up = All-nil (λ c. m ≤ number_of c)
codes-from m n (row ∷ rows) le up =
    let here : m ≤ number_of row.1 = omega (arith, up.0) in
    all-if (λ c. m ≤ number_of c) row.0 row.1 (codes_in rows) here (codes-from m (number_of row.1) rows here up.1)

led-if : (b : Bool) (c : Code) (cs : List Code) → All (λ d. number_of c ≤ number_of d) cs → AreLed cs → AreLed (cond b (c ∷ cs) cs)
led-if true c cs each led = each
led-if false c cs each led = led

led-table : (n : ℕ) (table : Table) → Ascends n table → AreLed (codes_in table)
led-table n [] up = tt
led-table n (row ∷ rows) up =
    led-if row.0 row.1 (codes_in rows) (codes-from (number_of row.1) (number_of row.1) rows (omega arith) up.1) (led-table (number_of row.1) rows up.1)

-- the faults of a token by such a table
pub led-by : (n : ℕ) (table : Table) → Ascends 22 table → IsLed (faults_by n table)
led-by n table up = led-codes n (codes_in table) (led-table 22 table up)

-- ---- the tables of names

pub declared-up : (s : Scope) (standing : Standing) (e : Entity) → Ascends 22 (declared_table s standing e)
declared-up s standing e = (omega arith, (omega arith, (omega arith, (omega arith, (omega arith, (omega arith, (omega arith, tt)))))))

suited-up : (way : Use) (bases : Bases) (e behind : Entity) → Ascends 22 (suited_table way bases e behind)
suited-up (AsBase is_local) bases e behind = (omega arith, (omega arith, (omega arith, (omega arith, tt))))
suited-up AsStructBase bases e behind = (omega arith, tt)
suited-up AsType bases e behind = (omega arith, tt)
suited-up AsConstantType bases e behind = (omega arith, (omega arith, tt))
suited-up AsDiscriminator bases e behind = (omega arith, (omega arith, tt))
suited-up other bases e behind = tt

up-if : (b : Bool) (table : Table) → Ascends 22 table → Ascends 22 (cond b table ((true, code.WrongKind) ∷ []))
up-if true table up = up
up-if false table up = (omega arith, tt)

pub used-up : (way : Use) (bases : Bases) (e behind : Entity) → Ascends 22 (used_table way bases e behind)
used-up way bases e behind = up-if (suits way e) (suited_table way bases e behind) (suited-up way bases e behind)
