-- What the law of closed interfaces speaks of: the facts of a root, and the operations and
-- attributes that an interface has by the scoping rules.
use Rattle.std.specs.Prelude.{◌≡◌, ℕ, true, List, [], ◌∷◌, ◌++◌, Option}
use Rattle.idl_check.specs.walk.Verdict.{verdict}
use Rattle.idl_memo.specs.Query.{outcome}
use Rattle.idl_entity.specs.Entity.{is_operation}
use Rattle.idl_env.specs.Facts.{UnitFacts, answers, boundary}
use Rattle.idl_scope.specs.Meaning.{Through}
use Rattle.idl_env.specs.Turns.{turns_for}
use Rattle.idl_env.specs.declared.additions.addition.Step.TheVariants.{Enters, Leaves}
use Rattle.idl_env.specs.declared.answering.answer.Answer.{Answer}
use Rattle.idl_entity.specs.declared.entity.Entity.{Entity}
use Rattle.idl_env.specs.declared.keys.key.Key.{Key}
use Rattle.idl_unit.specs.declared.unit.UnitText.{UnitText}

-- behind facts, these are what a unit's verdict over them writes, or those of a file boundary
pub data IsTold (facts : List UnitFacts) : UnitFacts → Type 0 where
  Unit : {f : UnitFacts} (text : UnitText)
      → f ≡ (outcome (verdict (turns_for facts) text) (answers facts)).writes → IsTold facts f
  Entered : {f : UnitFacts} → f ≡ boundary Enters → IsTold facts f
  Left : {f : UnitFacts} → f ≡ boundary Leaves → IsTold facts f

-- each of these facts is told behind those before it
abbrev pub AreTold : List UnitFacts → Type 0
AreTold facts =
    (front : List UnitFacts) (f : UnitFacts) (back : List UnitFacts)
    → facts ≡ front ++ f ∷ back → IsTold front f

-- an operation or attribute that the interface at a path has: its own, or, where it declares none
-- of that name, one of its bases
abbrev pub HasOperation : (Key → Option Answer) → List (List ℕ) → List (List ℕ) → Type 0
HasOperation answers path p =
    (n : List ℕ) × (x : Entity)
    × Through answers n (path ∷ []) x × (is_operation x ≡ true) × (x.path ≡ p)
