-- A query behind what was written: each key that it asks is answered by that, and by the bank
-- beneath it.
use Rattle.std.specs.Prelude.{List}
use Rattle.idl_memo.specs.Query.{Query, Done, Ask, Tell, and_then, outcome}

-- what is answered at a key behind what was written, the earliest first: a query of the bank
abbrev pub Answering : Type 0 → Type 0 → Type 0 → Type 0 → Type 0
Answering K V X W = List W → K → Query K V X V

module _ {K V X W : Type 0} (answered : Answering K V X W) where
  -- a bank with what was written laid over it
  abbrev pub laid : List W → (K → V) → K → V
  laid written bank k = outcome (answered written k) bank

  -- the query that is answered so
  abbrev pub behind : {A : Type 0} → List W → Query K V X A → Query K V X A
  behind written (Done a) = Done a
  behind written (Ask k next) = and_then (answered written k) (λ v. behind written (next v))
  behind written (Tell x query) = Tell x (behind written query)
