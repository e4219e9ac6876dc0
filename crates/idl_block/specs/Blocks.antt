-- A block: units one after another as one query, in which each stands behind what the block wrote
-- before it.
use Rattle.std.specs.Prelude.{Bool, List, [], ◌∷◌, ◌++◌}
use Rattle.idl_memo.specs.Fresh.{Place}
use Rattle.idl_memo.specs.Query.{Query, Done, outcome, and_then}
use Rattle.idl_block.specs.Behind.{Answering, behind}

-- a part of a block: the text of a unit, or a boundary between units
pub data Part (T D : Type 0) : Type 0 where
  Text : T → Part T D
  Boundary : D → Part T D

-- what units and boundaries do: what a unit asks and comes to, what it and a boundary write, what
-- is answered behind what was written, and whether that wrote at a key over a bank
pub record Ways (K V X T D W O : Type 0) : Type 0 where
  pub unit : T → Query K V X O
  pub writes : O → W
  pub boundary : D → W
  pub answered : Answering K V X W
  pub is_written : List W → (K → V) → K → Bool

module _ {K V X T D W O : Type 0} (ways : Ways K V X T D W O) where
  -- what the units of a block come to, and all that is written then, where this was written before
  abbrev pub block : List (Part T D) → List W → Query K V X (List O × List W)
  block [] written = Done ([], written)
  block (Boundary d ∷ parts) written = block parts (written ++ ways.boundary d ∷ [])
  block (Text t ∷ parts) written =
      and_then (behind ways.answered written (ways.unit t))
      (λ o. and_then (block parts (written ++ ways.writes o ∷ []))
      (λ rest. Done (o ∷ rest.0, rest.1)))

  -- what units come to one after another, each over what those before it wrote, and all that is
  -- written then
  abbrev pub walk : (List W → K → V) → List (Part T D) → List W → List O × List W
  walk answers [] written = ([], written)
  walk answers (Boundary d ∷ parts) written =
      walk answers parts (written ++ ways.boundary d ∷ [])
  walk answers (Text t ∷ parts) written =
      let o = outcome (ways.unit t) (answers written) in
      let rest = walk answers parts (written ++ ways.writes o ∷ []) in
      (o ∷ rest.0, rest.1)

  -- where those units stand: each with its text, over the answers there
  abbrev pub unit_places : (List W → K → V) → List (Part T D) → List W → List (Place K V T)
  unit_places answers [] written = []
  unit_places answers (Boundary d ∷ parts) written =
      unit_places answers parts (written ++ ways.boundary d ∷ [])
  unit_places answers (Text t ∷ parts) written =
      let o = outcome (ways.unit t) (answers written) in
      (t, answers written) ∷ unit_places answers parts (written ++ ways.writes o ∷ [])
