-- What a block asks over a bank: the keys that its units ask and that it has not written before.
-- A block in an alike one is alike (the laws `nesting` and `agreed`). Of each key that it asks both
-- places may say that it isn't written there: then the bank beneath answers. Or one of them does:
-- then both agree on the keys by which it was answered at the other, and it is among these.
use Rattle.std.specs.Prelude.{◌≡◌, ◌||◌, not, IsFalse, List, [], ◌∷◌, ◌++◌, All, Contains, flat_map, map, if◌then◌else◌}
use Rattle.std.specs.List.{filter}
use Rattle.idl_memo.specs.Query.{outcome, asked}
use Rattle.idl_block.specs.Behind.{laid}
use Rattle.idl_block.specs.Blocks.{Part, Text, Boundary, Ways}

-- a key that a unit asks, behind what the block wrote before the unit
pub record Question (K W : Type 0) : Type 0 where
  pub written : List W
  pub key : K

module _ {K V X T D W O : Type 0} (ways : Ways K V X T D W O) where
  -- the keys that a part asks behind what was written: a boundary asks none
  abbrev pub asked_by : Part T D → List W → (K → V) → List K
  asked_by (Boundary d) written bank = []
  asked_by (Text t) written bank = asked (ways.unit t) (laid ways.answered written bank)

  -- what it writes
  abbrev pub written_by : Part T D → List W → (K → V) → W
  written_by (Boundary d) written bank = ways.boundary d
  written_by (Text t) written bank =
      ways.writes (outcome (ways.unit t) (laid ways.answered written bank))

  -- what is written behind it
  abbrev pub written_after : Part T D → List W → (K → V) → List W
  written_after part written bank = written ++ written_by part written bank ∷ []

  -- what is asked in a block, in order
  abbrev pub questions : List (Part T D) → List W → (K → V) → List (Question K W)
  questions [] written bank = []
  questions (part ∷ parts) written bank =
      map (λ k. record { written = written; key = k }) (asked_by part written bank)
      ++ questions parts (written_after part written bank) bank

  -- the key, unless the block has written it
  abbrev pub outer_of : Question K W → (K → V) → List K
  outer_of q bank = if ways.is_written q.written bank q.key then [] else q.key ∷ []

  -- the keys that the units of a block ask, each without what the block wrote before it
  abbrev pub outer_asked : List (Part T D) → List W → (K → V) → List K
  outer_asked parts written bank = flat_map (λ q. outer_of q bank) (questions parts written bank)

  -- the keys of the bank by which it is answered
  abbrev pub looked_at : Question K W → (K → V) → List K
  looked_at q bank = asked (ways.answered q.written q.key) bank

  -- it is answered by the bank at its own key where that is not written, and so as it is answered
  -- there; and else by keys that were seen
  pub record IsKnown (seen : List K) (q : Question K W) (bank : K → V) : Type 0 where
    pub within : All (Contains (seen ++ outer_of q bank)) (looked_at q bank)
    pub whole : All (Contains (looked_at q bank)) (outer_of q bank)
    pub own : IsFalse (ways.is_written q.written bank q.key)
        → laid ways.answered q.written bank q.key ≡ bank q.key

  -- each question is answered so, where seen are these keys and those of the earlier questions
  abbrev pub AreSeen : List K → List (Question K W) → (K → V) → Type 0
  AreSeen seen [] bank = Unit {0}
  AreSeen seen (q ∷ more) bank =
      IsKnown seen q bank × AreSeen (seen ++ outer_of q bank) more bank

  -- what a block asks beside its outer keys was asked by then
  abbrev pub AreKnown : List (Part T D) → List W → (K → V) → Type 0
  AreKnown parts written bank = AreSeen [] (questions parts written bank) bank

  -- what was written before each part of a block
  abbrev pub befores : List (Part T D) → List W → (K → V) → List (List W)
  befores [] written bank = []
  befores (part ∷ parts) written bank =
      written ∷ befores parts (written_after part written bank) bank

  -- where these answers stand behind what is written, what a block has written lies over those
  -- before it
  abbrev pub IsOver : (List W → K → V) → List W → List W → Type 0
  IsOver answers before written =
      (k : K) → laid ways.answered written (answers before) k ≡ answers (before ++ written) k

  -- so it is at each part of a block
  abbrev pub AreOver : (List W → K → V) → List W → List (Part T D) → List W → Type 0
  AreOver answers before parts written =
      All (IsOver answers before) (befores parts written (answers before))

  -- ---- a block in a block

  -- those of the keys that what was written did not write
  abbrev pub unwritten : List W → (K → V) → List K → List K
  unwritten written bank keys = filter (λ k. not (ways.is_written written bank k)) keys

  -- behind what a block around it has written, what a block has written lies over that
  pub record IsNested (outer : List W) (bank : K → V) (written : List W) : Type 0 where
    pub laid_over : (k : K)
        → laid ways.answered (outer ++ written) bank k
        ≡ laid ways.answered written (laid ways.answered outer bank) k
    pub writes : (k : K)
        → ways.is_written (outer ++ written) bank k
        ≡ (ways.is_written written (laid ways.answered outer bank) k
        || ways.is_written outer bank k)

  -- so it is at each part of a block
  abbrev pub AreNested : List W → (K → V) → List (Part T D) → List W → Type 0
  AreNested outer bank parts written =
      All (IsNested outer bank) (befores parts written (laid ways.answered outer bank))
