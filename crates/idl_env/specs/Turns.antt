-- How many turns facts need: a walk over bases enters each base that is named at most once, and a
-- chain of typedefs that ends has each entity that is declared at most once.
use Rattle.std.specs.Prelude.{ℕ, ◌+◌, ◌-◌, ◌^◌, ◌≤◌, List, [], ◌∷◌, flat_map, length}
use Rattle.idl_env.specs.Facts.{UnitFacts}
use Rattle.idl_env.specs.declared.additions.addition.Addition.{Addition}
use Rattle.idl_env.specs.declared.additions.addition.Addition.TheVariants.{Declares, Uses, UsesFurther, Appears, Identifies, TypePrefixes}

-- the paths of the bases that an addition names
abbrev pub bases_in : Addition → List (List (List ℕ))
bases_in (Declares e) = e.bases
bases_in (Uses n path body) = []
bases_in (UsesFurther n path further) = []
bases_in (Appears path prefix) = []
bases_in (Identifies path identity) = []
bases_in (TypePrefixes path text) = []

-- those that what a unit adds names
abbrev pub bases_among : List Addition → List (List (List ℕ))
bases_among additions = flat_map bases_in additions

-- those that facts name, each as often as it is named
abbrev pub bases_named : List UnitFacts → List (List (List ℕ))
bases_named facts = flat_map (λ f. bases_among f.additions) facts

-- the path of the entity that an addition declares
abbrev pub declared_in : Addition → List (List (List ℕ))
declared_in (Declares e) = e.path ∷ []
declared_in (Uses n path body) = []
declared_in (UsesFurther n path further) = []
declared_in (Appears path prefix) = []
declared_in (Identifies path identity) = []
declared_in (TypePrefixes path text) = []

-- those of what a unit declares
abbrev pub declared_among : List Addition → List (List (List ℕ))
declared_among additions = flat_map declared_in additions

-- those of what facts declare, each as often as it is declared
abbrev pub declared_named : List UnitFacts → List (List (List ℕ))
declared_named facts = flat_map (λ f. declared_among f.additions) facts

-- the turns that additions need
abbrev pub turns_among : List Addition → ℕ
turns_among additions = length (bases_among additions) + length (declared_among additions)

-- the turns that facts need
abbrev pub turns_for : List UnitFacts → ℕ
turns_for facts = length (bases_named facts) + length (declared_named facts)

-- so many turns are enough over these facts and additions
abbrev pub HasTurnsFor : List UnitFacts → List Addition → ℕ → Type 0
HasTurnsFor facts own turns = turns_for facts + turns_among own ≤ turns

-- The turns that are enough over any facts that memory holds: each base that they name, and each
-- entity that they declare, is counted by a word of 64 bits.
unfoldable pub most_turns : ℕ
most_turns = 2 ^ 64 - 1
