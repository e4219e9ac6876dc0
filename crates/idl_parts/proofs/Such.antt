-- A value, and a claim that holds of it: inductions over trees put them in the places of a tree's parts.
abbrev pub Such : {X : Type 0} → (X → Type 0) → Type 0
Such {X} claim = (x : X) × claim x
