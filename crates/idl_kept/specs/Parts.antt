-- What is taken with a block.
use Rattle.std.specs.Prelude.{◌≡◌, ◌≤◌, ◌+◌, ◌-◌, ℕ, All, List, Some, length}
use Rattle.idl_kept.specs.Texts.{DeclarationResult}
use Rattle.idl_kept.specs.declared.parts.Part.{Part}
use Rattle.idl_store.specs.Spots.{result_on, results_from}
use Rattle.idl_store.specs.Stored.{Stored}

-- what stands before a block: so much of all blocks in it
abbrev pub inner_from : {X : Type 0} → Stored X → Part → List X
inner_from stored part =
    results_from stored (record part.spot { place = part.spot.place - part.inner }) part.inner

-- The results of so many units stand where those of a block begin, and the numbers of so many blocks
-- before its own, each among those units.
pub record HasPart (units : Stored DeclarationResult) (begins : Stored ℕ) (part : Part) : Type 0 where
  pub begin : ℕ
  pub there : result_on begins part.spot ≡ Some begin
  pub whole : let from = record part.spot { place = begin } in
      length (results_from units from part.units) ≡ part.units
  pub after : part.inner ≤ part.spot.place
  pub long : length (inner_from begins part) ≡ part.inner
  pub within : All (λ n. (begin ≤ n) × (n ≤ begin + part.units)) (inner_from begins part)
