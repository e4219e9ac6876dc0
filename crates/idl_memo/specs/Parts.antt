-- The parts of logs.
use Rattle.std.specs.Borrow.{Bor}
use Rattle.std.specs.Prelude.{List, [], ◌∷◌, Option}
use Rattle.std.specs.Option.{option_copied}
use Rattle.idl_memo.specs.declared.run.Part.{Part}
use Rattle.idl_memo.specs.declared.run.Part.TheVariants.{One, Many}

module _ {K V : Type 0} where
  -- the entries of a part
  abbrev pub part_entries : Part K V (List (K × Option V)) → List (K × Option V)
  part_entries (One key answer) = (key, answer) ∷ []
  part_entries (Many run) = run

  -- those of one that is lent
  abbrev pub lent_entries : Part (Bor K) (Bor V) (Bor (List (K × Option V)))
      → List (K × Option V)
  lent_entries (One key answer) = (key.now, option_copied answer) ∷ []
  lent_entries (Many run) = run.now
