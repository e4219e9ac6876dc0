-- The entries of a map.
use Rattle.std.specs.Prelude.{◌≡◌, ℕ, List, ◌++◌, map}
use Rattle.std.specs.Map.{keys_of}
use Rattle.idl_map.specs.Table.{AreDistinct}
use Rattle.idl_map.specs.Buckets.{IsIndexed}
use Rattle.idl_map.specs.declared.arena.Arena.{Arena}

-- the entries, and the rest behind them, in the order of the keys
abbrev pub entries_of : {K V : Type 0} → Arena K V → List (K × V)
entries_of arena = arena.entries.items ++ arena.rest.entries

-- the keys of the entries differ, and the index has their digests
pub record IsSound {K V : Type 0} (digest_of : K → ℕ) (arena : Arena K V) : Type 0 where
  pub distinct : AreDistinct (keys_of arena.entries.items)
  pub digests : arena.index.digests.items ≡ map digest_of (keys_of arena.entries.items)
  pub indexed : IsIndexed arena.index
