-- Short tables of words.
use Rattle.std.specs.Prelude.{ℕ, List, find, Option}
use Rattle.std.specs.Borrow.{Bor}
use Rattle.std.specs.Option.{option_map}
use Rattle.std.specs.Str.{bytes_eq}

-- an entry as it is read: a word, and what it stands for
abbrev pub entry_of : {V : Type 0} → Bor (List ℕ) × V → List ℕ × V
entry_of entry = (entry.0.now, entry.1)

-- what a word stands for in a table: what its first entry has, or nothing
abbrev pub value_of : {V : Type 0} → List (List ℕ × V) → List ℕ → Option V
value_of entries word = option_map (λ e. e.1) (find (λ e. bytes_eq e.0 word) entries)
