-- Members of an object.
use Rattle.std.specs.Prelude.{ℕ, List, Option, option_and_then}
use Rattle.serde_json.specs.Data.{Data}
use Rattle.serde_json.specs.Find.{as_number, as_str, as_u64, get}

-- the text under a key
abbrev pub text_at : List ℕ → Data → Option (List ℕ)
text_at key json = option_and_then as_str (get key json)

-- the number under a key
abbrev pub number_at : List ℕ → Data → Option ℕ
number_at key json = option_and_then as_u64 (option_and_then as_number (get key json))
