-- Sets of weights that a text names.
use Rattle.std.specs.Prelude.{ℕ, Bool, List, [], ◌∷◌, ◌++◌, ◌&&◌, ◌||◌, true, codes, Option, None, Some, nat_eq, if◌then◌else◌}
use Rattle.std.specs.Option.{option_and_then}
use Rattle.std.specs.Str.{bytes_eq}
use Rattle.idl_changes.specs.Rows.{nobody}
use Rattle.idl_changes.specs.declared.rows.Weights.{Weights}

-- whether one of these weights is among those
abbrev pub meets : (weights among : Weights) → Bool
meets weights among =
    (weights.wire && among.wire)
    || ((weights.client && among.client)
    || ((weights.servant && among.servant)
    || ((weights.names && among.names) || (weights.added && among.added))))

-- these, and the weight that has a name
abbrev pub with_weight : List ℕ → Weights → Option Weights
with_weight name weights =
    if bytes_eq name (codes "wire") then Some (record weights { wire = true })
    else if bytes_eq name (codes "client") then Some (record weights { client = true })
    else if bytes_eq name (codes "servant") then Some (record weights { servant = true })
    else if bytes_eq name (codes "names") then Some (record weights { names = true })
    else if bytes_eq name (codes "new") then Some (record weights { added = true })
    else None

-- these, and those of the names in a text with commas between, of which the first has begun so
abbrev pub with_names : (begun text : List ℕ) → Weights → Option Weights
with_names begun [] weights = with_weight begun weights
with_names begun (byte ∷ text) weights =
    if nat_eq byte 44
    then option_and_then (with_names [] text) (with_weight begun weights)
    else with_names (begun ++ byte ∷ []) text weights

-- the weights that a text names: `never` none
unfoldable pub weights_named : List ℕ → Option Weights
weights_named text =
    if bytes_eq text (codes "never") then Some nobody else with_names [] text nobody
