-- A reply that goes out in pieces.
use Rattle.std.specs.Prelude.{◌≡◌, ◌++◌, ℕ, List, Option}
use Rattle.idl_source.specs.devices.Device.{append}

-- of these bytes the first ones have gone out, and the rest is held
pub record Sends (before : Option (List ℕ)) (bytes : List ℕ) (after : Option (List ℕ))
    (held : List ℕ) : Type 0 where
  pub gone : List ℕ
  pub written : after ≡ append before gone
  pub whole : gone ++ held ≡ bytes
