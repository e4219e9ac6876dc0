-- What went out of a program.
use Rattle.std.specs.Prelude.{◌≡◌, ℕ, List, Option}
use Rattle.idl_source.specs.devices.Device.{append}
use Rattle.idl_loader.specs.declared.status.Status.{Status}
use Rattle.idl_loader.specs.declared.status.Status.TheVariants.{Sound}

-- bytes that went out, to errors and to output
pub record Written : Type 0 where
  pub errors : Option (List ℕ)
  pub output : Option (List ℕ)

-- something has gone out, or nothing
abbrev pub WritesSome : Option (List ℕ) → Option (List ℕ) → Type 0
WritesSome before after = (bytes : List ℕ) × (after ≡ append before bytes)

-- the text went out
pub record IsShownText (text : List ℕ) (before after : Written) (status : Status) : Type 0 where
  pub output : after.output ≡ append before.output text
  pub errors : after.errors ≡ before.errors
  pub sound : status ≡ Sound
