-- The claim: what goes out is what compiling the loaded files tells, and the status says whether
-- they have errors.
use Rattle.std.specs.Prelude.{◌≡◌, ◌++◌, ℕ, List, [], if◌then◌else◌}
use Rattle.idl_source.specs.devices.Device.{append}
use Rattle.idl_inputs.specs.Made.{rootless}
use Rattle.idl_inputs.specs.Project.{Inputs}
use Rattle.idl_inputs.specs.WellFormed.{IsWellFormed}
use Rattle.idl_loader.specs.Holding.{Holding}
use Rattle.idl_loader.specs.declared.status.Status.{Status}
use Rattle.idl_loader.specs.declared.status.Status.TheVariants.{Sound, Faulty}
use Rattle.idl_driver.specs.Compiled.{dump_in, errors_in, is_faulty, lines_of, listing_in}
use Rattle.idl_driver.specs.Loading.{AreLoaded, AreComplete}
use Rattle.idl_driver.specs.Options.{AreAsked}
use Rattle.idl_driver.specs.Written.{Written}
use Rattle.idl_driver.specs.declared.options.Options.{Options}

-- what is shown of a root: the dump and the listing, as far as they are asked for
abbrev pub output_in : Options → Inputs → List ℕ → List (List ℕ)
output_in options inputs root =
    (if options.shows_dump then dump_in inputs root else [])
    ++ (if options.shows_listing then listing_in inputs root else [])

-- what goes out of the roots over these inputs, and how the program ends
pub record IsShown (options : Options) (inputs : Inputs) (roots : List (List ℕ))
    (before after : Written) (status : Status) : Type 0 where
  pub errors : after.errors ≡ append before.errors (lines_of (errors_in inputs) roots)
  pub output : after.output ≡ append before.output (lines_of (output_in options inputs) roots)
  pub ending : status ≡ (if is_faulty inputs roots then Faulty else Sound)

-- the options are served, over the files that the loader tells of and within the limits
pub record IsCompiled (told : List ℕ → Holding) (options : Options) (before after : Written)
    (status : Status) : Type 0 where
  pub inputs : Inputs
  pub roots : List (List ℕ)
  pub asked : AreAsked options inputs roots
  pub formed : IsWellFormed (rootless inputs)
  pub loaded : AreLoaded told inputs.files
  pub complete : AreComplete told inputs roots
  pub shown : IsShown options inputs roots before after status
