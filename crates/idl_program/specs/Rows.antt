-- What goes out of compiled roots.
use Rattle.std.specs.Prelude.{◌≡◌, ◌++◌, ℕ, List, [], if◌then◌else◌}
use Rattle.idl_source.specs.devices.Device.{append}
use Rattle.idl_session.specs.idl_project.idl_sources.declared.compile.CompiledRoot.{CompiledRoot}
use Rattle.idl_loader.specs.declared.status.Status.{Status}
use Rattle.idl_loader.specs.declared.status.Status.TheVariants.{Sound, Faulty}
use Rattle.idl_driver.specs.Rows.{are_faulty, lines_with}
use Rattle.idl_driver.specs.Written.{Written}
use Rattle.idl_driver.specs.declared.options.Options.{Options}

-- what is shown of a root: the dump and the listing, as far as they are asked for
abbrev pub output_of : Options → CompiledRoot → List (List ℕ)
output_of options root =
    (if options.shows_dump then root.rows.dump else [])
    ++ (if options.shows_listing then root.rows.listing else [])

-- what goes out of these roots, and how the program ends
pub record AreShown (options : Options) (roots : List CompiledRoot) (before after : Written)
    (status : Status) : Type 0 where
  pub errors : after.errors ≡ append before.errors (lines_with (λ root. root.rows.diagnostics) roots)
  pub output : after.output ≡ append before.output (lines_with (output_of options) roots)
  pub ending : status ≡ (if are_faulty roots then Faulty else Sound)
