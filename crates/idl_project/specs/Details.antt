-- What is told of the names of a root as data, when it is asked.
use Rattle.std.specs.Prelude.{ℕ, List, Option, None, Some, if◌then◌else◌}
use Rattle.idl_event.specs.declared.told.event.Event.{Event}
use Rattle.idl_prep.specs.Root.{expanded}
use Rattle.idl_sources.specs.idl_root.declared.compiling.detailing.Details.{Details}
use Rattle.idl_inputs.specs.Bank.{bank_of}
use Rattle.idl_inputs.specs.Project.{Project, is_root}
use Rattle.idl_sources.specs.Details.{details_over}

-- what the root of a name expands to; of another name nothing
abbrev pub expansion_of : Project → List ℕ → Option (List Event)
expansion_of project name =
    if is_root project name then Some (expanded name (bank_of project.inputs)).0 else None

-- that which is answered for a name: of another name than a root's nothing
abbrev pub details_of : Project → List ℕ → Option Details
details_of project name =
    if is_root project name then Some (details_over (bank_of project.inputs) name) else None
