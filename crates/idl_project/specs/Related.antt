-- Second places of what is found in a root of a project.
use Rattle.std.specs.Prelude.{◌≡◌, ℕ, List, Option, None, Some, take}
use Rattle.std.specs.Option.{option_map}
use Rattle.idl_finding.specs.declared.finding.Finding.{Finding}
use Rattle.idl_inputs.specs.Bank.{bank_of}
use Rattle.idl_inputs.specs.Project.{Project}
use Rattle.idl_project.specs.UpToDate.{findings_of}
use Rattle.idl_sources.specs.idl_related.declared.second.Related.{Related}
use Rattle.idl_sources.specs.Related.{AreRelatedOver}

-- those of findings of a root of a project, of another name than a root's nothing
abbrev pub AreRelatedTo : Project → List ℕ → Option (List Finding) → Option (List (List Related))
    → Type 0
AreRelatedTo project root None related = related ≡ None
AreRelatedTo project root (Some findings) None = ⊥
AreRelatedTo project root (Some findings) (Some related) =
    AreRelatedOver (bank_of project.inputs) root findings related

-- those of the first of all that is found in it, so many at most
abbrev pub AreRelatedIn : Project → List ℕ → ℕ → Option (List (List Related)) → Type 0
AreRelatedIn project root count related =
    AreRelatedTo project root (option_map (take count) (findings_of project root)) related
