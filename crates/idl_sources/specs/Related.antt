-- Second places of what is found in a root.
use Rattle.std.specs.Prelude.{ℕ, List, Option}
use Rattle.idl_event.specs.declared.asked.key.RootAnswer.{RootAnswer}
use Rattle.idl_event.specs.declared.asked.key.RootKey.{RootKey}
use Rattle.idl_finding.specs.declared.finding.Finding.{Finding}
use Rattle.idl_prep.specs.Root.{expanded}
use Rattle.idl_related.specs.Related.{AreRelated}
use Rattle.idl_related.specs.declared.second.Related.{Related}

-- those of findings of a root over these answers, which are to be all that is found in it, in order
abbrev pub AreRelatedOver : (RootKey → Option RootAnswer) → List ℕ → List Finding
    → List (List Related) → Type 0
AreRelatedOver bank root findings related = AreRelated (expanded root bank).0 findings related
