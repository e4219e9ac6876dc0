-- What is told of the names of a root as data, when it is asked.
use Rattle.std.specs.Prelude.{ℕ, List, Option}
use Rattle.idl_event.specs.declared.asked.key.RootAnswer.{RootAnswer}
use Rattle.idl_event.specs.declared.asked.key.RootKey.{RootKey}
use Rattle.idl_prep.specs.Root.{expanded}
use Rattle.idl_root.specs.Details.{details}
use Rattle.idl_root.specs.declared.compiling.detailing.Details.{Details}

-- that of a root over these answers
abbrev pub details_over : (RootKey → Option RootAnswer) → List ℕ → Details
details_over bank root = details (expanded root bank).0
