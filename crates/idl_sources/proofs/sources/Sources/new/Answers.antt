use Rattle.std.proofs.Common.{ap, subst, sym}
use Rattle.idl_inputs.specs.Made.{rootless}
use Rattle.idl_inputs.specs.Project.{Project}
use Rattle.idl_inputs.specs.WellFormed.{IsWellFormed}
use Rattle.idl_inputs.proofs.FormLemmas.{none-formed}
use Rattle.idl_sources.proofs.sources.Sources.new.Goals as goal

pub invariant_of-result : goal.invariant_of-result
invariant_of-result c = subst (λ (p : Project). IsWellFormed p) (ap rootless (sym c.new-2.ensures)) none-formed
