use Rattle.std.proofs.Common.{◌≡◌, Bool, true, false, cond, List, ℕ, Option, None, Some, map, refl, ap}
use Rattle.std.specs.Option.{option_map}
use Rattle.idl_event.specs.declared.told.event.Event.{Event}
use Rattle.idl_event.specs.declared.asked.key.RootAnswer.{RootAnswer}
use Rattle.idl_event.specs.declared.asked.key.RootKey.{RootKey}
use Rattle.idl_fault.specs.declared.place.Place.{Place}
use Rattle.idl_prep.specs.Root.{expanded}
use Rattle.idl_sources.specs.idl_root.Compile.{compile}
use Rattle.idl_finding.specs.Findings.{finding_row}
use Rattle.idl_inputs.specs.Bank.{bank_of}
use Rattle.idl_sources.specs.Compile.{compile_over, compiled_root, end_of}
use Rattle.idl_inputs.specs.Project.{is_root}
use Rattle.idl_sources.specs.declared.compile.CompiledRoot.{CompiledRoot}
use Rattle.idl_project.proofs.compile.diagnostics_are_findings.Goals as goal

-- a root's diagnostics are the rows of what is found in it
abbrev AreRows : CompiledRoot → Type 0
AreRows root = root.rows.diagnostics ≡ map finding_row root.rows.findings

rows-over : ((end : Place) (events : List Event) → (compile end events).diagnostics ≡ map finding_row (compile end events).findings)
    → (bank : RootKey → Option RootAnswer) (name : List ℕ) → AreRows (compile_over bank name)
unfolding compile_over
rows-over law bank name = law (end_of bank name) (expanded name bank).0

rows-answered : (b : Bool) (root : CompiledRoot) → AreRows root
    → option_map (λ (r : CompiledRoot). r.rows.diagnostics) (cond b (Some root) None)
    ≡ option_map (map finding_row) (option_map (λ (r : CompiledRoot). r.rows.findings) (cond b (Some root) None))
rows-answered true root h = ap Some h
rows-answered false root h = refl

pub returns : goal.returns
returns c = λ project name. rows-answered (is_root project name) (compiled_root project.inputs name) (rows-over c.telling.ensures.rows (bank_of project.inputs) name)
