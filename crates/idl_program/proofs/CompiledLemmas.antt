-- What goes out of compiled roots.
use Rattle.std.proofs.Common.{◌≡◌, ◌∙◌, ℕ, List, ap, map, subst, sym, if◌then◌else◌}
use Rattle.std.proofs.lemmas.List.Folds.{flat_map-map}
use Rattle.std.specs.List.{flat_map}
use Rattle.clap.proofs.WalkLemmas.{list_any-map}
use Rattle.idl_source.specs.devices.Device.{append}
use Rattle.idl_session.specs.idl_project.idl_sources.Compile.{compiled_root}
use Rattle.idl_inputs.specs.Project.{Inputs}
use Rattle.idl_session.specs.idl_project.idl_sources.declared.compile.CompiledRoot.{CompiledRoot}
use Rattle.idl_loader.specs.Lines.{whole_line}
use Rattle.idl_loader.specs.declared.status.Status.{Status}
use Rattle.idl_loader.specs.declared.status.Status.TheVariants.{Sound, Faulty}
use Rattle.idl_driver.specs.Written.{Written}
use Rattle.idl_driver.specs.declared.options.Options.{Options}
use Rattle.idl_program.specs.Compiled.{IsShown}
use Rattle.idl_program.specs.Rows.{AreShown, output_of}

-- what goes out of compiled roots is what goes out of the roots
pub shown : (options : Options) (inputs : Inputs) (roots : List (List ℕ)) (compiled : List CompiledRoot) (before after : Written) (status : Status)
    → compiled ≡ map (compiled_root inputs) roots → AreShown options compiled before after status → IsShown options inputs roots before after status
shown options inputs roots compiled before after status rows is =
    let own : AreShown options (map (compiled_root inputs) roots) before after status = subst (λ (rs : List CompiledRoot). AreShown options rs before after status) rows is in
    record {
      errors = own.errors ∙ ap (append before.errors) (flat_map-map (λ (r : CompiledRoot). flat_map whole_line r.rows.diagnostics) (compiled_root inputs) roots);
      output = own.output ∙ ap (append before.output) (flat_map-map (λ (r : CompiledRoot). flat_map whole_line (output_of options r)) (compiled_root inputs) roots);
      ending = own.ending ∙ ap (λ b. if b then Faulty else Sound) (sym (list_any-map (λ (r : CompiledRoot). r.rows.is_faulty) (compiled_root inputs) roots));
    }
