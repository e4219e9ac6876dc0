use Rattle.std.proofs.Common.{[], refl, subst, sym}
use Rattle.idl_inputs.specs.Project.{no_project}
use Rattle.idl_session.specs.idl_project.Work.{no_work}
use Rattle.idl_driver.specs.Written.{Written}
use Rattle.idl_driver.proofs.ToldLemmas.{until-none}
use Rattle.idl_program.specs.Served.{AreAnswered, IsDone}
use Rattle.idl_loader.specs.declared.status.Status.TheVariants.{Sound}
use Rattle.idl_program.specs.declared.request.CompilerRequest.{CompilerRequest}
use Rattle.idl_program.proofs.ServedLemmas.{answered}
use Rattle.idl_program.proofs.program.fulfil.Goals as goal

pub returns-in_ok-run-in-Serve-clause-done : goal.returns-in_ok-run-in-Serve-clause-done
returns-in_ok-run-in-Serve-clause-done g c =
    let told = g.L.Loader.told c.args.devices.now.loader in
    let input = g.S.Source.remaining c.args.devices.now.source in
    let before : Written = record { errors = g.E.Sink.written c.args.devices.now.errors; output = g.O.Sink.written c.args.devices.now.output } in
    let after : Written = record { errors = g.E.Sink.written c.args.devices.now.errors; output = g.O.Sink.written c.run.new.sink } in
    let are : AreAnswered input before after Sound = record {
      output = answered input before.output after.output c.new-session.result (record { project = no_project; work = no_work; touched = [] }) c.run.new.session c.new-session.ensures c.in_ok-run-in-Serve.ensures.replied;
      errors = refl;
      sound = refl;
    } in
    subst (λ (r : CompilerRequest). IsDone told input before after Sound r) (sym c.in-Serve.is) are

pub returns-in_err-write_all-in-Show-clause-until : goal.returns-in_err-write_all-in-Show-clause-until
returns-in_err-write_all-in-Show-clause-until g c = until-none c.from_residual.result (g.E.Sink.written c.args.devices.now.errors)

pub returns-in_err-run-in-Serve-clause-until : goal.returns-in_err-run-in-Serve-clause-until
returns-in_err-run-in-Serve-clause-until g c = until-none c.from_residual-in_err-run-in-Serve.result (g.E.Sink.written c.args.devices.now.errors)
