use Rattle.std.proofs.Common.{◌≡◌, List, IfErr, rules, subst}
use Rattle.idl_session.specs.idl_project.idl_sources.declared.compile.CompiledRoot.{CompiledRoot}
use Rattle.idl_driver.specs.Written.{Written}
use Rattle.idl_driver.specs.declared.failure.ProgramFailure.TheVariants.{WriteFailed}
use Rattle.idl_driver.proofs.ToldLemmas.{until-none, until-write}
use Rattle.idl_program.specs.Rows.{AreShown}
use Rattle.idl_program.proofs.CompiledLemmas.{shown}
use Rattle.idl_program.proofs.program.compile.Goals as goal

pub returns-clause-compiled : goal.returns-clause-compiled
returns-clause-compiled g c =
    let options = c.args.options.now in
    let all = c.in_ok-compilation.compilation in
    let is = c.in_ok-compilation.ensures.compiled in
    let status = c.in_ok-status.status in
    let before : Written = record { errors = g.E.Sink.written c.args.devices.now.errors; output = g.O.Sink.written c.args.devices.now.output } in
    let after : Written = record { errors = g.E.Sink.written c.show_all.new.devices.errors; output = g.O.Sink.written c.show_all.new.devices.output } in
    record {
      inputs = all.sources;
      roots = all.roots.keys;
      asked = is.asked;
      formed = is.formed;
      loaded = is.loaded;
      complete = is.complete;
      shown = shown options all.sources all.roots.keys all.compiled.items before after status is.compiled
          (subst (λ (rs : List CompiledRoot). AreShown options rs before after status) c.deref.ensures.value c.in_ok-status.ensures.shown);
    }

pub returns-in_err-compilation-clause-until : goal.returns-in_err-compilation-clause-until
returns-in_err-compilation-clause-until g c = until-none c.from_residual.result (g.E.Sink.written c.args.devices.now.errors)

pub returns-in_err-status-clause-until : goal.returns-in_err-status-clause-until
returns-in_err-status-clause-until g c =
    let r = c.from_residual-in_err-status.result in
    let why : IfErr r (λ failed. failed ≡ WriteFailed) = search rules in
    until-write r (g.E.Sink.written c.args.devices.now.errors) (g.E.Sink.written c.show_all.new.devices.errors) why c.in_err-status.ensures.until
