use Rattle.std.proofs.Common.{◌∙◌, sym}
use Rattle.idl_server.proofs.IncludeLemmas.{found-end, found-here, found-past}
use Rattle.idl_server.proofs.includes.present_along.Goals as goal

pub returns-in_err-directory : goal.returns-in_err-directory
returns-in_err-directory c =
    let inputs = c.args.session.now.project.inputs in
    c.from_residual.ensures ∙ sym (found-end inputs.files c.args.spelled.now inputs.search c.directories.at (sym c.in_err-directory.ensures)) ∙ c.directories.invariant

pub returns-in-Some : goal.returns-in-Some
returns-in-Some c =
    let inputs = c.args.session.now.project.inputs in
    sym (found-here inputs.files c.args.spelled.now inputs.search c.directories.at c.in_ok-directory.directory c.in-Some.found (sym c.in_ok-directory.ensures) (sym c.in-Some.ensures)) ∙ c.directories.invariant

pub directories-preserved : goal.directories-preserved
directories-preserved c =
    let inputs = c.args.session.now.project.inputs in
    found-past inputs.files c.args.spelled.now inputs.search c.directories.at c.in_ok-directory.directory (sym c.in_ok-directory.ensures) (sym c.in_default.ensures) ∙ c.directories.invariant
