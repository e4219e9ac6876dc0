use Rattle.std.proofs.Common.{arith}
use Rattle.idl_editor.specs.told.Found.{findings_in}
use Rattle.idl_server.proofs.FoundLemmas.{roots-end, roots-past, roots-step}
use Rattle.idl_server.proofs.found.all_found.Goals as goal

pub returns-in_default : goal.returns-in_default
returns-in_default c = roots-end c.args.session.now.project c.args.name.now c.roots.root (findings_in c.roots.found.items) c.in_default.ensures c.roots.invariant

pub roots-preserved : goal.roots-preserved
roots-preserved c =
    roots-step c.args.session.now.project c.args.name.now c.roots.root c.in-Some.findings.now (findings_in c.roots.found.items) (findings_in c.put_all.new.found.items)
    c.in-Some.ensures c.roots.invariant c.in_ok-put_all.ensures

pub returns : goal.returns
returns c =
    let limits = c.keeps_form.ensures.within in
    roots-past c.args.session.now.project c.args.name.now c.roots.root (findings_in c.roots.found.items) (omega (arith, limits.roots, c.roots-test.false)) c.roots.invariant
