use Rattle.std.proofs.Common.{◌∙◌, ap, sym}
use Rattle.std.specs.Option.{option_copied}
use Rattle.idl_project.specs.UpToDate.{findings_of}
use Rattle.idl_server.proofs.FoundLemmas.{found-at}
use Rattle.idl_server.proofs.found.findings_at.Goals as goal

pub returns-in-Some : goal.returns-in-Some
returns-in-Some c =
    let project = c.args.session.now.project in
    c.findings.ensures ∙ ap (findings_of project) c.as_bytes.ensures.bytes
    ∙ found-at project c.args.root c.in-Some.name.now (sym (ap option_copied c.in-Some.is) ∙ c.root.ensures)
