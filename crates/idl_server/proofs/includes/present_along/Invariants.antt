use Rattle.std.proofs.Common.{◌≡◌, drop}
use Rattle.idl_source.specs.names.Candidates.{along, found}
use Rattle.idl_server.proofs.includes.present_along.Given as goal

-- none in the directories before
abbrev pub invariant-directories : goal.invariant-directories
invariant-directories l =
    let inputs = l.session.project.inputs in
    found inputs.files (along (drop l.at inputs.search) l.spelled) ≡ found inputs.files (along inputs.search l.spelled)
