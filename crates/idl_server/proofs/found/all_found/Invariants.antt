use Rattle.std.proofs.Common.{◌≡◌, take}
use Rattle.std.specs.List.{flat_map}
use Rattle.idl_editor.specs.told.Found.{findings_in}
use Rattle.idl_server.specs.Found.{found_by}
use Rattle.idl_server.proofs.found.all_found.Given as goal

-- what the roots before find
abbrev pub invariant-roots : goal.invariant-roots
invariant-roots l = findings_in l.found.items ≡ flat_map (found_by l.session.project.inputs l.name) (take l.root l.session.project.roots)
