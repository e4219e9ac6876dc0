use Rattle.std.proofs.Common.{◌≡◌, ◌≤◌, length, take}
use Rattle.idl_server.proofs.workspace.Workspace.roots.Given as goal

-- those before
abbrev pub invariant-roots : goal.invariant-roots
invariant-roots l =
    (l.names.items ≡ take l.at l.self.session.project.roots) × (l.at ≤ length l.self.session.project.roots)
