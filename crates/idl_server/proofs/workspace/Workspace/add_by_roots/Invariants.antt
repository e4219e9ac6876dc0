use Rattle.std.proofs.Common.{take}
use Rattle.std.specs.List.{flat_map}
use Rattle.idl_server.specs.References.{AreAdded, named_by}
use Rattle.idl_server.proofs.workspace.Workspace.add_by_roots.Given as goal

-- those of the roots before
abbrev pub invariant-roots : goal.invariant-roots
invariant-roots l = AreAdded (flat_map (named_by l.self.session.project l.sought.declared l.sought.path.now l.sought.file.now) (take l.root-index l.held)) l.fn.named l.named
