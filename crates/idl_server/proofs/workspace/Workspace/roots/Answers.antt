use Rattle.std.proofs.Common.{◌∙◌, ◌++◌, ◌∷◌, [], sym}
use Rattle.idl_server.proofs.RootLemmas.{roots-more}
use Rattle.idl_server.proofs.workspace.Workspace.roots.Goals as goal

pub roots-preserved : goal.roots-preserved
roots-preserved c =
    roots-more c.args.self.now.session.project.roots c.roots.at c.in-Some.root.now _ (sym c.in-Some.ensures)
    (c.in_ok-push-in-Some.ensures.items ∙ (λ i. c.roots.invariant.0 i ++ c.copied.ensures i ∷ []))
