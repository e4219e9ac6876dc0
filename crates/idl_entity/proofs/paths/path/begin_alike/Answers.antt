use Rattle.std.proofs.Common.{ℕ, List, ◌∷◌, ap, ◌∙◌}
use Rattle.idl_entity.specs.Digest.{path_digest}
use Rattle.idl_entity.proofs.PathLemmas.{digests_differ}
use Rattle.idl_entity.proofs.paths.path.begin_alike.Goals as goal

pub returns-else-mine-theirs-clause-differ : goal.returns-else-mine-theirs-clause-differ
returns-else-mine-theirs-clause-differ c =
    let digest = λ (seen : List ℕ × List (List ℕ)). path_digest (seen.0 ∷ seen.1) in
    digests_differ _ _ _ _ (c.mine.invariant.1 ∙ ap digest c.mine.view_is) (c.theirs.invariant.1 ∙ ap digest c.theirs.view_is)
