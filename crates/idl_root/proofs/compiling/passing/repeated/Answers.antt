use Rattle.idl_root.proofs.WholeLemmas.{same-block}
use Rattle.idl_root.proofs.compiling.passing.repeated.Goals as goal

pub returns : goal.returns
returns c = λ facts there text inside whole placed same told turns count.
    same-block c.standing.ensures.here c.taking.ensures.parts c.taking.ensures.here c.taking.ensures.alike (λ here task is. (c.taking.ensures.kept here task).0 is)
    c.resulting.ensures.units c.resulting.ensures.blocks facts there text inside whole placed same told turns count
