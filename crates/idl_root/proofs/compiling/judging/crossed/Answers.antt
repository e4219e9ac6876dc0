use Rattle.std.proofs.Common.{◌∷◌, ◌++◌, ◌∙◌, [], ap, subst, sym}
use Rattle.idl_env.specs.Facts.{UnitFacts}
use Rattle.idl_root.specs.Followed.{IsKeeping}
use Rattle.idl_root.proofs.compiling.judging.crossed.Goals as goal

pub cross-requires : goal.cross-requires
cross-requires c = c.in_ok-facts.ensures ∙ ap (λ (f : UnitFacts). f ∷ []) (sym c.get.ensures)

pub returns-clause-added : goal.returns-clause-added
returns-clause-added c = sym c.in_ok-facts.ensures

pub returns-clause-keeping : goal.returns-clause-keeping
returns-clause-keeping c = λ lists is.
    subst (λ l. IsKeeping lists c.cross.new.self (c.args.env.now ++ l))
    (ap (λ (f : UnitFacts). f ∷ []) c.get.ensures ∙ sym c.in_ok-facts.ensures)
    (c.in_ok-cross.ensures.keeping lists is)
