use Rattle.std.proofs.Common.{◌∙◌, subst, sym}
use Rattle.std.specs.Prelude.{IfSome}
use Rattle.idl_root.specs.Followed.{IsFollowed}
use Rattle.idl_root.proofs.TakenLemmas.{found-weaker}
use Rattle.idl_root.proofs.kept.keeping.Keeping.caught_up.Goals as goal

pub returns-in-Some-clause-followed : goal.returns-in-Some-clause-followed
returns-in-Some-clause-followed c =
    found-weaker c.caught_up.result _ _
    (λ f more facts k.
    more c.args.self.now.earlier facts
    (subst (λ o. IfSome o (λ f. IsFollowed c.args.kept.now.lists c.args.self.now.earlier f facts)) (sym c.replace.ensures.value ∙ c.in-Some.is) k))
    c.caught_up.ensures
