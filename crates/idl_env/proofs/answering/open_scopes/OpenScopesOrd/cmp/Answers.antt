use Rattle.std.proofs.Common.{◌∙◌}
use Rattle.idl_env.proofs.OrderLemmas.{order-first}
use Rattle.idl_env.proofs.answering.open_scopes.OpenScopesOrd.cmp.Goals as goal

pub returns-in-Some-Some : goal.returns-in-Some-Some
returns-in-Some-Some c =
    c.cmp.ensures
    ∙ order-first _ _ _ _ c.in-Some-Some.ensures c.in-Some-Some.ensures' c.behind_same.ensures.apart
    ∙ c.behind_same.ensures.order
