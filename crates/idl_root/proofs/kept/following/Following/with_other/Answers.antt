use Rattle.std.proofs.lemmas.Result.{IfOk-weaker}
use Rattle.idl_root.proofs.TakenLemmas.{some-weaker}
use Rattle.idl_root.proofs.kept.following.Following.with_other.Goals as goal

pub returns-then-is_none : goal.returns-then-is_none
returns-then-is_none c =
    IfOk-weaker c.with_more.result _ _ (λ found more. some-weaker found _ _ (λ f more earlier b. more c.args.kept.now.lists earlier c.args.env.now b) more) c.with_more.ensures
