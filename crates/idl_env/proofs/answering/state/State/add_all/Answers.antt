use Rattle.std.proofs.Common.{ap}
use Rattle.std.proofs.lemmas.Result.{IfOk-weaker}
use Rattle.idl_env.specs.Held.{held}
use Rattle.idl_env.specs.Stamps.{Stamped}
use Rattle.idl_env.proofs.answering.state.State.add_all.Goals as goal

pub returns-clause-world : goal.returns-clause-world
returns-clause-world c =
    let w = held c.args.self.now in
    let put = ap (λ (a : Stamped). a.at) c.in_ok-put_unstopped.ensures in
    IfOk-weaker c.add_inside.result _ _ (λ _ h. λ i. record w { answers = put i; inside = h i }) c.add_inside.ensures
