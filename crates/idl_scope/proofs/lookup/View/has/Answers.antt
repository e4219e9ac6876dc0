use Rattle.std.proofs.Common.{◌∙◌}
use Rattle.std.proofs.lemmas.Result.{IfOk-weaker}
use Rattle.idl_scope.specs.Finds.{those}
use Rattle.idl_scope.proofs.LookupLaws.LookupLaws.{has-from}
use Rattle.idl_scope.proofs.lookup.View.has.Goals as goal

pub returns : goal.returns
returns c =
    let facts = c.args.self.env.now in
    let own = c.args.self.own.now.additions in
    let after = c.found_in.new.log in
    IfOk-weaker c.into_vec.result _ _ (λ es same turns h.
    (λ i. (same i, after))
    ∙ has-from facts own turns h 18446744073709551615 c.args.log.now after c.args.place.kind c.args.place.path.now c.args.name.now (those c.in_ok-found.found) c.in_ok-found.ensures) c.into_vec.ensures
