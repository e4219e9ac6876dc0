-- What stands there is what the shelf has there.
use Rattle.std.proofs.Common.{◌≡◌, subst}
use Rattle.std.specs.Prelude.{IsTrue}
use Rattle.idl_store.specs.Spots.{result_on}
use Rattle.idl_store.proofs.store.Store.is_one.Goals as goal

pub returns : goal.returns
returns g c = subst (λ s. IsTrue c.is_one.result → result_on s c.args.spot ≡ result_on s c.args.other) c.self.view_is c.is_one.ensures
