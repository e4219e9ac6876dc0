-- What stands there is what the shelf has there.
use Rattle.std.proofs.Common.{◌∙◌, Some, ap}
use Rattle.idl_store.specs.Spots.{result_on}
use Rattle.idl_store.proofs.store.Store+Held+B+T+W.at.Goals as goal

pub returns-in-Some : goal.returns-in-Some
returns-in-Some g c = ap Some c.shared.ensures ∙ c.in-Some.ensures ∙ ap (λ s. result_on s c.args.spot) c.self.view_is

pub returns-in-None : goal.returns-in-None
returns-in-None g c = c.in-None.ensures ∙ ap (λ s. result_on s c.args.spot) c.self.view_is
