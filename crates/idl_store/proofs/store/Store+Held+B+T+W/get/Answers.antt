-- What stands there is what the shelf has there.
use Rattle.std.proofs.Common.{◌∙◌, Some, ap}
use Rattle.idl_store.specs.Stored.{result_at}
use Rattle.idl_store.proofs.store.Store+Held+B+T+W.get.Goals as goal

pub returns-in-Some : goal.returns-in-Some
returns-in-Some g c = ap Some (c.deref.ensures ∙ c.shared.ensures) ∙ c.in-Some.ensures ∙ ap (λ s. result_at s c.args.list c.args.place) c.self.view_is

pub returns-in-None : goal.returns-in-None
returns-in-None g c = c.in-None.ensures ∙ ap (λ s. result_at s c.args.list c.args.place) c.self.view_is
