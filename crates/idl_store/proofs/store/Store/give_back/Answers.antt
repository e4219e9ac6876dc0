-- What the shelf has stays.
use Rattle.std.proofs.Common.{◌∙◌}
use Rattle.idl_store.proofs.store.Store.give_back.Goals as goal

pub returns : goal.returns
returns g c = c.give_back.ensures ∙ c.self.view_is
