-- The shelf has no drafts.
use Rattle.std.proofs.Common.{◌∙◌, ap}
use Rattle.idl_store.specs.Stored.{discarded}
use Rattle.idl_store.proofs.store.Store.discard.Goals as goal

pub returns : goal.returns
returns g c = c.discard.ensures ∙ ap (λ s. discarded s) c.self.view_is
