-- The last draft is that of the shelf.
use Rattle.std.proofs.Common.{◌∙◌, ap, length}
use Rattle.idl_store.specs.Stored.{last_draft}
use Rattle.idl_store.proofs.store.Store.drafted.Goals as goal

pub returns : goal.returns
returns g c = c.drafted.ensures ∙ ap (λ s. length (last_draft s)) c.self.view_is
