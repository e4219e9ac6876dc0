-- A list has what the shelf has there.
use Rattle.std.proofs.Common.{◌∙◌, ap, length}
use Rattle.idl_store.specs.Stored.{list_at}
use Rattle.idl_store.proofs.store.Store.results.Goals as goal

pub returns : goal.returns
returns g c = c.results.ensures ∙ ap (λ s. length (list_at s.lists c.args.list)) c.self.view_is
