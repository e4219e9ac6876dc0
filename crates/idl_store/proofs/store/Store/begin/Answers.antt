-- The shelf begins a draft.
use Rattle.std.proofs.Common.{◌≡◌, OnErr, OnOk, subst}
use Rattle.idl_store.specs.Stored.{begun}
use Rattle.idl_store.proofs.store.Store.begin.Goals as goal

pub returns-clause-ok : goal.returns-clause-ok
returns-clause-ok g c = subst (λ s. OnOk c.begin.result (c.begin.new.self.stored ≡ begun s c.args.at)) c.self.view_is c.begin.ensures.ok

pub returns-clause-err : goal.returns-clause-err
returns-clause-err g c = subst (λ s. OnErr c.begin.result (c.begin.new.self.stored ≡ s)) c.self.view_is c.begin.ensures.err
