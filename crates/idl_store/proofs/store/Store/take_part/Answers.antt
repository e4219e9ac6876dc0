-- The shelf takes the part.
use Rattle.std.proofs.Common.{◌≡◌, OnErr, OnOk, subst}
use Rattle.idl_store.specs.Spots.{results_from}
use Rattle.idl_store.specs.Stored.{grown}
use Rattle.idl_store.proofs.store.Store.take_part.Goals as goal

pub returns-clause-ok : goal.returns-clause-ok
returns-clause-ok g c = subst (λ s. OnOk c.take_part.result (c.take_part.new.self.stored ≡ grown s (results_from s c.args.from c.args.count))) c.self.view_is c.take_part.ensures.ok

pub returns-clause-err : goal.returns-clause-err
returns-clause-err g c = subst (λ s. OnErr c.take_part.result (c.take_part.new.self.stored ≡ s)) c.self.view_is c.take_part.ensures.err
