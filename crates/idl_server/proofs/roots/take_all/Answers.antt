use Rattle.std.proofs.Common.{inl}
use Rattle.idl_server.proofs.CoveredLemmas.{still-there, taken-more}
use Rattle.idl_server.proofs.roots.take_all.Goals as goal

pub names-init : goal.names-init
names-init c = record { left = λ name there. inl there; few = λ name there. there }

-- one name more
pub names-preserved : goal.names-preserved
names-preserved c = record {
  left =
      taken-more c.args.asked.now c.names.name-index c.name-item.result c.args.names.now.keys c.names.names.keys c.shift_remove.new.self.keys
      c.names-test.true c.name-item.is c.shift_remove.ensures.updates.0 c.names.invariant.left;
  few = λ name there. c.names.invariant.few name (still-there _ _ _ (c.shift_remove.ensures.updates.0 name) there);
}
