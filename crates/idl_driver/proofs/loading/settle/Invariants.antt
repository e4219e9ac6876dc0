use Rattle.std.proofs.Common.{◌≡◌}
use Rattle.idl_driver.specs.Loading.{StaysAsked}
use Rattle.idl_driver.specs.Tried.{IsTrue}
use Rattle.idl_driver.proofs.loading.settle.Given as goal

abbrev pub invariant-rounds : goal.invariant-rounds
invariant-rounds g l = record {
  told : g.L.Loader.told l.loader ≡ g.L.Loader.told l.fn.loader;
  is_true : IsTrue (g.L.Loader.told l.fn.loader) l.loading.sources l.loading.missing.keys;
  stays : StaysAsked l.fn.loading.sources l.loading.sources;
}

abbrev pub decreases-rounds : goal.decreases-rounds
decreases-rounds g l = l.rounds_left
