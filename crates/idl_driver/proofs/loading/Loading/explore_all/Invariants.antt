use Rattle.idl_driver.specs.Tried.{IsLoading}
use Rattle.idl_driver.proofs.loading.Loading.explore_all.Given as goal

abbrev pub invariant-roots : goal.invariant-roots
invariant-roots g l = IsLoading (g.L.Loader.told l.fn.loader) (g.L.Loader.told l.loader) l.fn.self l.self
