use Rattle.idl_driver.specs.Tried.{IsLoading}
use Rattle.idl_driver.proofs.loading.Loading.load_first.Given as goal

abbrev pub invariant-names : goal.invariant-names
invariant-names g l = IsLoading (g.L.Loader.told l.fn.loader) (g.L.Loader.told l.loader) l.fn.self l.self
