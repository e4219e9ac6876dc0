use Rattle.std.proofs.Common.{◌+◌, ◌*◌}
use Rattle.idl_driver.specs.Tried.{IsLoading}
use Rattle.idl_driver.proofs.loading.Loading.+files.Given as goal

abbrev pub decreases-enter : goal.decreases-enter
decreases-enter g l = 2 * l.room

abbrev pub decreases-explore : goal.decreases-explore
decreases-explore g l = 2 * l.room + 1

abbrev pub invariant-explore-steps : goal.invariant-explore-steps
invariant-explore-steps g l = IsLoading (g.L.Loader.told l.fn.loader) (g.L.Loader.told l.loader) l.fn.self l.self
