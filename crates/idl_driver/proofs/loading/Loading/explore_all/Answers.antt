use Rattle.std.proofs.Common.{refl}
use Rattle.idl_driver.proofs.LoadingLemmas.{loading-more}
use Rattle.idl_driver.proofs.loading.Loading.explore_all.Goals as goal

pub roots-preserved : goal.roots-preserved
roots-preserved g c =
    let told = g.L.Loader.told in
    let new = c.explore_root.new in
    loading-more (told c.args.loader.now) (told c.roots.loader) (told new.loader) c.args.self.now c.roots.self c.roots.self new.self c.roots.invariant refl refl c.in_ok-explore_root.ensures
