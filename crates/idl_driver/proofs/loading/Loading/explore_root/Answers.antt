use Rattle.std.proofs.Common.{refl}
use Rattle.std.proofs.lemmas.Result.{on_ok_weaker}
use Rattle.idl_driver.proofs.LoadingLemmas.{loading-more}
use Rattle.idl_driver.proofs.loading.Loading.explore_root.Goals as goal

pub returns-in-Some : goal.returns-in-Some
returns-in-Some g c =
    let told = g.L.Loader.told in
    let own = c.own_file.new in
    on_ok_weaker c.explore.result
    (λ next. loading-more (told c.args.loader.now) (told own.loader) (told c.explore.new.loader) c.args.self.now own.self own.self c.explore.new.self c.in_ok-file.ensures refl refl next)
    c.explore.ensures
