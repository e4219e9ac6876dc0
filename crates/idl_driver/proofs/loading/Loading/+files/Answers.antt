use Rattle.std.proofs.Common.{ℕ, List, ap}
use Rattle.idl_loader.specs.Holding.{Holding}
use Rattle.idl_driver.specs.Tried.{IsLoading}
use Rattle.idl_driver.specs.declared.loading.Loading.{Loading}
use Rattle.idl_driver.proofs.LoadingLemmas.{loading-more, loading-named}
use Rattle.idl_driver.proofs.loading.Loading.+files.Goals as goal
use Rattle.idl_driver.proofs.loading.Loading.+files.Goals.{explore-in-Absent+in_ok-load_first-in-Absent, explore-in-Entered+in_ok-enter-in-Entered}

pub explore-steps-preserved : goal.explore-steps-preserved
explore-steps-preserved g t c =
    let told = g.L.Loader.told in
    let before = told c.args.loader.now in
    let more : (still : List ℕ → Holding) (new : Loading) → IsLoading (told c.steps.loader) still c.advance.new.self new → IsLoading before still c.args.self.now new = λ still new next.
    loading-more before (told c.steps.loader) still c.args.self.now c.steps.self c.advance.new.self new c.steps.invariant c.in_ok-names.ensures.sources c.in_ok-names.ensures.missing next in
    elim c.match-branch-2.branch [
      | explore-in-Absent+in_ok-load_first-in-Absent w ↦
          let new = w.load_first.new in
          loading-named before (told new.loader) _ c.args.self.now new.self _ (more (told new.loader) new.self w.in_ok-load_first-in-Absent.ensures) w.self-is (ap told w.loader-is)
      | explore-in-Entered+in_ok-enter-in-Entered w ↦
          let new = w.enter.new in
          loading-named before (told new.loader) _ c.args.self.now new.self _ (more (told new.loader) new.self w.in_ok-enter-in-Entered.ensures) w.self-is (ap told w.loader-is)
    ]
