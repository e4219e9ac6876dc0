use Rattle.std.proofs.Common.{◌≡◌, ℕ, List, length, refl, rules, subst}
use Rattle.std.proofs.lemmas.List.{take_all}
use Rattle.idl_driver.specs.Left.{AreAllBut, IsParted}
use Rattle.idl_driver.proofs.LeftLemmas.{left-next}
use Rattle.idl_driver.proofs.LoadingLemmas.{loading-kept, loading-more}
use Rattle.idl_driver.proofs.loading.Loading.part.Goals as goal

pub roots-preserved : goal.roots-preserved
roots-preserved g c =
    let told = g.L.Loader.told in
    let before = told c.args.loader.now in
    let explored = c.explore_root.new in
    let first = loading-more before (told c.roots.loader) (told explored.loader) c.args.self.now c.roots.self c.roots.self explored.self c.roots.invariant.loading refl refl c.in_ok-explore_root.ensures in
    let parted : IsParted c.root-item.result c.roots.sound.items c.part_root.new.sound.items (length c.roots.faults.items) (length c.part_root.new.faults.items) = search rules in
    record {
      loading = loading-more before (told explored.loader) (told explored.loader) c.args.self.now explored.self explored.self c.part_root.new.self first refl refl
          (loading-kept (told explored.loader) (told explored.loader) explored.self c.part_root.new.self refl c.part_root.ensures.sources c.part_root.ensures.missing);
      left = left-next c.args.roots.now c.roots.root-index c.root-item.result c.roots.sound.items c.part_root.new.sound.items (length c.roots.faults.items) (length c.part_root.new.faults.items)
          c.roots-test.true c.root-item.is c.roots.invariant.left parted;
    }

pub returns-clause-left : goal.returns-clause-left
returns-clause-left g c =
    let roots = c.args.roots.now in
    subst (λ (rs : List (List ℕ)). AreAllBut rs (length c.roots.faults.items) c.roots.sound.items) (take_all c.roots.root-index roots c.roots-test.false) c.roots.invariant.left
