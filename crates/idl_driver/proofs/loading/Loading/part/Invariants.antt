use Rattle.std.proofs.Common.{length, take}
use Rattle.idl_driver.specs.Left.{AreAllBut}
use Rattle.idl_driver.specs.Tried.{IsLoading}
use Rattle.idl_driver.proofs.loading.Loading.part.Given as goal

-- those of the roots before are parted
abbrev pub invariant-roots : goal.invariant-roots
invariant-roots g l = record {
  loading : IsLoading (g.L.Loader.told l.fn.loader) (g.L.Loader.told l.loader) l.fn.self l.self;
  left : AreAllBut (take l.root-index l.roots) (length l.faults.items) l.sound.items;
}
