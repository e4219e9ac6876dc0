use Rattle.std.proofs.Common.{◌≡◌, map, take}
use Rattle.std.specs.List.{AllZip}
use Rattle.idl_tool.specs.There.{IsHad}
use Rattle.idl_tool.proofs.there.had.Given as goal

-- those so far, by a loader that tells what it told
abbrev pub invariant-files : goal.invariant-files
invariant-files g l = record {
  had : AllZip (IsHad (g.L.Loader.told l.fn.loader)) (map (λ w. w.now) (take l.file-index l.files)) l.had.items;
  still : g.L.Loader.told l.loader ≡ g.L.Loader.told l.fn.loader;
}
