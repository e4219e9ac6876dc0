use Rattle.std.proofs.Common.{◌≡◌, map, take}
use Rattle.idl_sources.specs.Compile.{compiled_root}
use Rattle.idl_driver.proofs.loading.compile_each.Given as goal

abbrev pub invariant-roots : goal.invariant-roots
invariant-roots l = record {
  rows : l.compiled.items ≡ map (compiled_root l.fn.sources) (take l.root-index l.roots);
  same : l.sources ≡ l.fn.sources;
}
