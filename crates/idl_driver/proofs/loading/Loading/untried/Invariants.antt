use Rattle.std.proofs.Common.{take}
use Rattle.idl_driver.specs.Tried.{AreMissing}
use Rattle.idl_driver.proofs.loading.Loading.untried.Given as goal

abbrev pub invariant-roots : goal.invariant-roots
invariant-roots l = AreMissing l.self.missing.keys (take l.root-index l.compiled)
