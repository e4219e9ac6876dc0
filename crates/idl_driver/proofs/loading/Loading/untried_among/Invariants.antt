use Rattle.std.proofs.Common.{All, Contains, take}
use Rattle.idl_driver.proofs.loading.Loading.untried_among.Given as goal

abbrev pub invariant-names : goal.invariant-names
invariant-names l = All (λ name. Contains l.self.missing.keys name) (take l.name-index l.names)
