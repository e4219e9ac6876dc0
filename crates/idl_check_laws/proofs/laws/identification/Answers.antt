use Rattle.std.proofs.Common.{◌∷◌, ◌++◌, ap, refl}
use Rattle.std.specs.Prelude.{codes, decimal}
use Rattle.idl_entity.proofs.IdLemmas.{relative-elsewhere, relative-global, relative-inside}
use Rattle.idl_entity.specs.Identity.{prefixed, slashed}
use Rattle.idl_check_laws.proofs.laws.identification.Goals as goal

pub returns-clause-version : goal.returns-clause-version
returns-clause-version c = λ p path major minor. refl

pub returns-clause-typeprefix : goal.returns-clause-typeprefix
returns-clause-typeprefix c = λ text p path major minor.
    ap (λ names. codes "IDL:" ++ prefixed text ++ slashed names ++ 58 ∷ (decimal major ++ 46 ∷ decimal minor)) (relative-global path)

pub returns-clause-given : goal.returns-clause-given
returns-clause-given c = λ typeprefix p path id. refl

pub returns-clause-inside : goal.returns-clause-inside
returns-clause-inside c = relative-inside

pub returns-clause-elsewhere : goal.returns-clause-elsewhere
returns-clause-elsewhere c = relative-elsewhere
