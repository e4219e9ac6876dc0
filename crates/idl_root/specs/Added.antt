-- What a unit adds, on its way to the environment.
use Rattle.std.specs.Prelude.{List, [], ◌∷◌}
use Rattle.idl_root.specs.declared.kept.added.Added.{Added}
use Rattle.idl_root.specs.declared.kept.added.Added.TheVariants.{Nothing, Given, Kept}
use Rattle.idl_env.specs.Facts.{UnitFacts}

-- the facts of which it tells
abbrev pub told_by : Added → List UnitFacts
told_by Nothing = []
told_by (Given facts) = facts ∷ []
told_by (Kept declaration) = declaration.value.out.writes ∷ []
