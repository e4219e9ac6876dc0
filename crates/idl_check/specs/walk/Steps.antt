-- A walk over a unit that goes on a site at a time.
use Rattle.std.specs.Prelude.{List}
use Rattle.idl_check.specs.walk.Walk.{Walk}
use Rattle.idl_env.specs.Facts.{UnitFacts}

-- how far it has come over these facts
pub record Stepped : Type 0 where
  pub facts : List UnitFacts
  pub walk : Walk
