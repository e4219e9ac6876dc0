-- What a sink over a buffer of fixed length holds.
use Rattle.std.specs.Prelude.{ℕ, List}

-- how many bytes it takes in all, those that were written, and how many writes failed
pub record Buffered : Type 0 where
  pub capacity : ℕ
  pub bytes : List ℕ
  pub failures : ℕ
