-- A line: bytes without newline.
use Rattle.std.specs.Prelude.{ℕ, List, Contains}

-- the byte that ends a line
abbrev pub newline : ℕ
newline = 10

abbrev pub IsLine : List ℕ → Type 0
IsLine bytes = ¬ Contains bytes newline
