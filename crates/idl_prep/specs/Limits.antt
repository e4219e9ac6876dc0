-- How deep files may stand in one another.
use Rattle.std.specs.Prelude.{ℕ}

-- files that may be open at once, the root's among them
abbrev pub depth_at_most : ℕ
depth_at_most = 64
