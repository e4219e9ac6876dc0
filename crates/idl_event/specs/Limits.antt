-- The limits of a root.
use Rattle.std.specs.Prelude.{ℕ}

-- turns: replacements, and directives that aren't skipped
abbrev pub turns_at_most : ℕ
turns_at_most = 1000000

-- tokens that are emitted, with those that conditions and operands of `include` give
abbrev pub tokens_at_most : ℕ
tokens_at_most = 1000000
