-- Digests: numbers of 64 bits by which something is found. No promise rests on how they are spread.
use Rattle.std.specs.Prelude.{ℕ, ◌+◌, ◌*◌, ◌%◌, ◌^◌, List}
use Rattle.std.specs.List.{fold}

-- a digest with one number more, by the multiplier of Knuth's MMIX
unfoldable pub mixed : ℕ → ℕ → ℕ
mixed digest n = (digest + n) % 2 ^ 64 * 6364136223846793005 % 2 ^ 64

-- a digest with more bytes
unfoldable pub with_bytes : ℕ → List ℕ → ℕ
with_bytes digest bytes = fold mixed digest bytes
