-- Digests of words: numbers by which words of which something is said are mostly told from the others. No promise rests on
-- how they are spread.
use Rattle.std.specs.Prelude.{ℕ, ◌-◌, List, drop, if◌then◌else◌, length, nat_le, take}
use Rattle.std.specs.Int.{Width, from_le_bytes, w32, w64}
use Rattle.idl_base.specs.Digest.{mixed, with_bytes}

-- the digest of a word whose first bytes and last ones are these numbers
abbrev pub of_ends : ℕ → ℕ → ℕ
of_ends first last = mixed (mixed 0 first) last

-- so many bytes at either end of a word
abbrev pub ends : Width → ℕ → List ℕ → ℕ
ends width n word = of_ends (from_le_bytes width (take n word)) (from_le_bytes width (drop (length word - n) word))

-- a digest of a word: of eight bytes at either end, or four, which are all that it has; of each byte where it has more than
-- sixteen, or fewer than four
unfoldable pub digest_of : List ℕ → ℕ
digest_of word =
    if nat_le 17 (length word) then with_bytes 0 word
    else if nat_le 8 (length word) then ends w64 8 word
    else if nat_le 4 (length word) then ends w32 4 word
    else with_bytes 0 word
