-- Marks of digests: words of bits by which most of what isn't among something is told at once.
use Rattle.std.specs.Prelude.{◌≡◌, ℕ, ◌/◌, ◌%◌, ◌^◌, Bool, false, List, Option, None, bit_and, length, nat_eq, not, slice_index_or}

-- the place of a digest's word among so many, and which bit of that is its own: its first 10 bits
-- tell both
abbrev pub word_of : ℕ → ℕ → ℕ
word_of count digest = digest / 2 ^ 60 % count

abbrev pub bit_of : ℕ → ℕ
bit_of digest = digest / 2 ^ 54 % 64

-- whether a bit of a word is set
abbrev pub has_bit : ℕ → ℕ → Bool
has_bit word bit = not (nat_eq (bit_and word (2 ^ bit)) 0)

-- whether a digest is marked
unfoldable pub is_marked : List ℕ → ℕ → Bool
is_marked marks digest =
    has_bit (slice_index_or marks (word_of (length marks) digest) 0) (bit_of digest)

-- each key at which something is found has a marked digest: nothing is found at the others
abbrev pub AreMarked : {K V : Type 0} → List ℕ → (K → ℕ) → (K → Option V) → Type 0
AreMarked marks digest found =
    (key : _) → is_marked marks (digest key) ≡ false → found key ≡ None
