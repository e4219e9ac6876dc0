-- The digest of a word, by its length.
use Rattle.std.proofs.Common.{◌≡◌, ◌∙◌, ◌-◌, ◌<◌, ◌≤◌, ℕ, Bool, List, drop, if◌then◌else◌, length, take, ap, sym, arith}
use Rattle.std.specs.Prelude.{nat_le}
use Rattle.std.specs.Int.{from_le_bytes, w32, w64}
use Rattle.std.proofs.lemmas.Bool.{le-leb, lt-leb}
use Rattle.idl_base.specs.Digest.{with_bytes}
use Rattle.idl_text.specs.Digest.{digest_of, ends, of_ends}

-- what it comes to where a word has fewer bytes
abbrev below-eight : List ℕ → ℕ
below-eight word = if nat_le 4 (length word) then ends w32 4 word else with_bytes 0 word

abbrev below-seventeen : List ℕ → ℕ
below-seventeen word = if nat_le 8 (length word) then ends w64 8 word else below-eight word

-- of a word of seventeen bytes or more
pub digest-whole : (word : List ℕ) → 17 ≤ length word → with_bytes 0 word ≡ digest_of word
unfolding digest_of
digest-whole word many =
    sym (ap (λ (b : Bool). if b then with_bytes 0 word else below-seventeen word) (le-leb 17 (length word) many))

-- of one of fewer
digest-below : (word : List ℕ) → length word < 17 → below-seventeen word ≡ digest_of word
unfolding digest_of
digest-below word few =
    sym (ap (λ (b : Bool). if b then with_bytes 0 word else below-seventeen word) (lt-leb 17 (length word) few))

-- of one of eight to sixteen
pub digest-long : (word first last : List ℕ) → length word < 17 → 8 ≤ length word → first ≡ take 8 word → last ≡ drop (length word - 8) word
    → of_ends (from_le_bytes w64 first) (from_le_bytes w64 last) ≡ digest_of word
digest-long word first last few long front back =
    (λ i. of_ends (from_le_bytes w64 (front i)) (from_le_bytes w64 (back i)))
    ∙ sym (ap (λ (b : Bool). if b then ends w64 8 word else below-eight word) (le-leb 8 (length word) long))
    ∙ digest-below word few

-- of one of four to seven
pub digest-middle : (word first last : List ℕ) → length word < 8 → 4 ≤ length word → first ≡ take 4 word → last ≡ drop (length word - 4) word
    → of_ends (from_le_bytes w32 first) (from_le_bytes w32 last) ≡ digest_of word
digest-middle word first last few long front back =
    (λ i. of_ends (from_le_bytes w32 (front i)) (from_le_bytes w32 (back i)))
    ∙ sym (ap (λ (b : Bool). if b then ends w32 4 word else with_bytes 0 word) (le-leb 4 (length word) long))
    ∙ sym (ap (λ (b : Bool). if b then ends w64 8 word else below-eight word) (lt-leb 8 (length word) few))
    ∙ digest-below word (omega (arith, few))

-- of one of three bytes or fewer
pub digest-short : (word : List ℕ) → length word < 4 → with_bytes 0 word ≡ digest_of word
digest-short word few =
    sym (ap (λ (b : Bool). if b then ends w32 4 word else with_bytes 0 word) (lt-leb 4 (length word) few))
    ∙ sym (ap (λ (b : Bool). if b then ends w64 8 word else below-eight word) (lt-leb 8 (length word) (omega (arith, few))))
    ∙ digest-below word (omega (arith, few))
