-- The table of bytes: what it tells of each byte.
use Rattle.std.proofs.Common.{◌≡◌, ◌∙◌, ◌<◌, ℕ, nat_eq, Bool, false, length, map, refl, sym, ap, arith}
use Rattle.std.proofs.Math.ListN.{get_or}
use Rattle.std.proofs.lemmas.List.FromFn.{get_or-map-range_with_len}
use Rattle.std.specs.Prelude.{nat_le}
use Rattle.std.specs.List.{range_with_len}
use Rattle.idl_lex.specs.bytes.Byte.{is_space, is_word_byte, is_word_start}
use Rattle.idl_lex.specs.bytes.ByteTable.{classes}
use Rattle.idl_lex.specs.kinds.Marks.{is_lone_mark}

pub classes-length : length classes ≡ 256
unfolding classes
classes-length = refl

-- two tests that tell the same of each byte
told : (f g : ℕ → Bool) → map f (range_with_len 0 256) ≡ map g (range_with_len 0 256) → (b : ℕ) → b < 256 → f b ≡ g b
told f g same b lt =
    sym (get_or-map-range_with_len f 0 256 b b false lt (omega arith))
    ∙ ap (λ bs. get_or bs b false) same
    ∙ get_or-map-range_with_len g 0 256 b b false lt (omega arith)

pub space_told : (b : ℕ) → b < 256 → nat_eq (get_or classes b 0) 1 ≡ is_space b
unfolding classes
space_told = told (λ b. nat_eq (get_or classes b 0) 1) is_space all where
  all : map (λ b. nat_eq (get_or classes b 0) 1) (range_with_len 0 256) ≡ map is_space (range_with_len 0 256)
  all = refl

pub lone_mark_told : (b : ℕ) → b < 256 → nat_eq (get_or classes b 0) 2 ≡ is_lone_mark b
unfolding classes
lone_mark_told = told (λ b. nat_eq (get_or classes b 0) 2) is_lone_mark all where
  all : map (λ b. nat_eq (get_or classes b 0) 2) (range_with_len 0 256) ≡ map is_lone_mark (range_with_len 0 256)
  all = refl

pub word_start_told : (b : ℕ) → b < 256 → nat_eq (get_or classes b 0) 4 ≡ is_word_start b
unfolding classes
word_start_told = told (λ b. nat_eq (get_or classes b 0) 4) is_word_start all where
  all : map (λ b. nat_eq (get_or classes b 0) 4) (range_with_len 0 256) ≡ map is_word_start (range_with_len 0 256)
  all = refl

pub word_byte_told : (b : ℕ) → b < 256 → nat_le 3 (get_or classes b 0) ≡ is_word_byte b
unfolding classes
word_byte_told = told (λ b. nat_le 3 (get_or classes b 0)) is_word_byte all where
  all : map (λ b. nat_le 3 (get_or classes b 0)) (range_with_len 0 256) ≡ map is_word_byte (range_with_len 0 256)
  all = refl
