-- Words.
use Rattle.std.specs.Prelude.{ℕ, Bool, false, ◌&&◌, List, [], ◌∷◌}
use Rattle.std.specs.List.{list_all}
use Rattle.idl_lex.specs.bytes.Byte.{is_word_start, is_word_byte}

-- a word: a letter or `_`, and then letters, digits and `_`
abbrev pub is_word : List ℕ → Bool
is_word [] = false
is_word (b ∷ rest) = is_word_start b && list_all is_word_byte rest
