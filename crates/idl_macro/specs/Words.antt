-- The words of macros.
use Rattle.std.specs.Prelude.{ℕ, Bool, ◌&&◌, not, List, codes}
use Rattle.std.specs.Str.{bytes_eq}
use Rattle.idl_lex.specs.kinds.Word.{is_word}

-- a word that can be that of a macro: any but `defined`
abbrev pub is_macro_word : List ℕ → Bool
is_macro_word word = is_word word && not (bytes_eq word (codes "defined"))
