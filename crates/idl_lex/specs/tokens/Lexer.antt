-- The tokens that are still to come, by what a line begins in.
use Rattle.std.specs.Prelude.{ℕ, Bool, false, not, ◌&&◌, List, [], ◌∷◌, nat_eq, if◌then◌else◌}
use Rattle.idl_source.specs.texts.Line.{newline}
use Rattle.idl_lex.specs.bytes.Byte.{is_quote, is_word_start}
use Rattle.idl_lex.specs.bytes.Context.{line_start, ends_block}
use Rattle.idl_lex.specs.bytes.Scan.{taken}
use Rattle.idl_lex.specs.bytes.Text.{Placed, bytes_of}
use Rattle.idl_lex.specs.tokens.Tokens.{tokens_after}
use Rattle.idl_lex.specs.declared.bytes.context.Context.{Context}
use Rattle.idl_lex.specs.declared.tokens.lexer.Before.{Before}
use Rattle.idl_lex.specs.declared.tokens.lexer.Before.TheVariants.{Fresh, Comment}
use Rattle.idl_lex.specs.declared.bytes.state.Inside.TheVariants.{Block}
use Rattle.idl_lex.specs.declared.tokens.token.PlacedToken.{PlacedToken}

-- of a comment that was opened before this text, where that token is its opening: what comes after
-- it, or the opening alone if it isn't closed
abbrev pub after_comment : PlacedToken → Context → List Placed → List PlacedToken
after_comment opening c text =
    if ends_block false (bytes_of text)
    then tokens_after c (taken (Block false) (bytes_of text)) text else opening ∷ []

-- the tokens of a text that begins in this
abbrev pub coming : Before → List Placed → List PlacedToken
coming Fresh text = tokens_after line_start 0 text
coming (Comment opening) text = after_comment opening.value.token opening.value.context text

-- a quote comes first
abbrev pub begins_quote : List ℕ → Bool
begins_quote [] = false
begins_quote (b ∷ rest) = is_quote b

-- a word begins here, and no wide literal
abbrev pub begins_word : List ℕ → Bool
begins_word [] = false
begins_word (b ∷ rest) =
    if nat_eq b 76 && begins_quote rest then false else is_word_start b

-- the newline that ends a line, and what comes after it
abbrev pub ended : ℕ → List Placed → List Placed
ended number rest = record { byte = newline; line = number } ∷ rest

-- of a piece after a first `/`: a comment that isn't closed
abbrev pub opens : List ℕ → Bool
opens [] = false
opens (b ∷ rest) = if nat_eq b 42 then not (ends_block false rest) else false

-- a comment that isn't closed
abbrev pub is_open : List ℕ → Bool
is_open [] = false
is_open (b ∷ rest) = if nat_eq b 47 then opens rest else false
