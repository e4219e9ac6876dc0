-- What a token counts as in IDL, by its spelling.
use Rattle.std.specs.Prelude.{ℕ, Bool, true, false, ◌&&◌, List, [], ◌∷◌, get_or, is_some, length, nat_eq, Option, None, Some, if◌then◌else◌}
use Rattle.std.specs.Str.{bytes_eq}
use Rattle.idl_lex.specs.bytes.Byte.{is_letter, is_digit, is_quote}
use Rattle.idl_lex.specs.kinds.Keywords.{like_keyword}
use Rattle.idl_lex.specs.kinds.Literal.{literal_kind}
use Rattle.idl_lex.specs.kinds.Marks.{mark_kind}
use Rattle.idl_lex.specs.kinds.Number.{number_kind}
use Rattle.idl_lex.specs.declared.kinds.kind.TokenKind.{TokenKind}
use Rattle.idl_lex.specs.declared.kinds.kind.TokenKind.TheVariants.{Identifier, Escaped, Miscased, HeaderName, Bad}
use Rattle.idl_lex.specs.declared.kinds.kind.Defect.TheVariants.{UnknownByte, NothingEscaped, UnclosedComment}

-- whether a word is a keyword but for the case of letters, or is one
abbrev pub is_like_keyword : List ℕ → Bool
is_like_keyword word = is_some (like_keyword word)

-- a word and the keyword that it is but for case: it is that keyword where it is spelled so
abbrev pub kind_beside : List ℕ → Option (List ℕ × TokenKind) → TokenKind
kind_beside word None = Identifier
kind_beside word (Some keyword) = if bytes_eq keyword.0 word then keyword.1 else Miscased

-- the kind of a word that begins with a letter
abbrev pub word_kind : List ℕ → TokenKind
word_kind word = kind_beside word (like_keyword word)

-- the kind of `_` and these bytes
abbrev pub escaped_kind : List ℕ → TokenKind
escaped_kind [] = Bad NothingEscaped
escaped_kind (b ∷ rest) = if is_letter b then Escaped else Bad NothingEscaped

-- the kind of what begins with a letter: a wide literal, or a word
abbrev pub letter_kind : ℕ → List ℕ → TokenKind
letter_kind b [] = word_kind (b ∷ [])
letter_kind b (c ∷ rest) =
    if nat_eq b 76 && is_quote c then literal_kind true c rest else word_kind (b ∷ c ∷ rest)

-- a `.` and a digit
abbrev pub is_fraction : ℕ → List ℕ → Bool
is_fraction b [] = false
is_fraction b (c ∷ rest) = if nat_eq b 46 then is_digit c else false

-- `*` comes first
abbrev pub begins_star : List ℕ → Bool
begins_star [] = false
begins_star (b ∷ rest) = nat_eq b 42

-- a comment is open here
abbrev pub begins_block : List ℕ → Bool
begins_block [] = false
begins_block (b ∷ rest) = nat_eq b 47 && begins_star rest

-- it ends in `>`
abbrev pub ends_greater : List ℕ → Bool
ends_greater [] = false
ends_greater (b ∷ rest) = nat_eq (get_or (b ∷ rest) (length rest) 0) 62

-- the kind of what is no mark: an included file's name in `<` and `>`, a comment that isn't closed,
-- or a byte that begins no token
abbrev pub unmarked_kind : ℕ → List ℕ → TokenKind
unmarked_kind b rest =
    if nat_eq b 60 && ends_greater rest then HeaderName
    else (if begins_block (b ∷ rest) then Bad UnclosedComment else Bad UnknownByte)

-- the kind of a mark, if it is one
abbrev pub kind_of_mark : Option TokenKind → ℕ → List ℕ → TokenKind
kind_of_mark None b rest = unmarked_kind b rest
kind_of_mark (Some kind) b rest = kind

-- the kind of what begins with another byte
abbrev pub other_kind : ℕ → List ℕ → TokenKind
other_kind b rest =
    if is_fraction b rest then number_kind (b ∷ rest)
    else kind_of_mark (mark_kind (b ∷ rest)) b rest

-- the kind of the token with this spelling
unfoldable pub kind_of : List ℕ → TokenKind
kind_of [] = Bad UnknownByte
kind_of (b ∷ rest) =
    if is_letter b then letter_kind b rest
    else (if nat_eq b 95 then escaped_kind rest
    else (if is_digit b then number_kind (b ∷ rest)
    else (if is_quote b then literal_kind false b rest
    else other_kind b rest)))

-- what stands after the `_`
abbrev pub unescaped : List ℕ → Option (List ℕ)
unescaped [] = None
unescaped (b ∷ rest) = Some rest

-- the name that a token of this kind and spelling is: an identifier, or what stands after the `_`
-- of an escaped one
abbrev pub name_by : TokenKind → List ℕ → Option (List ℕ)
name_by Identifier spelling = Some spelling
name_by Escaped spelling = unescaped spelling
name_by other spelling = None

-- the name that the token with this spelling is
abbrev pub name_of : List ℕ → Option (List ℕ)
name_of spelling = name_by (kind_of spelling) spelling
