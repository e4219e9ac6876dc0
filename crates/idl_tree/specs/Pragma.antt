-- The pragmas that tokens spell.
use Rattle.std.specs.Prelude.{ℕ, Bool, true, false, ◌&&◌, List, [], ◌∷◌, codes, nat_eq, nat_le, Option, None, Some, if◌then◌else◌}
use Rattle.std.specs.List.{before_first, after_first, list_all}
use Rattle.std.specs.Option.{option_map}
use Rattle.std.specs.Str.{bytes_eq}
use Rattle.idl_lex.specs.bytes.Byte.{is_digit}
use Rattle.idl_lex.specs.kinds.Kind.{kind_of, name_of}
use Rattle.idl_lex.specs.kinds.Literal.{literal_value}
use Rattle.idl_lex.specs.kinds.Number.{number}
use Rattle.idl_lex.specs.tokens.Tokens.{Token}
use Rattle.idl_lex.specs.declared.kinds.kind.TokenKind.{TokenKind}
use Rattle.idl_lex.specs.declared.kinds.kind.TokenKind.TheVariants.{Miscased, String, Punctuation}
use Rattle.idl_lex.specs.declared.kinds.mark.Mark.TheVariants.{ColonColon}
use Rattle.idl_tree.specs.declared.name.ScopedName.{ScopedName}
use Rattle.idl_tree.specs.declared.pragma.Pragma.{Pragma}
use Rattle.idl_tree.specs.declared.pragma.Pragma.TheVariants.{Prefix, Id, Version}

-- the name that a token of this kind is: here a word may be like a keyword but for the case of
-- letters
abbrev pub part_by : TokenKind → Token → Option (List ℕ)
part_by Miscased token = Some token
part_by other token = name_of token

abbrev pub part_of : Token → Option (List ℕ)
part_of token = part_by (kind_of token) token

abbrev pub is_separator : TokenKind → Bool
is_separator (Punctuation ColonColon) = true
is_separator other = false

-- the value of a narrow string literal
abbrev pub text_by : TokenKind → Token → Option (List ℕ)
text_by String token = literal_value token
text_by other token = None

abbrev pub text_of : Token → Option (List ℕ)
text_of token = text_by (kind_of token) token

abbrev pub is_dot : ℕ → Bool
is_dot b = nat_eq b 46

-- the number that digits spell, if there are any and it is at most 65535
abbrev pub version_number : List ℕ → Option ℕ
version_number [] = None
version_number (b ∷ digits) =
    if list_all is_digit (b ∷ digits) && nat_le (number 10 (b ∷ digits)) 65535
    then Some (number 10 (b ∷ digits)) else None

abbrev pub both : {X Y : Type 0} → Option X → Option Y → Option (X × Y)
both (Some x) (Some y) = Some (x, y)
both first second = None

-- the numbers of digits, `.` and digits
abbrev pub version_of : Token → Option (ℕ × ℕ)
version_of token =
    both (version_number (before_first is_dot token)) (version_number (after_first is_dot token))

-- what was read with the token behind it, with a part put before
abbrev pub with_part : Option (List ℕ) → Option (List (List ℕ) × Token)
    → Option (List (List ℕ) × Token)
with_part (Some part) (Some read) = Some (part ∷ read.0, read.1)
with_part part read = None

-- further parts of a name, each behind `::`, and the one token behind them
abbrev pub further_parts : List Token → Option (List (List ℕ) × Token)
further_parts (last ∷ []) = Some ([], last)
further_parts (separator ∷ part ∷ rest) =
    if is_separator (kind_of separator) then with_part (part_of part) (further_parts rest)
    else None
further_parts others = None

abbrev pub named : Bool → Option (List ℕ) → Option (List (List ℕ) × Token)
    → Option (ScopedName × Token)
named is_global (Some first) (Some read) =
    Some (record { is_global = is_global; first = first; rest = read.0 }, read.1)
named is_global first read = None

-- a name from its first part on, and the one token behind it
abbrev pub name_from : Bool → List Token → Option (ScopedName × Token)
name_from is_global [] = None
name_from is_global (first ∷ rest) = named is_global (part_of first) (further_parts rest)

-- a scoped name, and the one token behind it
abbrev pub name_before : List Token → Option (ScopedName × Token)
name_before [] = None
name_before (t ∷ rest) =
    if is_separator (kind_of t) then name_from true rest else name_from false (t ∷ rest)

-- one token alone
abbrev pub only : List Token → Option Token
only (t ∷ []) = Some t
only others = None

abbrev pub prefix_of : Option Token → Option Pragma
prefix_of None = None
prefix_of (Some token) = option_map Prefix (text_of token)

abbrev pub id_of : Option (ScopedName × Token) → Option Pragma
id_of None = None
id_of (Some read) = option_map (Id read.0) (text_of read.1)

abbrev pub versioned : Option (ScopedName × Token) → Option Pragma
versioned None = None
versioned (Some read) = option_map (λ v. Version read.0 v.0 v.1) (version_of read.1)

-- `prefix` and a text; `ID`, a name and a text; `version`, a name and a version
abbrev pub pragma_by : Token → List Token → Option Pragma
pragma_by word operands =
    if bytes_eq word (codes "prefix") then prefix_of (only operands)
    else (if bytes_eq word (codes "ID") then id_of (name_before operands)
    else (if bytes_eq word (codes "version") then versioned (name_before operands)
    else None))

-- the pragma that these tokens are, from the word `pragma` on
abbrev pub pragma_of : List Token → Option Pragma
pragma_of (pragma ∷ word ∷ operands) = pragma_by word operands
pragma_of others = None
