-- Pragmas by the tokens that spell them. Here no reader goes from token to token.
use Rattle.std.specs.Prelude.{◌≡◌, ℕ, List, [], ◌∷◌, ◌++◌, codes, flat_map, map, Option, None, Some, if◌then◌else◌}
use Rattle.std.specs.Option.{option_map}
use Rattle.idl_lex.specs.kinds.Kind.{kind_of}
use Rattle.idl_lex.specs.kinds.Literal.{literal_value}
use Rattle.idl_lex.specs.tokens.Tokens.{Token}
use Rattle.idl_lex.specs.declared.kinds.kind.TokenKind.TheVariants.{String}
use Rattle.idl_tree.specs.Pragma.{is_separator, part_of, version_number}
use Rattle.idl_tree.specs.declared.name.ScopedName.{ScopedName}
use Rattle.idl_tree.specs.declared.pragma.Pragma.{Pragma}
use Rattle.idl_tree.specs.declared.pragma.Pragma.TheVariants.{Prefix, Id, Version}

-- what a token is in a scoped name: `::`, which is none of its parts, or a part
abbrev pub name_token : Token → Option (Option (List ℕ))
name_token t = if is_separator (kind_of t) then Some None else option_map Some (part_of t)

-- a scoped name: its parts with `::` between them, and before them where it is global
abbrev pub name_tokens : ScopedName → List (Option (List ℕ))
name_tokens name =
    (if name.is_global then None ∷ [] else [])
    ++ Some name.first ∷ flat_map (λ part. None ∷ Some part ∷ []) name.rest

-- a narrow string literal, and its value
abbrev pub IsText : Token → List ℕ → Type 0
IsText t text = (kind_of t ≡ String) × (literal_value t ≡ Some text)

-- two numbers with a `.`, which is 46, between them
abbrev pub IsVersion : Token → ℕ → ℕ → Type 0
IsVersion t major minor =
    (front : List ℕ) × (back : List ℕ) × (t ≡ front ++ 46 ∷ back)
    × (version_number front ≡ Some major) × (version_number back ≡ Some minor)

-- tokens that are `pragma`, a word, what such a name is spelled with, and one token more
abbrev pub AreWords : List ℕ → List (Option (List ℕ)) → List Token → Token → Type 0
AreWords word name tokens last =
    (pragma : Token) × (front : List Token) × (tokens ≡ pragma ∷ word ∷ front ++ last ∷ [])
    × (map name_token front ≡ map Some name)

-- tokens that are a pragma: `prefix` and a text; `ID`, a name and a text; `version`, a name and a
-- version
abbrev pub IsPragma : List Token → Pragma → Type 0
IsPragma tokens (Prefix text) =
    (last : Token) × AreWords (codes "prefix") [] tokens last × IsText last text
IsPragma tokens (Id name text) =
    (last : Token) × AreWords (codes "ID") (name_tokens name) tokens last × IsText last text
IsPragma tokens (Version name major minor) =
    (last : Token) × AreWords (codes "version") (name_tokens name) tokens last
    × IsVersion last major minor
