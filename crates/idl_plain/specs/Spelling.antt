-- What a literal is by the characters between its quotes.
use Rattle.std.specs.Prelude.{[], ◌∷◌, Bool, List, None, Option, Some, false, nat_eq, not, true, ℕ, if◌then◌else◌}
use Rattle.std.specs.List.{list_all}
use Rattle.std.specs.Option.{unwrap_or}
use Rattle.idl_lex.specs.declared.kinds.kind.Defect.TheVariants.{BadEscape, NotOneCharacter}
use Rattle.idl_lex.specs.declared.kinds.kind.TokenKind.{TokenKind}
use Rattle.idl_lex.specs.declared.kinds.kind.TokenKind.TheVariants.{Bad, Character, String, WideCharacter, WideString}

-- A literal of one character or of text, a wide one or not, with these characters; none stands for an
-- escape that is bad.
abbrev pub quoted_kind : Bool → Bool → List (Option ℕ) → TokenKind
quoted_kind true wide (Some c ∷ []) = if wide then WideCharacter else Character
quoted_kind true wide (None ∷ []) = Bad BadEscape
quoted_kind true wide cs = Bad NotOneCharacter
quoted_kind false wide cs =
    if list_all (λ c. not (nat_eq (unwrap_or c 0) 0)) cs then (if wide then WideString else String)
    else Bad BadEscape

-- the character that these are, if they are one
abbrev pub lone : Option (List ℕ) → Option ℕ
lone (Some (c ∷ [])) = Some c
lone other = None
