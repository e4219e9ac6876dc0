-- Where a unit of tokens ends.
use Rattle.std.specs.Prelude.{Bool, true, false, ◌&&◌, ◌||◌, List, [], ◌∷◌, ◌++◌, count_by, nat_eq, not, if◌then◌else◌}
use Rattle.idl_lex.specs.kinds.Kind.{kind_of}
use Rattle.idl_lex.specs.tokens.Tokens.{Token}
use Rattle.idl_lex.specs.declared.kinds.keyword.Keyword.TheVariants as keyword
use Rattle.idl_lex.specs.declared.kinds.kind.TokenKind.{TokenKind}
use Rattle.idl_lex.specs.declared.kinds.kind.TokenKind.TheVariants.{Accepted, Punctuation}
use Rattle.idl_lex.specs.declared.kinds.mark.Mark.TheVariants as mark
use Rattle.idl_unit.specs.Cut.{parts}
use Rattle.idl_unit.specs.declared.role.Role.{Role}
use Rattle.idl_unit.specs.declared.role.Role.TheVariants.{OpenBrace, CloseBrace, Semicolon, Module, Interface, Local, Other}
use Rattle.idl_unit.specs.declared.role.Rule.{Rule}
use Rattle.idl_unit.specs.declared.role.Rule.TheVariants.{Closing, Heading, Declaration}

-- what a token of this kind is for the cut
abbrev pub role_of : TokenKind → Role
role_of (Punctuation mark.OpenBrace) = OpenBrace
role_of (Punctuation mark.CloseBrace) = CloseBrace
role_of (Punctuation mark.Semicolon) = Semicolon
role_of (Accepted keyword.Module) = Module
role_of (Accepted keyword.Interface) = Interface
role_of (Accepted keyword.Local) = Local
role_of other = Other

abbrev pub role : Token → Role
role token = role_of (kind_of token)

-- the same, where a keyword is as any other token
abbrev pub edge : Role → Role
edge Module = Other
edge Interface = Other
edge Local = Other
edge role = role

abbrev pub opens : Role → Bool
opens OpenBrace = true
opens role = false

abbrev pub closes : Role → Bool
closes CloseBrace = true
closes role = false

abbrev pub is_semicolon : Role → Bool
is_semicolon Semicolon = true
is_semicolon role = false

abbrev pub is_interface : Role → Bool
is_interface Interface = true
is_interface role = false

-- the first token has this role
abbrev pub begins : (Role → Bool) → List Token → Bool
begins p [] = false
begins p (t ∷ ts) = p (role t)

-- the last token has this role
abbrev pub ends_in : (Role → Bool) → List Token → Bool
ends_in p [] = false
ends_in p (t ∷ []) = p (role t)
ends_in p (t ∷ u ∷ ts) = ends_in p (u ∷ ts)

abbrev pub is_empty : List Token → Bool
is_empty [] = true
is_empty (t ∷ ts) = false

-- the rule for a unit whose first token has this role, and after which these stand
abbrev pub rule_by : Role → List Token → Rule
rule_by CloseBrace rest = Closing
rule_by Module rest = Heading
rule_by Interface rest = Heading
rule_by Local rest = if begins is_interface rest then Heading else Declaration
rule_by role rest = Declaration

-- a closing begins with `}`, and a heading with `module`, `interface`, or `local` before
-- `interface`
abbrev pub rule_of : List Token → Rule
rule_of [] = Declaration
rule_of (t ∷ ts) = rule_by (role t) ts

-- as many braces are opened as closed
abbrev pub is_balanced : List Token → Bool
is_balanced tokens =
    nat_eq (count_by (λ t. opens (role t)) tokens) (count_by (λ t. closes (role t)) tokens)

-- Whether a unit of these tokens ends before that rest:
-- a closing with the `;` that follows directly, if one does;
-- a heading with `{` or `;`, or before a `}`;
-- a declaration outside its own braces with `;`, or before a `}`;
-- both of these at the end of the tokens too.
abbrev pub ends_by : Rule → List Token → List Token → Bool
ends_by Closing unit rest = ends_in is_semicolon unit || not (begins is_semicolon rest)
ends_by Heading unit rest =
    is_empty rest || begins closes rest || ends_in opens unit || ends_in is_semicolon unit
ends_by Declaration unit rest =
    is_empty rest || (is_balanced unit && (begins closes rest || ends_in is_semicolon unit))

abbrev pub ends : List Token → List Token → Bool
ends unit rest = ends_by (rule_of (unit ++ rest)) unit rest

-- the units of tokens
abbrev pub token_units : List Token → List (List Token)
token_units tokens = parts ends tokens
