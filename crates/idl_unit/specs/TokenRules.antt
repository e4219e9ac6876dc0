-- The tokens that may not stand in a unit, or not there.
use Rattle.std.specs.Prelude.{ℕ, ◌+◌, Bool, true, false, ◌&&◌, ◌||◌, List, [], ◌∷◌, ◌++◌, count_by, length, map, nat_lt, not, drop, Option, None, Some, if◌then◌else◌}
use Rattle.idl_fault.specs.declared.code.Code.{Code}
use Rattle.idl_fault.specs.declared.code.Code.TheVariants.{BadToken, UnclosedLiteral, NotOneCharacter, BadEscape, MalformedInteger, FloatingLiteral, IntegerTooLarge, MixedWidths, UnclosedComment, LeftOut, NestedTooDeep, LikeKeyword}
use Rattle.idl_lex.specs.kinds.Kind.{kind_of}
use Rattle.idl_lex.specs.tokens.Tokens.{Token}
use Rattle.idl_lex.specs.declared.kinds.keyword.Keyword.TheVariants.{Const, Double, Float, Long}
use Rattle.idl_lex.specs.declared.kinds.kind.Defect.{Defect}
use Rattle.idl_lex.specs.declared.kinds.kind.Defect.TheVariants as defect
use Rattle.idl_lex.specs.declared.kinds.kind.TokenKind.{TokenKind}
use Rattle.idl_lex.specs.declared.kinds.kind.TokenKind.TheVariants.{Accepted, Refused, Miscased, String, WideString, Punctuation, Preprocessing, Bad}
use Rattle.idl_lex.specs.declared.kinds.mark.Mark.TheVariants.{OpenBrace, OpenParenthesis, OpenBracket, Less, CloseBrace, CloseParenthesis, CloseBracket, Greater}
use Rattle.idl_unit.specs.declared.fault.Fault.{Fault}

-- the code of a bad token
abbrev pub defect_code : Defect → Code
defect_code defect.UnknownByte = BadToken
defect_code defect.NothingEscaped = BadToken
defect_code defect.UnclosedLiteral = UnclosedLiteral
defect_code defect.NotOneCharacter = NotOneCharacter
defect_code defect.BadEscape = BadEscape
defect_code defect.MalformedInteger = MalformedInteger
defect_code defect.FloatingLiteral = FloatingLiteral
defect_code defect.IntegerTooLarge = IntegerTooLarge
defect_code defect.UnclosedComment = UnclosedComment

-- a bad token, and a mark that the preprocessor alone knows
abbrev pub bad_codes : TokenKind → List Code
bad_codes (Bad why) = defect_code why ∷ []
bad_codes (Preprocessing mark) = BadToken ∷ []
bad_codes other = []

-- a wide string literal directly after a narrow one, or the other way round
abbrev pub is_other_width : TokenKind → Option TokenKind → Bool
is_other_width WideString (Some String) = true
is_other_width String (Some WideString) = true
is_other_width kind last = false

abbrev pub is_const : Option TokenKind → Bool
is_const (Some (Accepted Const)) = true
is_const other = false

abbrev pub is_long : Option TokenKind → Bool
is_long (Some (Accepted Long)) = true
is_long other = false

-- a refused keyword; `float` or `double` directly after `const`, and `double` directly after
-- `const long`
abbrev pub is_left_out : TokenKind → Option TokenKind → Option TokenKind → Bool
is_left_out Refused last second = true
is_left_out (Accepted Float) last second = is_const last
is_left_out (Accepted Double) last second = is_const last || (is_long last && is_const second)
is_left_out other last second = false

-- `{`, `(`, `[` and `<`
abbrev pub nests : TokenKind → Bool
nests (Punctuation OpenBrace) = true
nests (Punctuation OpenParenthesis) = true
nests (Punctuation OpenBracket) = true
nests (Punctuation Less) = true
nests other = false

-- `}`, `)`, `]` and `>`
abbrev pub unnests : TokenKind → Bool
unnests (Punctuation CloseBrace) = true
unnests (Punctuation CloseParenthesis) = true
unnests (Punctuation CloseBracket) = true
unnests (Punctuation Greater) = true
unnests other = false

-- more than 64 are open
abbrev pub is_too_deep : List TokenKind → Bool
is_too_deep kinds = nat_lt (count_by unnests kinds + 64) (count_by nests kinds)

-- a word that differs from a keyword in the case of letters alone
abbrev pub is_miscased : TokenKind → Bool
is_miscased Miscased = true
is_miscased other = false

abbrev pub code_if : Bool → Code → List Code
code_if b code = if b then code ∷ [] else []

-- a token of this kind has no code beside others of such kinds, unless too many brackets are open
abbrev pub is_harmless : TokenKind → Bool
is_harmless (Accepted keyword) = not (is_const (Some (Accepted keyword)))
is_harmless Refused = false
is_harmless Miscased = false
is_harmless WideString = false
is_harmless (Preprocessing mark) = false
is_harmless (Bad why) = false
is_harmless other = true

-- the codes of a token of this kind, directly before which these two stand, the nearer first, and
-- with which too many brackets are open or not
abbrev pub codes_beside : TokenKind → Option TokenKind → Option TokenKind → Bool → List Code
codes_beside kind last second deep =
    bad_codes kind
    ++ (code_if (is_other_width kind last) MixedWidths
    ++ (code_if (is_left_out kind last second) LeftOut
    ++ (code_if deep NestedTooDeep
    ++ code_if (is_miscased kind) LikeKeyword)))

abbrev pub first : {X : Type 0} → List X → Option X
first [] = None
first (x ∷ xs) = Some x

-- the codes of a token of this kind, before which tokens of these kinds stand in its unit, the
-- nearest first
abbrev pub token_codes : List TokenKind → TokenKind → List Code
token_codes before kind =
    codes_beside kind (first before) (first (drop 1 before)) (is_too_deep (kind ∷ before))

abbrev pub fault_at : ℕ → Code → Fault
fault_at n code = record { index = n; code = code }

-- the faults of tokens of these kinds, before which those stand, the nearest first: each by its
-- token's number
abbrev pub faults_after : List TokenKind → List TokenKind → List Fault
faults_after before [] = []
faults_after before (kind ∷ kinds) =
    map (fault_at (length before)) (token_codes before kind) ++ faults_after (kind ∷ before) kinds

-- all faults of a unit of tokens
abbrev pub token_faults : List Token → List Fault
token_faults unit = faults_after [] (map kind_of unit)
