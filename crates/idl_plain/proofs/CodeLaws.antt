-- Codes, marks and literals as tables have them.
use Rattle.std.proofs.Common.{◌≡◌, ◌++◌, ◌^◌, ◌&&◌, ℕ, Bool, List, None, Some, cond, false, flat_map, map, nat_eq, nat_le, nat_lt, refl, subst, take, true}
use Rattle.std.proofs.lemmas.Bool.{ltb-true}
use Rattle.std.proofs.lemmas.List.Elements.{All-contains, All-from_recursion}
use Rattle.std.specs.List.{enumerate_from, prefix_len}
use Rattle.std.specs.Map.{lookup}
use Rattle.std.specs.Prelude.{◌↔◌, Contains, if◌then◌else◌}
use Rattle.idl_fault.specs.Code.{number_of}
use Rattle.idl_fault.specs.declared.code.Code.{Code}
use Rattle.idl_fault.specs.declared.code.Code.TheVariants.{AlreadyDeclared, AmbiguousName, BadCondition, BadDiscriminator, BadEscape, BadIdText, BadOneway, BadShift, BadToken, BoundNotPositive, DeclaredAfterUse, DeclaredAgain, DivisionByZero, Error, FloatingLiteral, IncompleteBase, IncompleteType, IntegerTooLarge, InterfaceNeverDefined, LeftOut, LikeKeyword, LocalBase, MalformedInclude, MalformedInteger, MalformedMacro, MalformedPragma, MisplacedUnit, MixedWidths, NameNotFound, NameOfScope, NestedTooDeep, NeverDefined, NoConstantType, NoRepositoryId, NoScope, NoTree, NotClosed, NotFound, NotOneCharacter, OpenScope, OtherCase, OtherDefinition, OtherForward, OtherPrefix, OtherType, OutOfPlace, OutOfRange, PastLimit, PragmaInside, ReachedThroughBase, RepeatedBase, RepeatedId, RepeatedLabel, RepeatedTypeprefix, RepeatedVersion, UnclosedComment, UnclosedLiteral, UnknownDirective, UselessDefault, WrongKind}
use Rattle.idl_lex.specs.bytes.Byte.{is_digit_of}
use Rattle.idl_lex.specs.kinds.Literal.{by_number, simple_escape}
use Rattle.idl_lex.specs.kinds.Marks.{marks}
use Rattle.idl_lex.specs.kinds.Number.{are_digits, based, integer_value, number}
use Rattle.idl_lex.specs.declared.kinds.kind.TokenKind.TheVariants.{Preprocessing, Punctuation}
use Rattle.idl_plain.specs.Codes.{rows}
use Rattle.idl_plain.specs.Marks.{letters, preprocessing, punctuation}

-- ---- codes

abbrev all : List (ℕ × Code)
all = flat_map (λ (row : ℕ × List Code). enumerate_from row.0 row.1) rows

abbrev Has : Code → Type 0
Has c = Contains all (number_of c, c)

has : (c : Code) → Has c
has BadToken = (0, ltb-true 0 60 refl, refl)
has UnclosedLiteral = (1, ltb-true 1 60 refl, refl)
has NotOneCharacter = (2, ltb-true 2 60 refl, refl)
has BadEscape = (3, ltb-true 3 60 refl, refl)
has MalformedInteger = (4, ltb-true 4 60 refl, refl)
has FloatingLiteral = (5, ltb-true 5 60 refl, refl)
has IntegerTooLarge = (6, ltb-true 6 60 refl, refl)
has MixedWidths = (7, ltb-true 7 60 refl, refl)
has UnclosedComment = (8, ltb-true 8 60 refl, refl)
has NotFound = (9, ltb-true 9 60 refl, refl)
has MalformedInclude = (10, ltb-true 10 60 refl, refl)
has OutOfPlace = (11, ltb-true 11 60 refl, refl)
has NotClosed = (12, ltb-true 12 60 refl, refl)
has MalformedMacro = (13, ltb-true 13 60 refl, refl)
has UnknownDirective = (14, ltb-true 14 60 refl, refl)
has Error = (15, ltb-true 15 60 refl, refl)
has OtherDefinition = (16, ltb-true 16 60 refl, refl)
has BadCondition = (17, ltb-true 17 60 refl, refl)
has PastLimit = (18, ltb-true 18 60 refl, refl)
has NoTree = (19, ltb-true 19 60 refl, refl)
has LeftOut = (20, ltb-true 20 60 refl, refl)
has MisplacedUnit = (21, ltb-true 21 60 refl, refl)
has OpenScope = (22, ltb-true 22 60 refl, refl)
has NestedTooDeep = (23, ltb-true 23 60 refl, refl)
has PragmaInside = (24, ltb-true 24 60 refl, refl)
has MalformedPragma = (25, ltb-true 25 60 refl, refl)
has NameNotFound = (26, ltb-true 26 60 refl, refl)
has AmbiguousName = (27, ltb-true 27 60 refl, refl)
has OtherCase = (28, ltb-true 28 60 refl, refl)
has AlreadyDeclared = (29, ltb-true 29 60 refl, refl)
has NameOfScope = (30, ltb-true 30 60 refl, refl)
has DeclaredAfterUse = (31, ltb-true 31 60 refl, refl)
has LikeKeyword = (32, ltb-true 32 60 refl, refl)
has WrongKind = (33, ltb-true 33 60 refl, refl)
has NoScope = (34, ltb-true 34 60 refl, refl)
has OtherForward = (35, ltb-true 35 60 refl, refl)
has IncompleteBase = (36, ltb-true 36 60 refl, refl)
has RepeatedBase = (37, ltb-true 37 60 refl, refl)
has DeclaredAgain = (38, ltb-true 38 60 refl, refl)
has LocalBase = (39, ltb-true 39 60 refl, refl)
has ReachedThroughBase = (40, ltb-true 40 60 refl, refl)
has OtherType = (41, ltb-true 41 60 refl, refl)
has OutOfRange = (42, ltb-true 42 60 refl, refl)
has DivisionByZero = (43, ltb-true 43 60 refl, refl)
has BadShift = (44, ltb-true 44 60 refl, refl)
has BoundNotPositive = (45, ltb-true 45 60 refl, refl)
has NoConstantType = (46, ltb-true 46 60 refl, refl)
has IncompleteType = (47, ltb-true 47 60 refl, refl)
has BadDiscriminator = (48, ltb-true 48 60 refl, refl)
has RepeatedLabel = (49, ltb-true 49 60 refl, refl)
has UselessDefault = (50, ltb-true 50 60 refl, refl)
has BadOneway = (51, ltb-true 51 60 refl, refl)
has OtherPrefix = (52, ltb-true 52 60 refl, refl)
has RepeatedId = (53, ltb-true 53 60 refl, refl)
has RepeatedVersion = (54, ltb-true 54 60 refl, refl)
has BadIdText = (55, ltb-true 55 60 refl, refl)
has NoRepositoryId = (56, ltb-true 56 60 refl, refl)
has NeverDefined = (57, ltb-true 57 60 refl, refl)
has RepeatedTypeprefix = (58, ltb-true 58 60 refl, refl)
has InterfaceNeverDefined = (59, ltb-true 59 60 refl, refl)

each : (e : ℕ × Code) → Contains all e → number_of e.1 ≡ e.0
each e there =
    All-contains (λ (f : ℕ × Code). number_of f.1 ≡ f.0) all e
    (All-from_recursion (λ (f : ℕ × Code). number_of f.1 ≡ f.0) all
    (refl, (refl, (refl, (refl, (refl, (refl, (refl, (refl, (refl, (refl, (refl, (refl, (refl, (refl, (refl, (refl, (refl, (refl, (refl, (refl, (refl, (refl, (refl, (refl, (refl, (refl, (refl, (refl, (refl, (refl, (refl, (refl, (refl, (refl, (refl, (refl, (refl, (refl, (refl, (refl, (refl, (refl, (refl, (refl, (refl, (refl, (refl, (refl, (refl, (refl, (refl, (refl, (refl, (refl, (refl, (refl, (refl, (refl, (refl, (refl, tt))))))))))))))))))))))))))))))))))))))))))))))))))))))))))))) there

pub codes-told : (c : Code) (n : ℕ) → (number_of c ≡ n) ↔ Contains (flat_map (λ (row : ℕ × List Code). enumerate_from row.0 row.1) rows) (n, c)
codes-told c n = (λ h. subst (λ (m : ℕ). Contains all (m, c)) h (has c), λ there. each (n, c) there)

-- ---- marks

pub marks-told : marks ≡ map (λ m. (m.0, Punctuation m.1)) punctuation ++ map (λ m. (m.0, Preprocessing m.1)) preprocessing
unfolding marks
marks-told = refl

-- ---- literals

pub letters-told : (b : ℕ) → simple_escape b ≡ lookup (nat_eq b) letters
letters-told b = refl

-- of two tests one after the other
both : (a b : Bool) (n : ℕ) → cond a (cond b (Some n) None) None ≡ cond (a && b) (Some n) None
both true b n = refl
both false b n = refl

pub digits-told : (base count most : ℕ) (bytes : List ℕ) → by_number base count most bytes
    ≡ (let n = prefix_len (is_digit_of base) (take count bytes) in
    let digits = take n bytes in
    let is_held = are_digits base digits && nat_le (number base digits) most in
    (if is_held then Some (number base digits) else None, n))
digits-told base count most bytes =
    let n = prefix_len (is_digit_of base) (take count bytes) in
    let digits = take n bytes in
    λ i. (both (are_digits base digits) (nat_le (number base digits) most) (number base digits) i, n)

pub integers-held : (spelling : List ℕ) → integer_value spelling
    ≡ (let n = number (based spelling).0 (based spelling).1 in
    let is_held = are_digits (based spelling).0 (based spelling).1 && nat_lt n (2 ^ 64) in
    if is_held then Some n else None)
integers-held spelling =
    let n = number (based spelling).0 (based spelling).1 in
    both (are_digits (based spelling).0 (based spelling).1) (nat_lt n (2 ^ 64)) n
