-- The codes of diagnostics.
use Rattle.std.specs.Prelude.{ℕ, ◌+◌, ◌/◌, ◌%◌, Bool, true, false, List, [], ◌∷◌, if◌then◌else◌}
use Rattle.idl_fault.specs.declared.code.Code.{Code}
use Rattle.idl_fault.specs.declared.code.Code.TheVariants.{BadToken, UnclosedLiteral, NotOneCharacter, BadEscape, MalformedInteger, FloatingLiteral, IntegerTooLarge, MixedWidths, UnclosedComment, NotFound, MalformedInclude, OutOfPlace, NotClosed, MalformedMacro, UnknownDirective, Error, OtherDefinition, BadCondition, PastLimit, NoTree, LeftOut, MisplacedUnit, OpenScope, NestedTooDeep, PragmaInside, MalformedPragma, NameNotFound, AmbiguousName, OtherCase, AlreadyDeclared, NameOfScope, DeclaredAfterUse, LikeKeyword, WrongKind, NoScope, OtherForward, IncompleteBase, RepeatedBase, DeclaredAgain, LocalBase, ReachedThroughBase, OtherType, OutOfRange, DivisionByZero, BadShift, BoundNotPositive, NoConstantType, IncompleteType, BadDiscriminator, RepeatedLabel, UselessDefault, BadOneway, OtherPrefix, RepeatedId, RepeatedVersion, BadIdText, NoRepositoryId, NeverDefined, RepeatedTypeprefix, InterfaceNeverDefined}

abbrev pub number_of : Code → ℕ
number_of BadToken = 1
number_of UnclosedLiteral = 2
number_of NotOneCharacter = 3
number_of BadEscape = 4
number_of MalformedInteger = 5
number_of FloatingLiteral = 6
number_of IntegerTooLarge = 7
number_of MixedWidths = 8
number_of UnclosedComment = 9
number_of NotFound = 10
number_of MalformedInclude = 11
number_of OutOfPlace = 12
number_of NotClosed = 13
number_of MalformedMacro = 14
number_of UnknownDirective = 15
number_of Error = 16
number_of OtherDefinition = 17
number_of BadCondition = 18
number_of PastLimit = 19
number_of NoTree = 20
number_of LeftOut = 21
number_of MisplacedUnit = 22
number_of OpenScope = 23
number_of NestedTooDeep = 24
number_of PragmaInside = 25
number_of MalformedPragma = 26
number_of NameNotFound = 30
number_of AmbiguousName = 31
number_of OtherCase = 32
number_of AlreadyDeclared = 33
number_of NameOfScope = 34
number_of DeclaredAfterUse = 35
number_of LikeKeyword = 36
number_of WrongKind = 37
number_of NoScope = 38
number_of OtherForward = 39
number_of IncompleteBase = 40
number_of RepeatedBase = 41
number_of DeclaredAgain = 42
number_of LocalBase = 43
number_of ReachedThroughBase = 44
number_of OtherType = 50
number_of OutOfRange = 51
number_of DivisionByZero = 52
number_of BadShift = 53
number_of BoundNotPositive = 54
number_of NoConstantType = 56
number_of IncompleteType = 57
number_of BadDiscriminator = 60
number_of RepeatedLabel = 61
number_of UselessDefault = 62
number_of BadOneway = 64
number_of OtherPrefix = 70
number_of RepeatedId = 71
number_of RepeatedVersion = 72
number_of BadIdText = 73
number_of NoRepositoryId = 74
number_of NeverDefined = 75
number_of RepeatedTypeprefix = 76
number_of InterfaceNeverDefined = 80

-- all but one are codes of errors
abbrev pub is_error : Code → Bool
is_error InterfaceNeverDefined = false
is_error other = true

-- `E`, or `W` of a warning
abbrev pub letter_of : Code → ℕ
letter_of code = if is_error code then 69 else 87

-- a letter, and the two digits of the number
abbrev pub code_text : Code → List ℕ
code_text code = letter_of code ∷ (48 + number_of code / 10) ∷ (48 + number_of code % 10) ∷ []
