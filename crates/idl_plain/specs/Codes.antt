-- The codes of diagnostics by their numbers.
use Rattle.std.specs.Prelude.{ℕ, List, [], ◌∷◌}
use Rattle.idl_fault.specs.declared.code.Code.{Code}
use Rattle.idl_fault.specs.declared.code.Code.TheVariants.{AlreadyDeclared, AmbiguousName, BadCondition, BadDiscriminator, BadEscape, BadIdText, BadOneway, BadShift, BadToken, BoundNotPositive, DeclaredAfterUse, DeclaredAgain, DivisionByZero, Error, FloatingLiteral, IncompleteBase, IncompleteType, IntegerTooLarge, InterfaceNeverDefined, LeftOut, LikeKeyword, LocalBase, MalformedInclude, MalformedInteger, MalformedMacro, MalformedPragma, MisplacedUnit, MixedWidths, NameNotFound, NameOfScope, NestedTooDeep, NeverDefined, NoConstantType, NoRepositoryId, NoScope, NoTree, NotClosed, NotFound, NotOneCharacter, OpenScope, OtherCase, OtherDefinition, OtherForward, OtherPrefix, OtherType, OutOfPlace, OutOfRange, PastLimit, PragmaInside, ReachedThroughBase, RepeatedBase, RepeatedId, RepeatedLabel, RepeatedTypeprefix, RepeatedVersion, UnclosedComment, UnclosedLiteral, UnknownDirective, UselessDefault, WrongKind}

-- codes in a row, behind the number of the first
abbrev pub rows : List (ℕ × List Code)
rows =
    (1, BadToken ∷ UnclosedLiteral ∷ NotOneCharacter ∷ BadEscape ∷ [])
    ∷ (5, MalformedInteger ∷ FloatingLiteral ∷ IntegerTooLarge ∷ MixedWidths ∷ UnclosedComment ∷ [])
    ∷ (10, NotFound ∷ MalformedInclude ∷ OutOfPlace ∷ NotClosed ∷ MalformedMacro ∷ [])
    ∷ (15, UnknownDirective ∷ Error ∷ OtherDefinition ∷ BadCondition ∷ PastLimit ∷ [])
    ∷ (20, NoTree ∷ LeftOut ∷ MisplacedUnit ∷ OpenScope ∷ NestedTooDeep ∷ [])
    ∷ (25, PragmaInside ∷ MalformedPragma ∷ [])
    ∷ (30, NameNotFound ∷ AmbiguousName ∷ OtherCase ∷ AlreadyDeclared ∷ NameOfScope ∷ [])
    ∷ (35, DeclaredAfterUse ∷ LikeKeyword ∷ WrongKind ∷ NoScope ∷ OtherForward ∷ [])
    ∷ (40, IncompleteBase ∷ RepeatedBase ∷ DeclaredAgain ∷ LocalBase ∷ ReachedThroughBase ∷ [])
    ∷ (50, OtherType ∷ OutOfRange ∷ DivisionByZero ∷ BadShift ∷ BoundNotPositive ∷ [])
    ∷ (56, NoConstantType ∷ IncompleteType ∷ [])
    ∷ (60, BadDiscriminator ∷ RepeatedLabel ∷ UselessDefault ∷ []) ∷ (64, BadOneway ∷ [])
    ∷ (70, OtherPrefix ∷ RepeatedId ∷ RepeatedVersion ∷ BadIdText ∷ NoRepositoryId ∷ [])
    ∷ (75, NeverDefined ∷ RepeatedTypeprefix ∷ []) ∷ (80, InterfaceNeverDefined ∷ []) ∷ []
