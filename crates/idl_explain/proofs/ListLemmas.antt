-- Each code and each refusal is among all.
use Rattle.std.proofs.Common.{List, [], ◌∷◌, All, Contains, IfNone, None, Option, Some, arith, refl}
use Rattle.std.proofs.lemmas.List.Elements.{All-contains}
use Rattle.idl_fault.specs.declared.code.Code.{Code}
use Rattle.idl_fault.specs.declared.code.Code.TheVariants as code
use Rattle.idl_source.specs.declared.refusal.Refusal.{Refusal}
use Rattle.idl_source.specs.declared.refusal.Refusal.TheVariants as refusal
use Rattle.idl_explain.specs.declared.explanation.Topic.{Topic}
use Rattle.idl_explain.specs.declared.explanation.Topic.TheVariants as topic

abbrev pub all_codes : List Topic
all_codes =
    topic.Code code.BadToken ∷ topic.Code code.UnclosedLiteral ∷ topic.Code code.NotOneCharacter ∷
    topic.Code code.BadEscape ∷ topic.Code code.MalformedInteger ∷ topic.Code code.FloatingLiteral ∷
    topic.Code code.IntegerTooLarge ∷ topic.Code code.MixedWidths ∷ topic.Code code.UnclosedComment ∷
    topic.Code code.NotFound ∷ topic.Code code.MalformedInclude ∷ topic.Code code.OutOfPlace ∷
    topic.Code code.NotClosed ∷ topic.Code code.MalformedMacro ∷ topic.Code code.UnknownDirective ∷
    topic.Code code.Error ∷ topic.Code code.OtherDefinition ∷ topic.Code code.BadCondition ∷
    topic.Code code.PastLimit ∷ topic.Code code.NoTree ∷ topic.Code code.LeftOut ∷
    topic.Code code.MisplacedUnit ∷ topic.Code code.OpenScope ∷ topic.Code code.NestedTooDeep ∷
    topic.Code code.PragmaInside ∷ topic.Code code.MalformedPragma ∷ topic.Code code.NameNotFound ∷
    topic.Code code.AmbiguousName ∷ topic.Code code.OtherCase ∷ topic.Code code.AlreadyDeclared ∷
    topic.Code code.NameOfScope ∷ topic.Code code.DeclaredAfterUse ∷ topic.Code code.LikeKeyword ∷
    topic.Code code.WrongKind ∷ topic.Code code.NoScope ∷ topic.Code code.OtherForward ∷
    topic.Code code.IncompleteBase ∷ topic.Code code.RepeatedBase ∷ topic.Code code.DeclaredAgain ∷
    topic.Code code.LocalBase ∷ topic.Code code.ReachedThroughBase ∷ topic.Code code.OtherType ∷
    topic.Code code.OutOfRange ∷
    topic.Code code.DivisionByZero ∷ topic.Code code.BadShift ∷ topic.Code code.BoundNotPositive ∷
    topic.Code code.NoConstantType ∷ topic.Code code.IncompleteType ∷ topic.Code code.BadDiscriminator ∷
    topic.Code code.RepeatedLabel ∷ topic.Code code.UselessDefault ∷ topic.Code code.BadOneway ∷
    topic.Code code.OtherPrefix ∷ topic.Code code.RepeatedId ∷ topic.Code code.RepeatedVersion ∷
    topic.Code code.BadIdText ∷ topic.Code code.NoRepositoryId ∷ topic.Code code.NeverDefined ∷
    topic.Code code.RepeatedTypeprefix ∷ topic.Code code.InterfaceNeverDefined ∷ []

abbrev pub all_refusals : List Topic
all_refusals =
    topic.Refusal refusal.Malformed ∷ topic.Refusal refusal.BadName ∷ topic.Refusal refusal.NoSuchFile ∷
    topic.Refusal refusal.OutsideFile ∷ topic.Refusal refusal.OverLimit ∷ topic.Refusal refusal.BadMacro ∷
    topic.Refusal refusal.NoSuchRoot ∷ topic.Refusal refusal.RootThere ∷ topic.Refusal refusal.NoMemory ∷
    topic.Refusal refusal.Unfinished ∷ []

pub code-listed : (c : Code) → Contains all_codes (topic.Code c)
code-listed code.BadToken = (0, omega arith, refl)
code-listed code.UnclosedLiteral = (1, omega arith, refl)
code-listed code.NotOneCharacter = (2, omega arith, refl)
code-listed code.BadEscape = (3, omega arith, refl)
code-listed code.MalformedInteger = (4, omega arith, refl)
code-listed code.FloatingLiteral = (5, omega arith, refl)
code-listed code.IntegerTooLarge = (6, omega arith, refl)
code-listed code.MixedWidths = (7, omega arith, refl)
code-listed code.UnclosedComment = (8, omega arith, refl)
code-listed code.NotFound = (9, omega arith, refl)
code-listed code.MalformedInclude = (10, omega arith, refl)
code-listed code.OutOfPlace = (11, omega arith, refl)
code-listed code.NotClosed = (12, omega arith, refl)
code-listed code.MalformedMacro = (13, omega arith, refl)
code-listed code.UnknownDirective = (14, omega arith, refl)
code-listed code.Error = (15, omega arith, refl)
code-listed code.OtherDefinition = (16, omega arith, refl)
code-listed code.BadCondition = (17, omega arith, refl)
code-listed code.PastLimit = (18, omega arith, refl)
code-listed code.NoTree = (19, omega arith, refl)
code-listed code.LeftOut = (20, omega arith, refl)
code-listed code.MisplacedUnit = (21, omega arith, refl)
code-listed code.OpenScope = (22, omega arith, refl)
code-listed code.NestedTooDeep = (23, omega arith, refl)
code-listed code.PragmaInside = (24, omega arith, refl)
code-listed code.MalformedPragma = (25, omega arith, refl)
code-listed code.NameNotFound = (26, omega arith, refl)
code-listed code.AmbiguousName = (27, omega arith, refl)
code-listed code.OtherCase = (28, omega arith, refl)
code-listed code.AlreadyDeclared = (29, omega arith, refl)
code-listed code.NameOfScope = (30, omega arith, refl)
code-listed code.DeclaredAfterUse = (31, omega arith, refl)
code-listed code.LikeKeyword = (32, omega arith, refl)
code-listed code.WrongKind = (33, omega arith, refl)
code-listed code.NoScope = (34, omega arith, refl)
code-listed code.OtherForward = (35, omega arith, refl)
code-listed code.IncompleteBase = (36, omega arith, refl)
code-listed code.RepeatedBase = (37, omega arith, refl)
code-listed code.DeclaredAgain = (38, omega arith, refl)
code-listed code.LocalBase = (39, omega arith, refl)
code-listed code.ReachedThroughBase = (40, omega arith, refl)
code-listed code.OtherType = (41, omega arith, refl)
code-listed code.OutOfRange = (42, omega arith, refl)
code-listed code.DivisionByZero = (43, omega arith, refl)
code-listed code.BadShift = (44, omega arith, refl)
code-listed code.BoundNotPositive = (45, omega arith, refl)
code-listed code.NoConstantType = (46, omega arith, refl)
code-listed code.IncompleteType = (47, omega arith, refl)
code-listed code.BadDiscriminator = (48, omega arith, refl)
code-listed code.RepeatedLabel = (49, omega arith, refl)
code-listed code.UselessDefault = (50, omega arith, refl)
code-listed code.BadOneway = (51, omega arith, refl)
code-listed code.OtherPrefix = (52, omega arith, refl)
code-listed code.RepeatedId = (53, omega arith, refl)
code-listed code.RepeatedVersion = (54, omega arith, refl)
code-listed code.BadIdText = (55, omega arith, refl)
code-listed code.NoRepositoryId = (56, omega arith, refl)
code-listed code.NeverDefined = (57, omega arith, refl)
code-listed code.RepeatedTypeprefix = (58, omega arith, refl)
code-listed code.InterfaceNeverDefined = (59, omega arith, refl)

pub refusal-listed : (r : Refusal) → Contains all_refusals (topic.Refusal r)
refusal-listed refusal.Malformed = (0, omega arith, refl)
refusal-listed refusal.BadName = (1, omega arith, refl)
refusal-listed refusal.NoSuchFile = (2, omega arith, refl)
refusal-listed refusal.OutsideFile = (3, omega arith, refl)
refusal-listed refusal.OverLimit = (4, omega arith, refl)
refusal-listed refusal.BadMacro = (5, omega arith, refl)
refusal-listed refusal.NoSuchRoot = (6, omega arith, refl)
refusal-listed refusal.RootThere = (7, omega arith, refl)
refusal-listed refusal.NoMemory = (8, omega arith, refl)
refusal-listed refusal.Unfinished = (9, omega arith, refl)

-- what holds of all codes and all refusals holds of each topic
pub none-named : (found : Option Topic) (P : Topic → Type 0) (cs rs : List Topic) → All P cs → IfNone found (All P rs) → ((c : Code) → Contains cs (topic.Code c))
    → ((r : Refusal) → Contains rs (topic.Refusal r)) → IfNone found ((t : Topic) → P t)
none-named (Some t) P cs rs codes_are refusals_are code_there refusal_there = tt
none-named None P cs rs codes_are refusals_are code_there refusal_there = each
  where
    each : (t : Topic) → P t
    each (topic.Code c) = All-contains P cs (topic.Code c) codes_are (code_there c)
    each (topic.Refusal r) = All-contains P rs (topic.Refusal r) refusals_are (refusal_there r)
