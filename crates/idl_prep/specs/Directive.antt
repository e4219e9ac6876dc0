-- The directives of one line, and the tests of groups.
use Rattle.std.specs.Prelude.{ℕ, Bool, ◌||◌, List, [], ◌∷◌, codes, drop, flat_map, Option, None, Some, if◌then◌else◌}
use Rattle.std.specs.List.{list_any}
use Rattle.std.specs.Str.{bytes_eq}
use Rattle.indexmap.specs.IndexSet.{insert_key}
use Rattle.idl_memo.specs.Query.{Done, Tell, and_then}
use Rattle.idl_lex.specs.declared.tokens.token.PlacedToken.{PlacedToken}
use Rattle.idl_macro.specs.Condition.{condition}
use Rattle.idl_macro.specs.Directives.{define, undef, ifdef, ifndef}
use Rattle.idl_event.specs.Expanding.{Expanding}
use Rattle.idl_macro.specs.Macros.{Definitions}
use Rattle.idl_lex.specs.tokens.Tokens.{Token, tokens_in}
use Rattle.idl_macro.specs.Replace.{place_at, text}
use Rattle.idl_fault.specs.declared.file_name.FileName.{FileName}
use Rattle.idl_fault.specs.declared.code.Code.TheVariants as code
use Rattle.idl_event.specs.declared.told.event.Event.TheVariants.{Fault, Pragma}
use Rattle.idl_event.specs.declared.told.event.Item.TheVariants.{Kept, Turn}
use Rattle.idl_fault.specs.declared.place.Place.{Place}
use Rattle.idl_text.specs.Line.{Directive, Line, Text, NullDirective, Directed}
use Rattle.idl_text.specs.declared.groups.kind.DirectiveKind.{DirectiveKind}
use Rattle.idl_text.specs.declared.groups.kind.DirectiveKind.TheVariants.{Alone}
use Rattle.idl_text.specs.declared.groups.kind.Plain.{Plain}
use Rattle.idl_text.specs.declared.groups.kind.Plain.TheVariants as plain
use Rattle.idl_text.specs.declared.groups.kind.Test.{Test}
use Rattle.idl_text.specs.declared.groups.kind.Test.TheVariants.{If, Ifdef, Ifndef}
use Rattle.idl_prep.specs.Include.{Found, Operand, file_of, operand_of}
use Rattle.idl_prep.specs.Place.{place_in}
use Rattle.idl_prep.specs.State.{Said}

-- what becomes of a file that is entered at a place, by its name and its lines
abbrev pub Enter : Type 0
Enter = Place → List ℕ → List (List ℕ) → Said → Expanding Said

-- definitions take the place of those that there were
abbrev pub redefined : Said → Definitions → Expanding Said
redefined s definitions = Done (record s { definitions = definitions })

-- the file that was found is entered, unless it is not to be entered again
abbrev pub entering : Enter → Place → Operand → Said → Option Found → Expanding Said
entering enter place o s None = Tell (Kept (Fault place code.NotFound (Some o.spelling))) (Done s)
entering enter place o s (Some found) =
    if list_any (bytes_eq found.name) s.once then Done s else enter place found.name found.lines s

-- the file of an operand, if there is one
abbrev pub including : Enter → FileName → Directive → Said → Option Operand → Expanding Said
including enter file d s None =
    Tell (Kept (Fault (place_in file d) code.MalformedInclude (Some d.word.token))) (Done s)
including enter file d s (Some o) = and_then (file_of file o) (entering enter (place_in file d) o s)

-- `include`
unfoldable pub include : Enter → FileName → Directive → Said → Expanding Said
include enter file d s =
    and_then (operand_of (place_in file d) s.definitions d.operands) (including enter file d s)

-- the tokens, parted by one blank: each has one before it, but the first
abbrev pub parted : List Token → List ℕ
parted tokens = drop 1 (flat_map (λ t. 32 ∷ t) tokens)

-- one of the three pragmas that mean something to IDL
abbrev pub is_of_idl : List ℕ → Bool
is_of_idl word =
    bytes_eq word (codes "prefix")
    || (bytes_eq word (codes "ID") || bytes_eq word (codes "version"))

-- how the first of the tokens is spelled
abbrev pub first_spelling : List PlacedToken → Option (List ℕ)
first_spelling [] = None
first_spelling (t ∷ tokens) = Some t.token

-- `pragma` with this first word: the file is not to be entered again, or it means something to IDL,
-- or nothing
abbrev pub pragma_by : FileName → Directive → Said → Option (List ℕ) → Expanding Said
pragma_by file d s None = Done s
pragma_by file d s (Some word) =
    if bytes_eq word (codes "once") then Done (record s { once = insert_key bytes_eq s.once file })
    else (if is_of_idl word
    then Tell (Kept (Pragma (place_at file d.word) (tokens_in (d.word ∷ d.operands)))) (Done s)
    else Done s)

-- `pragma`
unfoldable pub pragma : FileName → Directive → Said → Expanding Said
pragma file d s = pragma_by file d s (first_spelling d.operands)

-- a directive of one line
abbrev pub plain_effect : Enter → FileName → Directive → Said → Plain → Expanding Said
plain_effect enter file d s plain.Include = include enter file d s
plain_effect enter file d s plain.Define =
    and_then (define (place_in file d) d.word.token s.definitions d.operands) (redefined s)
plain_effect enter file d s plain.Undef =
    and_then (undef (place_in file d) d.word.token s.definitions d.operands) (redefined s)
plain_effect enter file d s plain.Error =
    Tell (Kept (Fault (place_in file d) code.Error (Some (parted (tokens_in (d.word ∷ d.operands)))))) (Done s)
plain_effect enter file d s plain.Pragma = pragma file d s
plain_effect enter file d s plain.Ignored = Done s
plain_effect enter file d s plain.Unknown =
    Tell (Kept (Fault (place_in file d) code.UnknownDirective (Some d.word.token))) (Done s)

abbrev pub plain_or : Enter → FileName → Directive → Said → DirectiveKind → Expanding Said
plain_or enter file d s (Alone what) = plain_effect enter file d s what
plain_or enter file d s other = Done s

-- a line that isn't skipped and belongs to no group; a directive is a turn
unfoldable pub effect : Enter → FileName → Line → Said → Expanding Said
effect enter file (Text tokens) s = and_then (text file s.definitions tokens) (λ given. Done s)
effect enter file (NullDirective line) s =
    Tell (Turn (record { file = file; line = line })) (Done s)
effect enter file (Directed d) s = Tell (Turn (place_in file d)) (plain_or enter file d s d.kind)

abbrev pub tested : FileName → Directive → Said → Test → Expanding Bool
tested file d s If = condition (place_in file d) d.word.token s.definitions d.operands
tested file d s Ifdef = ifdef (place_in file d) d.word.token s.definitions d.operands
tested file d s Ifndef = ifndef (place_in file d) d.word.token s.definitions d.operands

-- whether the first lines of a group are taken
unfoldable pub test : FileName → Directive → Test → Said → Expanding Bool
test file d what s = tested file d s what
