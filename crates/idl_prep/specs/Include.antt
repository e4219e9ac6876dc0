-- The file that an include finds (after ISO/IEC 9899, 6.10.2).
use Rattle.std.specs.Prelude.{ℕ, ◌-◌, Bool, true, false, ◌&&◌, ◌||◌, List, [], ◌∷◌, length, slice_get, slice_range, Option, None, Some, is_some, if◌then◌else◌, nat_eq}
use Rattle.std.specs.Option.{option_to_list}
use Rattle.idl_memo.specs.Query.{Done, Ask, Tell, and_then}
use Rattle.idl_lex.specs.kinds.Kind.{kind_of}
use Rattle.idl_lex.specs.tokens.Tokens.{Token}
use Rattle.idl_lex.specs.declared.kinds.kind.TokenKind.{TokenKind}
use Rattle.idl_lex.specs.declared.kinds.kind.TokenKind.TheVariants.{HeaderName, String, Bad}
use Rattle.idl_lex.specs.declared.kinds.kind.Defect.{Defect}
use Rattle.idl_lex.specs.declared.kinds.kind.Defect.TheVariants.{BadEscape}
use Rattle.idl_lex.specs.declared.tokens.token.PlacedToken.{PlacedToken}
use Rattle.idl_event.specs.Expanding.{Expanding}
use Rattle.idl_macro.specs.Macros.{Definitions, macro_of}
use Rattle.idl_macro.specs.Replace.{operand}
use Rattle.idl_lex.specs.kinds.Word.{is_word}
use Rattle.idl_fault.specs.declared.file_name.FileName.{FileName}
use Rattle.idl_event.specs.declared.told.event.Item.TheVariants.{Counted}
use Rattle.idl_event.specs.declared.asked.key.RootAnswer.{RootAnswer}
use Rattle.idl_event.specs.declared.asked.key.RootAnswer.TheVariants as answer
use Rattle.idl_event.specs.declared.asked.key.RootKey.TheVariants as key
use Rattle.idl_fault.specs.declared.place.Place.{Place}
use Rattle.idl_source.specs.names.Candidates.{along}
use Rattle.idl_source.specs.names.Directory.{directory_of}
use Rattle.idl_source.specs.names.Path.{is_rooted, joined_path}

-- the lines of a file that is answered
abbrev pub file_in : Option RootAnswer → Option (List (List ℕ))
file_in None = None
file_in (Some (answer.Macro text)) = None
file_in (Some (answer.File text)) = Some text
file_in (Some (answer.Search directories)) = None

-- the directories that are answered
abbrev pub directories_in : Option RootAnswer → List (List ℕ)
directories_in None = []
directories_in (Some (answer.Macro text)) = []
directories_in (Some (answer.File text)) = []
directories_in (Some (answer.Search directories)) = directories

-- a file that is there: its name, and its lines
pub record Found : Type 0 where
  pub name : List ℕ
  pub lines : List (List ℕ)

-- the first of these names that is present, each of which is asked in turn
unfoldable pub first_present : List (List ℕ) → Expanding (Option Found)
first_present [] = Done None
first_present (name ∷ names) =
    Ask (key.File name) (λ found. elim (file_in found) [
      | None ↦ first_present names
      | Some lines ↦ Done (Some (record { name = name; lines = lines }))
    ])

-- the first along the search list
unfoldable pub present_along : List ℕ → Expanding (Option Found)
present_along spelled =
    Ask key.Search (λ found. first_present (along (directories_in found) spelled))

-- the first beside the including file, and else along the search list
abbrev pub or_along : List ℕ → Option Found → Expanding (Option Found)
or_along spelled (Some found) = Done (Some found)
or_along spelled None = present_along spelled

-- an operand of an include: the bytes of the file's name, whether they stand in quotes, and how it
-- is spelled
pub record Operand : Type 0 where
  pub name : List ℕ
  pub is_quoted : Bool
  pub spelling : List ℕ

-- The file that an operand finds: one with a leading `/` asks for that name alone; another one
-- along the search list, in quotes after the name beside the including file.
unfoldable pub file_of : FileName → Operand → Expanding (Option Found)
file_of from o =
    if is_rooted o.name then first_present (option_to_list (joined_path (directory_of from) o.name))
    else (if o.is_quoted
    then and_then (first_present (option_to_list (joined_path (directory_of from) o.name)))
    (or_along o.name)
    else present_along o.name)

-- the bytes between the first and the last
abbrev pub inner : List ℕ → List ℕ
inner bytes = slice_range bytes 1 (length bytes - 1)

abbrev pub begins_quoted : List ℕ → Bool
begins_quoted [] = false
begins_quoted (b ∷ bytes) = nat_eq b 34

-- a string that is closed on its line, whatever its escapes are
abbrev pub is_bad_escape : Defect → Bool
is_bad_escape BadEscape = true
is_bad_escape other = false

abbrev pub is_closed : TokenKind → Bool
is_closed String = true
is_closed (Bad defect) = is_bad_escape defect
is_closed other = false

abbrev pub is_string : Token → Bool
is_string t = begins_quoted t && is_closed (kind_of t)

abbrev pub is_header_kind : TokenKind → Bool
is_header_kind HeaderName = true
is_header_kind other = false

-- the operand that a token of the line is
abbrev pub operand_in : Token → Option Operand
operand_in t =
    if is_header_kind (kind_of t) || is_string t
    then Some (record { name = inner t; is_quoted = is_string t; spelling = t })
    else None

-- the operand that the tokens of a macro give: one string
abbrev pub operand_given : List Token → Option Operand
operand_given [] = None
operand_given (t ∷ []) = if is_string t then operand_in t else None
operand_given (t ∷ u ∷ tokens) = None

-- the operand that a macro gives, if the word has one
abbrev pub operand_by :
    Place → Definitions → Token → Option (List Token) → Expanding (Option Operand)
operand_by place definitions t None = Done None
operand_by place definitions t (Some body) =
    and_then (operand place definitions (t ∷ [])) (λ given. Done (operand_given given))

-- the operand of a token: one that is an operand counts, and a word is replaced
abbrev pub operand_at : Place → Definitions → Token → Expanding (Option Operand)
operand_at place definitions t =
    if is_some (operand_in t) then Tell (Counted place) (Done (operand_in t))
    else (if is_word t then and_then (macro_of definitions t) (operand_by place definitions t)
    else Done None)

-- the operand of the first token, if there is one
abbrev pub operand_first : Place → Definitions → Option PlacedToken → Expanding (Option Operand)
operand_first place definitions None = Done None
operand_first place definitions (Some t) = operand_at place definitions t.token

-- the operand of the tokens after `include`; those after the first are passed over
unfoldable pub operand_of : Place → Definitions → List PlacedToken → Expanding (Option Operand)
operand_of place definitions tokens = operand_first place definitions (slice_get tokens 0)
