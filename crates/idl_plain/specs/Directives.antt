-- What comes of definitions, pragmas and the operands of includes (after ISO/IEC 9899, 6.10).
use Rattle.std.specs.Prelude.{◌∷◌, [], List, None, Option, Some, codes, is_some, not, slice_get, ℕ, if◌then◌else◌}
use Rattle.std.specs.Cmp.Lexicographic.{pointwise}
use Rattle.std.specs.List.{list_any}
use Rattle.std.specs.Option.{option_to_list}
use Rattle.std.specs.Str.{bytes_eq}
use Rattle.indexmap.specs.IndexSet.{insert_key}
use Rattle.idl_event.specs.Expanding.{Expanding}
use Rattle.idl_event.specs.declared.asked.key.RootKey.TheVariants as key
use Rattle.idl_event.specs.declared.told.event.Event.TheVariants.{Fault, Pragma}
use Rattle.idl_event.specs.declared.told.event.Item.TheVariants.{Counted, Kept}
use Rattle.idl_fault.specs.declared.code.Code.TheVariants.{MalformedMacro, OtherDefinition}
use Rattle.idl_fault.specs.declared.file_name.FileName.{FileName}
use Rattle.idl_fault.specs.declared.place.Place.{Place}
use Rattle.idl_lex.specs.kinds.Word.{is_word}
use Rattle.idl_lex.specs.tokens.Tokens.{Token, tokens_in}
use Rattle.idl_lex.specs.declared.tokens.token.PlacedToken.{PlacedToken}
use Rattle.idl_macro.specs.Directives.{definition_in, saying}
use Rattle.idl_macro.specs.Macros.{Definitions, macro_of}
use Rattle.idl_macro.specs.Replace.{operand, place_at}
use Rattle.idl_memo.specs.Query.{Ask, Done, Tell, and_then}
use Rattle.idl_prep.specs.Include.{Found, Operand, directories_in, first_present, operand_given, operand_in}
use Rattle.idl_prep.specs.State.{Said}
use Rattle.idl_source.specs.names.Candidates.{along}
use Rattle.idl_source.specs.names.Directory.{directory_of}
use Rattle.idl_source.specs.names.Path.{is_rooted, joined_path}
use Rattle.idl_text.specs.Line.{Directive}

-- the macros behind `define`: there is one more, unless there is one of other tokens
abbrev pub defined_at : Place → List ℕ → Definitions → List PlacedToken → Expanding Definitions
defined_at place word definitions operands = elim (definition_in operands) [
  | None ↦ Tell (Kept (Fault place MalformedMacro (Some word))) (Done definitions)
  | Some d ↦ and_then (macro_of definitions d.0) (λ old.
      if list_any (λ body. not (pointwise bytes_eq body d.1)) (option_to_list old)
      then Tell (Kept (Fault place OtherDefinition (Some d.0))) (Done definitions)
      else Done (saying definitions d.0 (Some d.1)))
]

-- the operand of `include`: its first token, or what that is replaced by
abbrev pub operand_at : Place → Definitions → List PlacedToken → Expanding (Option Operand)
operand_at place definitions tokens =
    let replaced : Token → Expanding (Option Operand) = λ t.
    and_then (operand place definitions (t ∷ [])) (λ given. Done (operand_given given)) in
    elim (slice_get tokens 0) [
      | None ↦ Done None
      | Some t ↦
          if is_some (operand_in t.token) then Tell (Counted place) (Done (operand_in t.token))
          else if is_word t.token then and_then (macro_of definitions t.token)
          (λ body. if is_some body then replaced t.token else Done None) else Done None
    ]

-- the file that it finds: beside the including one, where it stands in quotes, or along the search
-- list; one with a leading `/` by that name alone
abbrev pub file_at : FileName → Operand → Expanding (Option Found)
file_at from o =
    let beside = first_present (option_to_list (joined_path (directory_of from) o.name)) in
    let further = Ask key.Search (λ a. first_present (along (directories_in a) o.name)) in
    if is_rooted o.name then beside else if o.is_quoted
    then and_then beside (λ found. if is_some found then Done found else further) else further

-- behind `pragma`: this file isn't to be entered again, or something is said to IDL
abbrev pub minded : FileName → Directive → Said → Expanding Said
minded file d s = elim (slice_get d.operands 0) [
  | None ↦ Done s
  | Some t ↦
      let of_idl = codes "prefix" ∷ codes "ID" ∷ codes "version" ∷ [] in
      if bytes_eq t.token (codes "once")
      then Done (record s { once = insert_key bytes_eq s.once file })
      else if list_any (bytes_eq t.token) of_idl
      then Tell (Kept (Pragma (place_at file d.word) (tokens_in (d.word ∷ d.operands)))) (Done s)
      else Done s
]
