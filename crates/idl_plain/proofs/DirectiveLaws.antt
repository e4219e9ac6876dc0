-- What comes of a directive is told in one.
use Rattle.std.proofs.Common.{◌≡◌, ◌&&◌, ◌+◌, ◌++◌, ◌-◌, ◌∷◌, ◌||◌, [], ℕ, Bool, List, None, Option, Some, ap, codes, drop, false, is_none, is_some, nat_eq, not, refl, replicate, slice_get, take, true}
use Rattle.std.specs.Cmp.Lexicographic.{pointwise}
use Rattle.std.specs.List.{list_any}
use Rattle.std.specs.Option.{option_to_list}
use Rattle.std.specs.Prelude.{if◌then◌else◌}
use Rattle.std.specs.Str.{bytes_eq}
use Rattle.indexmap.specs.IndexSet.{insert_key}
use Rattle.idl_event.specs.Expanding.{Expanding}
use Rattle.idl_event.specs.declared.asked.key.RootKey.TheVariants as key
use Rattle.idl_event.specs.declared.told.event.Event.TheVariants.{Fault, Pragma}
use Rattle.idl_event.specs.declared.told.event.Item.TheVariants.{Counted, Kept}
use Rattle.idl_fault.specs.declared.code.Code.TheVariants.{MalformedMacro, OtherDefinition}
use Rattle.idl_fault.specs.declared.file_name.FileName.{FileName}
use Rattle.idl_fault.specs.declared.place.Place.{Place}
use Rattle.idl_lex.specs.kinds.Word.{is_word}
use Rattle.idl_lex.specs.tokens.Tokens.{Token, tokens_in}
use Rattle.idl_lex.specs.declared.tokens.token.PlacedToken.{PlacedToken}
use Rattle.idl_macro.specs.Directives.{begins_parameters, define, defining, definition_in, first_word, ifdef, ifndef, is_macro_there, is_missing, is_there, saying}
use Rattle.idl_macro.specs.Macros.{Definitions, macro_of}
use Rattle.idl_macro.specs.Replace.{operand, place_at}
use Rattle.idl_memo.specs.Query.{Ask, Done, Query, Tell, and_then}
use Rattle.idl_plain.specs.Macros.{macro_test}
use Rattle.idl_prep.specs.Directive.{pragma, pragma_by, first_spelling}
use Rattle.idl_prep.specs.Include.{Found, Operand, directories_in, file_of, first_present, operand_by, operand_given, operand_in, operand_of, or_along, present_along}
use Rattle.idl_prep.specs.State.{Said}
use Rattle.idl_source.specs.names.Candidates.{along}
use Rattle.idl_source.specs.names.Directory.{directory_of}
use Rattle.idl_source.specs.names.Name.{is_name, is_plain, is_up}
use Rattle.idl_source.specs.names.Path.{Path, is_rooted, joined_path, led_by, name_of, slashed, text_of}
use Rattle.idl_text.specs.Line.{Directive}

module _ {K V X A B C : Type 0} where
  -- a query and two more steps
  chained : (q : Query K V X A) (f : A → B) (g : B → Query K V X C) → and_then (and_then q (λ a. Done (f a))) g ≡ and_then q (λ a. g (f a))
  chained (Done a) f g = refl
  chained (Ask k next) f g = λ i. Ask k (λ v. chained (next v) f g i)
  chained (Tell x q) f g = λ i. Tell x (chained q f g i)

no-more : (b : Bool) → b ≡ b || false
no-more true = refl
no-more false = refl

-- ---- macros

module _ (place : Place) (word : List ℕ) (definitions : Definitions) where
  there-by : (o : Option (List ℕ)) → and_then (elim o [
    | None ↦ Tell (Kept (Fault place MalformedMacro (Some word))) (Done None)
    | Some name ↦ and_then (macro_of definitions name) (λ body. Done (Some (is_some body)))
  ]) (λ there. Done (is_there there)) ≡ elim o [
    | None ↦ Tell (Kept (Fault place MalformedMacro (Some word))) (Done false)
    | Some name ↦ and_then (macro_of definitions name) (λ body. Done (is_some body))
  ]
  there-by None = refl
  there-by (Some name) = chained (macro_of definitions name) (λ body. Some (is_some body)) (λ there. Done (is_there there))

  missing-by : (o : Option (List ℕ)) → and_then (elim o [
    | None ↦ Tell (Kept (Fault place MalformedMacro (Some word))) (Done None)
    | Some name ↦ and_then (macro_of definitions name) (λ body. Done (Some (is_some body)))
  ]) (λ there. Done (is_missing there)) ≡ elim o [
    | None ↦ Tell (Kept (Fault place MalformedMacro (Some word))) (Done false)
    | Some name ↦ and_then (macro_of definitions name) (λ body. Done (is_none body))
  ]
  missing-by None = refl
  missing-by (Some name) = chained (macro_of definitions name) (λ body. Some (is_some body)) (λ there. Done (is_missing there))

  pub there-told : (operands : List PlacedToken) → ifdef place word definitions operands ≡ macro_test is_some place word definitions operands
  unfolding ifdef is_macro_there
  there-told operands = there-by (first_word operands)

  pub missing-told : (operands : List PlacedToken) → ifndef place word definitions operands ≡ macro_test is_none place word definitions operands
  unfolding ifndef is_macro_there
  missing-told operands = missing-by (first_word operands)

  abbrev other : List Token → Option (List Token) → Bool
  other body old = list_any (λ (b : List Token). not (pointwise bytes_eq b body)) (option_to_list old)

  defined-by : (d : List ℕ × List Token) (old : Option (List Token)) → defining place definitions d.0 d.1 old
      ≡ (if other d.1 old then Tell (Kept (Fault place OtherDefinition (Some d.0))) (Done definitions) else Done (saying definitions d.0 (Some d.1)))
  defined-by d None = refl
  defined-by d (Some b) = λ i. if no-more (not (pointwise bytes_eq b d.1)) i then Tell (Kept (Fault place OtherDefinition (Some d.0))) (Done definitions) else Done (saying definitions d.0 (Some d.1))

  abbrev defining-in : Option (List ℕ × List Token) → Expanding Definitions
  defining-in o = elim o [
    | None ↦ Tell (Kept (Fault place MalformedMacro (Some word))) (Done definitions)
    | Some d ↦ and_then (macro_of definitions d.0) (defining place definitions d.0 d.1)
  ]

  abbrev defined-from : Option (List ℕ × List Token) → Expanding Definitions
  defined-from o = elim o [
    | None ↦ Tell (Kept (Fault place MalformedMacro (Some word))) (Done definitions)
    | Some d ↦ and_then (macro_of definitions d.0) (λ old.
        if list_any (λ body. not (pointwise bytes_eq body d.1)) (option_to_list old)
        then Tell (Kept (Fault place OtherDefinition (Some d.0))) (Done definitions)
        else Done (saying definitions d.0 (Some d.1)))
  ]

  defined-in : (o : Option (List ℕ × List Token)) → defining-in o ≡ defined-from o
  defined-in None = refl
  defined-in (Some d) = λ i. and_then (macro_of definitions d.0) (λ old. defined-by d old i)

  pub defined-told : (operands : List PlacedToken) → define place word definitions operands ≡ elim (definition_in operands) [
    | None ↦ Tell (Kept (Fault place MalformedMacro (Some word))) (Done definitions)
    | Some d ↦ and_then (macro_of definitions d.0) (λ old.
        if list_any (λ body. not (pointwise bytes_eq body d.1)) (option_to_list old)
        then Tell (Kept (Fault place OtherDefinition (Some d.0))) (Done definitions)
        else Done (saying definitions d.0 (Some d.1)))
  ]
  unfolding define
  defined-told operands = defined-in (definition_in operands)

-- ---- files

module _ (place : Place) (definitions : Definitions) where
  given-by : (t : Token) (body : Option (List Token)) → operand_by place definitions t body
      ≡ (if is_some body then and_then (operand place definitions (t ∷ [])) (λ given. Done (operand_given given)) else Done None)
  given-by t None = refl
  given-by t (Some body) = refl

  pub operands-told : (tokens : List PlacedToken) → operand_of place definitions tokens ≡ elim (slice_get tokens 0) [
    | None ↦ Done None
    | Some t ↦
        if is_some (operand_in t.token) then Tell (Counted place) (Done (operand_in t.token))
        else if is_word t.token then and_then (macro_of definitions t.token) (λ body.
        if is_some body
        then and_then (operand place definitions (t.token ∷ [])) (λ given. Done (operand_given given))
        else Done None)
        else Done None
  ]
  unfolding operand_of
  operands-told [] = refl
  operands-told (t ∷ tokens) = λ i.
      if is_some (operand_in t.token) then Tell (Counted place) (Done (operand_in t.token))
      else if is_word t.token then and_then (macro_of definitions t.token) (λ body. given-by t.token body i)
      else Done None

module _ (from : FileName) (o : Operand) where
  abbrev beside : Expanding (Option Found)
  beside = first_present (option_to_list (joined_path (directory_of from) o.name))

  abbrev further : Expanding (Option Found)
  further = Ask key.Search (λ a. first_present (along (directories_in a) o.name))

  found-by : (found : Option Found) → or_along o.name found ≡ (if is_some found then Done found else further)
  unfolding present_along
  found-by None = refl
  found-by (Some found) = refl

  pub found-told : file_of from o
      ≡ (let beside = first_present (option_to_list (joined_path (directory_of from) o.name)) in
      let further = Ask key.Search (λ a. first_present (along (directories_in a) o.name)) in
      if is_rooted o.name then beside else if o.is_quoted
      then and_then beside (λ found. if is_some found then Done found else further) else further)
  unfolding file_of present_along
  found-told = λ i.
      if is_rooted o.name then beside else if o.is_quoted
      then and_then beside (λ found. found-by found i) else further

module _ (file : FileName) (d : Directive) (s : Said) where
  of-three : (a b c : Bool) → a || (b || c) ≡ a || (b || (c || false))
  of-three a b c = λ i. a || (b || no-more c i)

  pragma-by : (operands : List PlacedToken) → pragma_by file d s (first_spelling operands) ≡ elim (slice_get operands 0) [
    | None ↦ Done s
    | Some t ↦
        if bytes_eq t.token (codes "once")
        then Done (record s { once = insert_key bytes_eq s.once file })
        else if list_any (bytes_eq t.token) (codes "prefix" ∷ codes "ID" ∷ codes "version" ∷ [])
        then Tell (Kept (Pragma (place_at file d.word) (tokens_in (d.word ∷ d.operands)))) (Done s)
        else Done s
  ]
  pragma-by [] = refl
  pragma-by (t ∷ operands) = λ i.
      if bytes_eq t.token (codes "once")
      then Done (record s { once = insert_key bytes_eq s.once file })
      else if of-three (bytes_eq t.token (codes "prefix")) (bytes_eq t.token (codes "ID")) (bytes_eq t.token (codes "version")) i
      then Tell (Kept (Pragma (place_at file d.word) (tokens_in (d.word ∷ d.operands)))) (Done s)
      else Done s

  pub pragmas-told : pragma file d s ≡ elim (slice_get d.operands 0) [
    | None ↦ Done s
    | Some t ↦
        if bytes_eq t.token (codes "once")
        then Done (record s { once = insert_key bytes_eq s.once file })
        else if list_any (bytes_eq t.token) (codes "prefix" ∷ codes "ID" ∷ codes "version" ∷ [])
        then Tell (Kept (Pragma (place_at file d.word) (tokens_in (d.word ∷ d.operands)))) (Done s)
        else Done s
  ]
  unfolding pragma
  pragmas-told = pragma-by d.operands

-- ---- operands

pub path-told : (rooted : Bool) (path : Path) → name_of rooted path ≡ (
    let text = slashed (replicate path.up (codes "..") ++ path.down) in
    let name = if rooted then text else drop 1 text in
    if is_name name then Some name else None)
unfolding text_of
path-told true path = refl
path-told false path = refl

module _ (segment : List ℕ) (path : Path) where
  step-by : (plain level : Bool) → (if plain then (if level then record path { down = segment ∷ path.down } else record path { up = path.up - 1 }) else path)
      ≡ (if not plain then path else if level then record path { down = segment ∷ path.down } else record path { up = path.up - 1 })
  step-by true level = refl
  step-by false level = refl

  pub step-told : led_by segment path ≡ (
      let down = record path { down = segment ∷ path.down } in
      if is_up segment then record path { up = path.up + 1 }
      else if not (is_plain segment) then path
      else if nat_eq path.up 0 then down else record path { up = path.up - 1 })
  step-told = ap (λ (p : Path). if is_up segment then record path { up = path.up + 1 } else p) (step-by (is_plain segment) (nat_eq path.up 0))

pub parameters-told : (operands : List PlacedToken) → begins_parameters operands ≡ list_any (λ t. t.follows_word && bytes_eq t.token (codes "(")) (take 1 operands)
parameters-told [] = refl
parameters-told (t ∷ operands) = no-more (t.follows_word && bytes_eq t.token (codes "("))
