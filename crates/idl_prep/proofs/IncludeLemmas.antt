-- What the search for an included file asks, and what it finds.
use Rattle.std.proofs.Common.{◌≡◌, ◌+◌, ◌<◌, ℕ, length, get_or, drop, List, [], ◌∷◌, ◌++◌, true, false, is_some, if◌then◌else◌, Option, None, Some, refl, ap, sym, ◌∙◌}
use Rattle.std.proofs.lemmas.List.{at_drop_more}
use Rattle.std.specs.List.{cons_option}
use Rattle.std.specs.Option.{option_map, option_to_list}
use Rattle.idl_memo.specs.Progress.{after_key}
use Rattle.idl_memo.specs.Query.{Ask, Done, Tell, and_then, outcome}
use Rattle.idl_macro.specs.Replace.{operand}
use Rattle.idl_lex.specs.tokens.Tokens.{Token}
use Rattle.idl_event.specs.Key.{key_eq}
use Rattle.idl_event.specs.Expanding.{Expanding, Reached, arrival, arrived}
use Rattle.idl_macro.specs.Macros.{Definitions, macro_of}
use Rattle.idl_lex.specs.kinds.Word.{is_word}
use Rattle.idl_fault.specs.declared.file_name.FileName.{FileName}
use Rattle.idl_event.specs.declared.told.event.Item.TheVariants.{Counted}
use Rattle.idl_fault.specs.declared.place.Place.{Place}
use Rattle.idl_event.specs.declared.asked.key.RootAnswer.{RootAnswer}
use Rattle.idl_event.specs.declared.asked.key.RootKey.{RootKey}
use Rattle.idl_event.specs.declared.asked.key.RootKey.TheVariants as key
use Rattle.idl_prep.specs.Include.{Found, Operand, directories_in, file_in, file_of, first_present, operand_at, operand_by, operand_given, operand_in, or_along, present_along}
use Rattle.idl_source.specs.names.Directory.{directory_of}
use Rattle.idl_prep.proofs.WalkLaws.WayLemmas.{arrival-then}
use Rattle.idl_source.specs.names.Candidates.{along}
use Rattle.idl_source.specs.names.Path.{is_rooted, joined_path}

-- a file of these lines, if there are any
abbrev pub found_as : List ℕ → Option (List (List ℕ)) → Option Found
found_as name lines = option_map (λ ls. record { name = name; lines = ls }) lines

-- the search for one name, if there is one
abbrev pub one : Option (List ℕ) → Expanding (Option Found)
one name = first_present (option_to_list name)

module _ (bank : RootKey → Option RootAnswer) where
  -- there is no name, and nothing is asked
  pub arrival-one-none : (o : Option (List ℕ)) (p : Reached) → o ≡ None → arrived None p ≡ arrival bank (one o) p
  unfolding first_present
  arrival-one-none o p none = ap (λ o. arrival bank (one o) p) (sym none)

  -- what follows from the lines that are answered
  abbrev by_lines : List ℕ → Option (List (List ℕ)) → Expanding (Option Found)
  by_lines name lines = elim lines [ None ↦ first_present [] | Some ls ↦ Done (Some (record { name = name; lines = ls })) ]

  arrival-by_lines : (name : List ℕ) (lines : Option (List (List ℕ))) (p : Reached) → arrived (found_as name lines) p ≡ arrival bank (by_lines name lines) p
  unfolding first_present
  arrival-by_lines name None p = refl
  arrival-by_lines name (Some ls) p = refl

  -- there is a name, of which the bank is asked
  pub arrival-one-some : (o : Option (List ℕ)) (name : List ℕ) (lines : Option (List (List ℕ))) (p p' : Reached) → o ≡ Some name → file_in (bank (key.File name)) ≡ lines
      → p' ≡ after_key key_eq bank (key.File name) p → arrived (found_as name lines) p' ≡ arrival bank (one o) p
  unfolding first_present
  arrival-one-some o name lines p p' some held asked =
      ap (arrived (found_as name lines)) asked
      ∙ arrival-by_lines name lines (after_key key_eq bank (key.File name) p)
      ∙ ap (λ ls. arrival bank (by_lines name ls) (after_key key_eq bank (key.File name) p)) (sym held)
      ∙ ap (λ o. arrival bank (one o) p) (sym some)

-- where nothing was found, these names follow
abbrev pub or_first : List (List ℕ) → Option Found → Expanding (Option Found)
or_first names None = first_present names
or_first names (Some found) = Done (Some found)

more : (name : List ℕ) (names : List (List ℕ)) (lines : Option (List (List ℕ)))
    → elim lines [ None ↦ first_present names | Some ls ↦ Done (Some (record { name = name; lines = ls })) ]
    ≡ and_then (elim lines [ None ↦ first_present [] | Some ls ↦ Done (Some (record { name = name; lines = ls })) ]) (or_first names)
unfolding first_present
more name names None = refl
more name names (Some ls) = refl

-- a name in front of others: where it isn't present, the others follow
pub first_present-more : (o : Option (List ℕ)) (names : List (List ℕ)) → first_present (option_to_list o ++ names) ≡ and_then (one o) (or_first names)
unfolding first_present
first_present-more None names = refl
first_present-more (Some name) names = λ i. Ask (key.File name) (λ found. more name names (file_in found) i)

-- the names along directories: that in the first, if there is one, and those along the others
pub cons_option-append : {X : Type 0} (o : Option X) (xs : List X) → cons_option o xs ≡ option_to_list o ++ xs
cons_option-append None xs = refl
cons_option-append (Some x) xs = refl

pub along-drop : (directories : List (List ℕ)) (i : ℕ) (directory : List ℕ) (name : List ℕ) → i < length directories → directory ≡ get_or directories i directory
    → along (drop i directories) name ≡ option_to_list (joined_path directory name) ++ along (drop (i + 1) directories) name
along-drop directories i directory name lt is =
    at_drop_more (λ ds. along ds name) directories i directory lt
    ∙ cons_option-append (joined_path (get_or directories i directory) name) (along (drop (i + 1) directories) name)
    ∙ ap (λ (d : List ℕ). option_to_list (joined_path d name) ++ along (drop (i + 1) directories) name) (sym is)

-- the next directory is searched, and where nothing is found there, those that follow
pub arrival-along : (bank : RootKey → Option RootAnswer) (directories : List (List ℕ)) (i : ℕ) (directory name : List ℕ) (f : Option Found) (p p' : Reached)
    → i < length directories → directory ≡ get_or directories i directory → arrived f p' ≡ arrival bank (one (joined_path directory name)) p
    → arrival bank (or_first (along (drop (i + 1) directories) name) f) p' ≡ arrival bank (first_present (along (drop i directories) name)) p
arrival-along bank directories i directory name f p p' lt is came =
    let rest = along (drop (i + 1) directories) name in
    arrival-then bank (one (joined_path directory name)) (or_first rest) f p p' came
    ∙ ap (λ (e : Expanding (Option Found)). arrival bank e p) (sym (first_present-more (joined_path directory name) rest))
    ∙ ap (λ (names : List (List ℕ)). arrival bank (first_present names) p) (sym (along-drop directories i directory name lt is))

-- the search along the search list begins with its directories
pub outcome-present_along : (bank : RootKey → Option RootAnswer) (name : List ℕ) → outcome (present_along name) bank ≡ outcome (first_present (along (directories_in (bank key.Search)) name)) bank
unfolding present_along
outcome-present_along bank name = refl

pub arrival-present_along : (bank : RootKey → Option RootAnswer) (name : List ℕ) (p : Reached)
    → arrival bank (present_along name) p ≡ arrival bank (first_present (along (directories_in (bank key.Search)) name)) (after_key key_eq bank key.Search p)
unfolding present_along
arrival-present_along bank name p = refl

-- the file of an operand, by how it is written
module _ (from : FileName) (o : Operand) where
  pub file_of-rooted : is_rooted o.name ≡ true → file_of from o ≡ one (joined_path (directory_of from) o.name)
  unfolding file_of
  file_of-rooted h = ap (λ b. if b then one (joined_path (directory_of from) o.name)
      else (if o.is_quoted then and_then (one (joined_path (directory_of from) o.name)) (or_along o.name) else present_along o.name)) h

  pub file_of-along : is_rooted o.name ≡ false → o.is_quoted ≡ false → file_of from o ≡ present_along o.name
  unfolding file_of
  file_of-along h q =
      ap (λ b. if b then one (joined_path (directory_of from) o.name)
      else (if o.is_quoted then and_then (one (joined_path (directory_of from) o.name)) (or_along o.name) else present_along o.name)) h
      ∙ ap (λ b. if b then and_then (one (joined_path (directory_of from) o.name)) (or_along o.name) else present_along o.name) q

  pub file_of-quoted : is_rooted o.name ≡ false → o.is_quoted ≡ true → file_of from o ≡ and_then (one (joined_path (directory_of from) o.name)) (or_along o.name)
  unfolding file_of
  file_of-quoted h q =
      ap (λ b. if b then one (joined_path (directory_of from) o.name)
      else (if o.is_quoted then and_then (one (joined_path (directory_of from) o.name)) (or_along o.name) else present_along o.name)) h
      ∙ ap (λ b. if b then and_then (one (joined_path (directory_of from) o.name)) (or_along o.name) else present_along o.name) q

  -- in quotes, by what stands beside the including file
  pub arrival-file_of-quoted : (bank : RootKey → Option RootAnswer) (f : Option Found) (p p' : Reached) → is_rooted o.name ≡ false → o.is_quoted ≡ true
      → arrived f p' ≡ arrival bank (one (joined_path (directory_of from) o.name)) p → arrival bank (or_along o.name f) p' ≡ arrival bank (file_of from o) p
  arrival-file_of-quoted bank f p p' h q came =
      arrival-then bank (one (joined_path (directory_of from) o.name)) (or_along o.name) f p p' came
      ∙ ap (λ (e : Expanding (Option Found)). arrival bank e p) (sym (file_of-quoted h q))

-- the operand of a word that is none itself
module _ (place : Place) (definitions : Definitions) (t : Token) where
  pub operand_at-word : operand_in t ≡ None → is_word t ≡ true → operand_at place definitions t ≡ and_then (macro_of definitions t) (operand_by place definitions t)
  operand_at-word none word =
      ap (λ (o : Option Operand). if is_some o then Tell (Counted place) (Done o)
      else (if is_word t then and_then (macro_of definitions t) (operand_by place definitions t) else Done None)) none
      ∙ ap (λ b. if b then and_then (macro_of definitions t) (operand_by place definitions t) else Done None) word

-- it is that which the word's macro gives
pub arrival-operand_at-word : (bank : RootKey → Option RootAnswer) (place : Place) (definitions : Definitions) (t : Token) (body : Option (List Token)) (p p' : Reached)
    → operand_in t ≡ None → is_word t ≡ true → arrived body p' ≡ arrival bank (macro_of definitions t) p
    → arrival bank (operand_by place definitions t body) p' ≡ arrival bank (operand_at place definitions t) p
arrival-operand_at-word bank place definitions t body p p' none word came =
    arrival-then bank (macro_of definitions t) (operand_by place definitions t) body p p' came
    ∙ ap (λ (e : Expanding (Option Operand)). arrival bank e p) (sym (operand_at-word place definitions t none word))

-- what the tokens of its replacement give
pub arrived-operand_by : (bank : RootKey → Option RootAnswer) (place : Place) (definitions : Definitions) (t : Token) (body given : List Token) (p p' : Reached)
    → arrived given p' ≡ arrival bank (operand place definitions (t ∷ [])) p
    → arrived (operand_given given) p' ≡ arrival bank (operand_by place definitions t (Some body)) p
arrived-operand_by bank place definitions t body given p p' came =
    arrival-then bank (operand place definitions (t ∷ [])) (λ (given : List Token). Done (operand_given given)) given p p' came
