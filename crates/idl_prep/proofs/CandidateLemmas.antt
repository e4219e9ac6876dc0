-- An include finds the first of its candidates.
use Rattle.std.proofs.Common.{◌≡◌, ℕ, List, [], ◌∷◌, Bool, true, false, cond, is_some, if◌then◌else◌, Option, None, Some, unwrap_or, refl, ap, sym, subst, ◌∙◌}
use Rattle.std.specs.FinMap as finite
use Rattle.std.specs.List.{cons_option}
use Rattle.std.specs.Option.{option_map, option_to_list}
use Rattle.idl_memo.specs.Query.{Done, and_then, asked, outcome}
use Rattle.idl_memo.proofs.QueryLaws.{outcome-and_then}
use Rattle.idl_event.specs.Expanding.{Expanding}
use Rattle.idl_fault.specs.declared.file_name.FileName.{FileName}
use Rattle.idl_event.specs.declared.asked.key.RootAnswer.{RootAnswer}
use Rattle.idl_event.specs.declared.asked.key.RootAnswer.TheVariants as answer
use Rattle.idl_event.specs.declared.asked.key.RootKey.{RootKey}
use Rattle.idl_event.specs.declared.asked.key.RootKey.TheVariants as key
use Rattle.idl_prep.specs.Candidate.{AnswersFrom, IsFirstPresent, files_asked, up_to_present}
use Rattle.idl_prep.specs.Include.{Found, Operand, directories_in, file_in, file_of, first_present, or_along, present_along}
use Rattle.idl_prep.proofs.IncludeLemmas.{cons_option-append, first_present-more, one, or_first, outcome-present_along}
use Rattle.idl_source.specs.names.Candidates.{along, candidates, found}
use Rattle.idl_source.specs.names.Directory.{directory_of}
use Rattle.idl_source.specs.names.Path.{is_rooted, joined_path}
use Rattle.idl_source.specs.texts.Texts.{Texts}

-- over any bank: the first candidate along the search list that it answers with
module _ (bank : RootKey → Option RootAnswer) (from : FileName) (name : List ℕ) where
  abbrev listed : List (List ℕ)
  listed = directories_in (bank key.Search)

  abbrev beside : Option (List ℕ)
  beside = joined_path (directory_of from) name

  outcome-or_along : (f : Option Found) → outcome (or_along name f) bank ≡ outcome (or_first (along listed name) f) bank
  outcome-or_along None = outcome-present_along bank name
  outcome-or_along (Some file) = refl

  outcome-beside : outcome (and_then (one beside) (or_along name)) bank ≡ outcome (first_present (cons_option beside (along listed name))) bank
  outcome-beside =
      outcome-and_then (one beside) (or_along name) bank
      ∙ outcome-or_along (outcome (one beside) bank)
      ∙ sym (outcome-and_then (one beside) (or_first (along listed name)) bank)
      ∙ ap (λ (e : Expanding (Option Found)). outcome e bank) (sym (first_present-more beside (along listed name)))
      ∙ ap (λ (names : List (List ℕ)). outcome (first_present names) bank) (sym (cons_option-append beside (along listed name)))

  outcome-chosen : (rooted quoted : Bool)
      → outcome (if rooted then one beside else (if quoted then and_then (one beside) (or_along name) else present_along name)) bank
      ≡ outcome (first_present (if rooted then option_to_list beside else (if quoted then along (directory_of from ∷ listed) name else along listed name))) bank
  outcome-chosen true quoted = refl
  outcome-chosen false true = outcome-beside
  outcome-chosen false false = outcome-present_along bank name

pub outcome-file_of : (bank : RootKey → Option RootAnswer) (from : FileName) (o : Operand)
    → outcome (file_of from o) bank ≡ outcome (first_present (candidates (directories_in (bank key.Search)) from o.name o.is_quoted)) bank
unfolding file_of candidates
outcome-file_of bank from o = outcome-chosen bank from o.name (is_rooted o.name) o.is_quoted

-- over a bank of files: the first of these names that is present, with its lines
module _ (files : Texts) (directories : List (List ℕ)) (bank : RootKey → Option RootAnswer) (answers : AnswersFrom files directories bank) where
  lines_in : (lines : Option (List (List ℕ))) → file_in (option_map answer.File lines) ≡ lines
  lines_in None = refl
  lines_in (Some lines) = refl

  file_in-bank : (name : List ℕ) → file_in (bank (key.File name)) ≡ finite.get files name
  file_in-bank name = ap file_in (answers.by_name name) ∙ lines_in (finite.get files name)

  first_by : (name : List ℕ) (names : List (List ℕ)) (lines : Option (List (List ℕ))) → finite.get files name ≡ lines
      → IsFirstPresent files names (outcome (first_present names) bank)
      → IsFirstPresent files (name ∷ names)
      (outcome (elim lines [ None ↦ first_present names | Some ls ↦ Done (Some (record { name = name; lines = ls })) ]) bank)
  first_by name names None is rest = record {
    name = rest.name ∙ ap (λ (ls : Option (List (List ℕ))). cond (is_some ls) (Some name) (found files names)) (sym is);
    lines = rest.lines;
  }
  first_by name names (Some ls) is rest = record {
    name = ap (λ (ls : Option (List (List ℕ))). cond (is_some ls) (Some name) (found files names)) (sym is);
    lines = λ f e. subst (λ (f : Found). finite.get files f.name ≡ Some f.lines) (ap (λ (o : Option Found). unwrap_or o f) e) is;
  }

  IsFirstPresent-first_present : (names : List (List ℕ)) → IsFirstPresent files names (outcome (first_present names) bank)
  unfolding first_present
  IsFirstPresent-first_present [] = record { name = refl; lines = λ f e. cc }
  IsFirstPresent-first_present (name ∷ names) =
      first_by name names (file_in (bank (key.File name))) (sym (file_in-bank name)) (IsFirstPresent-first_present names)

  pub IsFirstPresent-file_of : (from : FileName) (o : Operand) → IsFirstPresent files (candidates directories from o.name o.is_quoted) (outcome (file_of from o) bank)
  IsFirstPresent-file_of from o =
      let names = candidates directories from o.name o.is_quoted in
      let is : outcome (file_of from o) bank ≡ outcome (first_present names) bank =
      outcome-file_of bank from o
      ∙ ap (λ (directories : List (List ℕ)). outcome (first_present (candidates directories from o.name o.is_quoted)) bank) (ap directories_in answers.listed) in
      subst (IsFirstPresent files names) (sym is) (IsFirstPresent-first_present names)

  -- a candidate is asked, and those after it where it isn't present
  asked_by : (name : List ℕ) (names : List (List ℕ)) (lines : Option (List (List ℕ))) → finite.get files name ≡ lines
      → files_asked (asked (first_present names) bank) ≡ up_to_present files names
      → files_asked (asked (elim lines [ None ↦ first_present names | Some ls ↦ Done (Some (record { name = name; lines = ls })) ]) bank)
      ≡ cond (is_some lines) [] (up_to_present files names)
  asked_by name names None is rest = rest
  asked_by name names (Some ls) is rest = refl

  split-present : (name : List ℕ) (names : List (List ℕ)) (b : Bool) → name ∷ cond b [] (up_to_present files names) ≡ cond b (name ∷ []) (name ∷ up_to_present files names)
  split-present name names true = refl
  split-present name names false = refl

  asked-first_present : (names : List (List ℕ)) → files_asked (asked (first_present names) bank) ≡ up_to_present files names
  unfolding first_present
  asked-first_present [] = refl
  asked-first_present (name ∷ names) =
      ap (λ (ns : List (List ℕ)). name ∷ ns) (asked_by name names (file_in (bank (key.File name))) (sym (file_in-bank name)) (asked-first_present names))
      ∙ ap (λ (ls : Option (List (List ℕ))). name ∷ cond (is_some ls) [] (up_to_present files names)) (file_in-bank name)
      ∙ split-present name names (is_some (finite.get files name))

  asked-along : (name : List ℕ) → files_asked (asked (present_along name) bank) ≡ up_to_present files (along directories name)
  unfolding present_along
  asked-along name =
      ap (λ (ds : List (List ℕ)). files_asked (asked (first_present (along ds name)) bank)) (ap directories_in answers.listed)
      ∙ asked-first_present (along directories name)

  asked_beside_by : (name spelled : List ℕ) (lines : Option (List (List ℕ)))
      → files_asked (asked (and_then (elim lines [ None ↦ first_present [] | Some ls ↦ Done (Some (record { name = name; lines = ls })) ]) (or_along spelled)) bank)
      ≡ cond (is_some lines) [] (up_to_present files (along directories spelled))
  unfolding first_present
  asked_beside_by name spelled None = asked-along spelled
  asked_beside_by name spelled (Some ls) = refl

  asked-beside : (name : Option (List ℕ)) (spelled : List ℕ)
      → files_asked (asked (and_then (one name) (or_along spelled)) bank) ≡ up_to_present files (cons_option name (along directories spelled))
  unfolding first_present
  asked-beside None spelled = asked-along spelled
  asked-beside (Some name) spelled =
      ap (λ (ns : List (List ℕ)). name ∷ ns) (asked_beside_by name spelled (file_in (bank (key.File name))))
      ∙ ap (λ (ls : Option (List (List ℕ))). name ∷ cond (is_some ls) [] (up_to_present files (along directories spelled))) (file_in-bank name)
      ∙ split-present name (along directories spelled) (is_some (finite.get files name))

  asked-chosen : (from : FileName) (name : List ℕ) (rooted quoted : Bool)
      → let beside = joined_path (directory_of from) name in
      files_asked (asked (if rooted then one beside else (if quoted then and_then (one beside) (or_along name) else present_along name)) bank)
      ≡ up_to_present files (if rooted then option_to_list beside else (if quoted then along (directory_of from ∷ directories) name else along directories name))
  asked-chosen from name true quoted = asked-first_present (option_to_list (joined_path (directory_of from) name))
  asked-chosen from name false true = asked-beside (joined_path (directory_of from) name) name
  asked-chosen from name false false = asked-along name

  pub asked-file_of : (from : FileName) (o : Operand)
      → files_asked (asked (file_of from o) bank) ≡ up_to_present files (candidates directories from o.name o.is_quoted)
  unfolding file_of candidates
  asked-file_of from o = asked-chosen from o.name (is_rooted o.name) o.is_quoted
