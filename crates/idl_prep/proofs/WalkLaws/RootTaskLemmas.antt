-- The run of a root, and the files that it asked for and that aren't there.
use Rattle.std.proofs.Common.{◌≡◌, ℕ, ◌+◌, ◌-◌, ◌<◌, ◌≤◌, List, [], ◌++◌, Option, None, Some, length, take, flat_map, append-nil, ap, sym, ◌∙◌}
use Rattle.std.proofs.lemmas.Grind.{flat_map-append}
use Rattle.std.proofs.lemmas.List.{take_all, take_more}
use Rattle.std.proofs.lemmas.Option.{slice_get-get_or}
use Rattle.std.specs.List.{slice_get}
use Rattle.std.specs.Option.{option_to_list}
use Rattle.idl_memo.specs.Progress.{after_key, kept_within}
use Rattle.idl_memo.proofs.ProgressLaws.{run-kept_within}
use Rattle.idl_memo.specs.Query.{Done, run}
use Rattle.idl_memo.proofs.QueryLaws.{run-and_then}
use Rattle.idl_event.specs.Items.{beginning, rules, whole_allowance}
use Rattle.idl_event.specs.Key.{key_eq}
use Rattle.idl_event.specs.Expanding.{Reached, reached}
use Rattle.idl_fault.specs.declared.file_name.FileName.{FileName}
use Rattle.idl_fault.specs.declared.code.Code.TheVariants.{NotFound}
use Rattle.idl_event.specs.declared.told.event.Event.TheVariants.{Fault}
use Rattle.idl_event.specs.declared.told.event.Item.TheVariants.{Kept}
use Rattle.idl_event.specs.declared.asked.key.RootAnswer.{RootAnswer}
use Rattle.idl_event.specs.declared.asked.key.RootKey.{RootKey}
use Rattle.idl_event.specs.declared.asked.key.RootKey.TheVariants as key
use Rattle.idl_prep.specs.Include.{file_in}
use Rattle.idl_prep.specs.Root.{absent_file, absent_files, enter, expansion, root, root_lines, walk_file}
use Rattle.idl_prep.specs.State.{Said, Way, ended, nothing_said, onward, telling}
use Rattle.idl_prep.specs.Limits.{depth_at_most}

module _ (bank : RootKey → Option RootAnswer) (name : FileName) where
  -- a root that has asked for its file
  abbrev pub has_asked : Way → Way
  has_asked old = record old { progress = after_key key_eq bank (key.File name) old.progress }

  -- the file is there, and its lines are walked
  pub reached-root : (lines : List (List ℕ)) (old mid new : Way) → old.state ≡ nothing_said → mid ≡ has_asked old → file_in (bank (key.File name)) ≡ Some lines
      → ended new ≡ onward bank (walk_file (enter (depth_at_most - 1)) name lines) mid → new.progress ≡ reached bank (root name) old.progress
  unfolding root
  reached-root lines old mid new nothing asked there came =
      let query = walk_file (enter (depth_at_most - 1)) name lines in
      ap (λ r. r.0) came
      ∙ ap (λ (way : Way). reached bank (query way.state) way.progress) asked
      ∙ ap (λ (s : Said). reached bank (query s) (has_asked old).progress) nothing
      ∙ ap (λ found. reached bank (root_lines name found) (has_asked old).progress) (sym there)

  -- the file isn't there
  pub reached-no_root : (old mid new : Way) → mid ≡ has_asked old → file_in (bank (key.File name)) ≡ None
      → new ≡ telling (Kept (Fault (record { file = name; line = 0 }) NotFound (Some name))) mid → new.progress ≡ reached bank (root name) old.progress
  unfolding root
  reached-no_root old mid new asked absent tells =
      let fault = Kept (Fault (record { file = name; line = 0 }) NotFound (Some name)) in
      ap (λ (way : Way). way.progress) (tells ∙ ap (telling fault) asked)
      ∙ ap (λ found. reached bank (root_lines name found) (has_asked old).progress) (sym absent)

  -- what was kept and logged is what the expansion gives
  pub run-expansion : (p : Reached) (log : List (RootKey × Option RootAnswer)) → p ≡ reached bank (root name) (beginning log) → (p.kept, p.log) ≡ run key_eq (expansion name) bank log
  unfolding expansion
  run-expansion p log came =
      let query = kept_within (Unit {0}) rules [] whole_allowance (root name) in
      ap (λ (p : Reached). (p.kept, p.log)) came
      ∙ ap (λ given. (given.0.0, given.1)) (sym (run-kept_within rules key_eq bank (Unit {0}) [] (root name) whole_allowance log))
      ∙ sym (run-and_then key_eq query (λ given. Done given.0) bank log)

module _ (log : List (RootKey × Option RootAnswer)) (i : ℕ) where
  -- the files that aren't there, with one entry more
  pub absent-more : (names found : List (List ℕ)) → i < length log → names ≡ flat_map absent_file (take i log) → found ≡ flat_map absent_file (option_to_list (slice_get log i))
      → names ++ found ≡ flat_map absent_file (take (i + 1) log)
  absent-more names found below before here =
      let e : RootKey × Option RootAnswer = (key.Search, None) in
      ap (λ ns. ns ++ found) before
      ∙ ap (λ ns. flat_map absent_file (take i log) ++ ns) (here ∙ ap (λ o. flat_map absent_file (option_to_list o)) (slice_get-get_or log i e below))
      ∙ sym (ap (flat_map absent_file) (take_more log i e below) ∙ flat_map-append absent_file (take i log) _)

  -- with an entry that is of none
  pub absent-no_more : (names : List (List ℕ)) → i < length log → names ≡ flat_map absent_file (take i log) → [] ≡ flat_map absent_file (option_to_list (slice_get log i))
      → names ≡ flat_map absent_file (take (i + 1) log)
  absent-no_more names below before here = sym (append-nil names) ∙ absent-more names [] below before here

  -- with all entries
  pub absent-all : (names : List (List ℕ)) → length log ≤ i → names ≡ flat_map absent_file (take i log) → names ≡ absent_files log
  unfolding absent_files
  absent-all names past before = before ∙ ap (flat_map absent_file) (take_all i log past)
