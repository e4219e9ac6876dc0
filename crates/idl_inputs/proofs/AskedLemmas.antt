-- The files that a root asked for: those of its log, entry by entry.
use Rattle.std.proofs.Common.{◌≡◌, ℕ, ◌+◌, ◌<◌, ◌≤◌, List, [], ◌++◌, Option, None, length, take, flat_map, append-nil, ap, sym, ◌∙◌}
use Rattle.std.proofs.lemmas.Grind.{flat_map-append}
use Rattle.std.proofs.lemmas.List.{take_all, take_more}
use Rattle.std.proofs.lemmas.Option.{slice_get-get_or}
use Rattle.std.specs.List.{slice_get}
use Rattle.std.specs.Option.{option_to_list}
use Rattle.idl_event.specs.declared.asked.key.RootAnswer.{RootAnswer}
use Rattle.idl_event.specs.declared.asked.key.RootKey.{RootKey}
use Rattle.idl_event.specs.declared.asked.key.RootKey.TheVariants as key
use Rattle.idl_inputs.specs.Asked.{asked_file, asked_files}

module _ (log : List (RootKey × Option RootAnswer)) (i : ℕ) where
  -- the files, with one entry more
  pub asked-more : (names found : List (List ℕ)) → i < length log → names ≡ flat_map asked_file (take i log) → found ≡ flat_map asked_file (option_to_list (slice_get log i))
      → names ++ found ≡ flat_map asked_file (take (i + 1) log)
  asked-more names found below before here =
      let e : RootKey × Option RootAnswer = (key.Search, None) in
      ap (λ ns. ns ++ found) before
      ∙ ap (λ ns. flat_map asked_file (take i log) ++ ns) (here ∙ ap (λ o. flat_map asked_file (option_to_list o)) (slice_get-get_or log i e below))
      ∙ sym (ap (flat_map asked_file) (take_more log i e below) ∙ flat_map-append asked_file (take i log) _)

  -- with an entry that is of none
  pub asked-no_more : (names : List (List ℕ)) → i < length log → names ≡ flat_map asked_file (take i log) → [] ≡ flat_map asked_file (option_to_list (slice_get log i))
      → names ≡ flat_map asked_file (take (i + 1) log)
  asked-no_more names below before here = sym (append-nil names) ∙ asked-more names [] below before here

  -- with all entries
  pub asked-all : (names : List (List ℕ)) → length log ≤ i → names ≡ flat_map asked_file (take i log) → names ≡ asked_files log
  unfolding asked_files
  asked-all names past before = before ∙ ap (flat_map asked_file) (take_all i log past)
