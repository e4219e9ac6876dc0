-- The first file along a search list, as a loop finds it, and the one that an operand finds.
use Rattle.std.proofs.Common.{◌≡◌, ◌∙◌, ◌+◌, ℕ, zero, suc, Bool, true, false, cond, List, [], ◌∷◌, Option, None, Some, ap, arith, drop, is_some, refl, slice_get, sym}
use Rattle.std.specs.Prelude.{if◌then◌else◌}
use Rattle.std.specs.FinMap as finite
use Rattle.std.specs.List.{cons_option}
use Rattle.std.specs.Option.{option_to_list}
use Rattle.idl_source.specs.names.Candidates.{along, candidates, found}
use Rattle.idl_source.specs.names.Directory.{directory_of}
use Rattle.idl_source.specs.names.Path.{is_rooted, joined_path}
use Rattle.idl_source.specs.texts.Texts.{Texts}

module _ (files : Texts) (spelled : List ℕ) where
  by-here : (o : Option (List ℕ)) (names : List (List ℕ)) (name : List ℕ) → found files (option_to_list o) ≡ Some name → found files (cons_option o names) ≡ Some name
  by-here None names name is = let no : None ≡ Some name = is in absurd (cc)
  by-here (Some one) names name is = by (is_some (finite.get files one)) is
    where
      by : (b : Bool) → cond b (Some one) None ≡ Some name → cond b (Some one) (found files names) ≡ Some name
      by true is = is
      by false is = let no : None ≡ Some name = is in absurd (cc)

  by-past : (o : Option (List ℕ)) (names : List (List ℕ)) → found files (option_to_list o) ≡ None → found files (cons_option o names) ≡ found files names
  by-past None names is = refl
  by-past (Some one) names is = by (is_some (finite.get files one)) is
    where
      by : (b : Bool) → cond b (Some one) None ≡ None → cond b (Some one) (found files names) ≡ found files names
      by true is = let no : Some one ≡ None = is in absurd (cc)
      by false is = refl

  along-suc : (search : List (List ℕ)) (at : ℕ) (directory : List ℕ) → slice_get search at ≡ Some directory
      → along (drop at search) spelled ≡ cons_option (joined_path directory spelled) (along (drop (suc at) search) spelled)
  along-suc [] at directory is = let no : None ≡ Some directory = is in absurd (cc)
  along-suc (d ∷ ds) zero directory is = ap (λ o. elim o [ None ↦ along ds spelled | Some e ↦ cons_option (joined_path e spelled) (along ds spelled) ]) is
  along-suc (d ∷ ds) (suc at) directory is = along-suc ds at directory is

  -- the one in the next directory
  pub found-here : (search : List (List ℕ)) (at : ℕ) (directory name : List ℕ) → slice_get search at ≡ Some directory
      → found files (option_to_list (joined_path directory spelled)) ≡ Some name → found files (along (drop at search) spelled) ≡ Some name
  found-here search at directory name is here =
      ap (found files) (along-suc search at directory is) ∙ by-here (joined_path directory spelled) (along (drop (suc at) search) spelled) name here

  -- none is there
  pub found-past : (search : List (List ℕ)) (at : ℕ) (directory : List ℕ) → slice_get search at ≡ Some directory
      → found files (option_to_list (joined_path directory spelled)) ≡ None → found files (along (drop (at + 1) search) spelled) ≡ found files (along (drop at search) spelled)
  found-past search at directory is past =
      let on : at + 1 ≡ suc at = omega arith in
      ap (λ n. found files (along (drop n search) spelled)) on
      ∙ sym (ap (found files) (along-suc search at directory is) ∙ by-past (joined_path directory spelled) (along (drop (suc at) search) spelled) past)

  -- no directory is left
  pub found-end : (search : List (List ℕ)) (at : ℕ) → slice_get search at ≡ None → found files (along (drop at search) spelled) ≡ None
  found-end [] zero is = refl
  found-end [] (suc at) is = refl
  found-end (d ∷ ds) zero is = let no : Some d ≡ None = is in absurd (cc)
  found-end (d ∷ ds) (suc at) is = found-end ds at is

-- ---- the names of an operand

module _ (files : Texts) (search : List (List ℕ)) (from spelled : List ℕ) (quoted : Bool) where
  named : (rooted q : Bool) → is_rooted spelled ≡ rooted → quoted ≡ q
      → candidates search from spelled quoted
      ≡ (if rooted then option_to_list (joined_path (directory_of from) spelled) else (if q then along (directory_of from ∷ search) spelled else along search spelled))
  unfolding candidates
  named rooted q is quotes = λ i. if is i then option_to_list (joined_path (directory_of from) spelled) else (if quotes i then along (directory_of from ∷ search) spelled else along search spelled)

  -- it stands for itself
  pub found-rooted : is_rooted spelled ≡ true → found files (option_to_list (joined_path (directory_of from) spelled)) ≡ found files (candidates search from spelled quoted)
  found-rooted rooted = sym (ap (found files) (named true quoted rooted refl))

  -- the one beside the including file
  pub found-beside : is_rooted spelled ≡ false → quoted ≡ true → (name : List ℕ) → found files (option_to_list (joined_path (directory_of from) spelled)) ≡ Some name
      → Some name ≡ found files (candidates search from spelled quoted)
  found-beside plain quotes name there = sym (ap (found files) (named false true plain quotes) ∙ by-here files spelled (joined_path (directory_of from) spelled) (along search spelled) name there)

  -- none is there
  pub found-not_beside : is_rooted spelled ≡ false → quoted ≡ true → found files (option_to_list (joined_path (directory_of from) spelled)) ≡ None
      → found files (along search spelled) ≡ found files (candidates search from spelled quoted)
  found-not_beside plain quotes none = sym (ap (found files) (named false true plain quotes) ∙ by-past files spelled (joined_path (directory_of from) spelled) (along search spelled) none)

  -- along the search list alone
  pub found-angled : is_rooted spelled ≡ false → quoted ≡ false → found files (along search spelled) ≡ found files (candidates search from spelled quoted)
  found-angled plain angled = sym (ap (found files) (named false false plain angled))
