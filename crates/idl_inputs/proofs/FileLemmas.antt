-- Edits of files: which file they change.
use Rattle.std.proofs.Common.{◌≡◌, ℕ, Bool, true, false, cond, List, Option, None, Some, is_none, Ok, Err, sym, ap, ◌∙◌}
use Rattle.std.proofs.lemmas.Map.Text.{is_eq-slice_cmp}
use Rattle.std.specs.Cmp.Lexicographic.{nat_list_cmp_total, nat_list_eq_equiv}
use Rattle.std.specs.FinMap as finite
use Rattle.std.specs.FinMap.{get-insert, get-remove}
use Rattle.idl_source.specs.names.Name.{is_name}
use Rattle.idl_source.specs.texts.Texts.{Texts, after_put, after_splice, after_splice_of, after_remove, is_over, is_inside, is_splice_over, spliced}
use Rattle.idl_source.specs.declared.refusal.Refusal.TheVariants.{BadName, NoSuchFile, OutsideFile, OverLimit}
use Rattle.idl_inputs.specs.Bank.{IsSameBeside}

inserted : (files after : Texts) (name : List ℕ) (lines : List (List ℕ)) → finite.insert files name lines ≡ after → IsSameBeside name files after
inserted files after name lines is other beside =
    ap (λ m. finite.get m other) (sym is)
    ∙ get-insert nat_list_cmp_total files name lines other
    ∙ ap (λ b. cond b (Some lines) (finite.get files other)) (is_eq-slice_cmp other name ∙ nat_list_eq_equiv.symm other name ∙ beside)

removed : (files after : Texts) (name : List ℕ) → finite.remove files name ≡ after → IsSameBeside name files after
removed files after name is other beside =
    ap (λ m. finite.get m other) (sym is)
    ∙ get-remove nat_list_cmp_total files name other
    ∙ ap (λ b. cond b None (finite.get files other)) (is_eq-slice_cmp other name ∙ nat_list_eq_equiv.symm other name ∙ beside)

-- a put changes its file alone
pub put-beside : (files after : Texts) (name : List ℕ) (lines : List (List ℕ)) → after_put files name lines ≡ Ok after → IsSameBeside name files after
put-beside files after name lines h = by (is_name name) (is_over files name lines) h
  where
    by : (a b : Bool) → cond a (cond b (Err OverLimit) (Ok (finite.insert files name lines))) (Err BadName) ≡ Ok after → IsSameBeside name files after
    by true false e = inserted files after name lines (cc)
    by true true e = absurd (cc)
    by false b e = absurd (cc)

splice_of-beside : (files after : Texts) (name : List ℕ) (old : Option (List (List ℕ))) (from del : ℕ) (lines : List (List ℕ))
    → after_splice_of files name old from del lines ≡ Ok after → IsSameBeside name files after
splice_of-beside files after name None from del lines h = absurd (cc)
splice_of-beside files after name (Some old) from del lines h = by (is_inside old from del) (is_splice_over old from del lines) h
  where
    by : (a b : Bool) → cond a (cond b (Err OverLimit) (Ok (finite.insert files name (spliced old from del lines)))) (Err OutsideFile) ≡ Ok after → IsSameBeside name files after
    by true false e = inserted files after name (spliced old from del lines) (cc)
    by true true e = absurd (cc)
    by false b e = absurd (cc)

-- and so does a splice
pub splice-beside : (files after : Texts) (name : List ℕ) (from del : ℕ) (lines : List (List ℕ)) → after_splice files name from del lines ≡ Ok after → IsSameBeside name files after
splice-beside files after name from del lines h = by (is_name name) h
  where
    by : (a : Bool) → cond a (after_splice_of files name (finite.get files name) from del lines) (Err BadName) ≡ Ok after → IsSameBeside name files after
    by true e = splice_of-beside files after name (finite.get files name) from del lines e
    by false e = absurd (cc)

-- and a removal
pub remove-beside : (files after : Texts) (name : List ℕ) → after_remove files name ≡ Ok after → IsSameBeside name files after
remove-beside files after name h = by (is_name name) (is_none (finite.get files name)) h
  where
    by : (a b : Bool) → cond a (cond b (Err NoSuchFile) (Ok (finite.remove files name))) (Err BadName) ≡ Ok after → IsSameBeside name files after
    by true false e = removed files after name (cc)
    by true true e = absurd (cc)
    by false b e = absurd (cc)
