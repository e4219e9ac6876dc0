-- What is told of a label, by the case that it stands at.
use Rattle.std.proofs.Common.{◌≡◌, ◌∙◌, [], ℕ, List, Option, Some, ap, sym}
use Rattle.std.specs.Option.{option_map_or}
use Rattle.idl_changes.specs.Differences.{label_differences, new_label}
use Rattle.idl_changes.specs.Plain.{label_of}
use Rattle.idl_changes.specs.declared.keys.NumberedText.{NumberedText}
use Rattle.idl_repo.specs.declared.details.row_tree.RowTree.{RowTree}
use Rattle.idl_repo.specs.declared.details.type_code_tree.CaseTree.{CaseTree}

module _ (old new : List RowTree) (u v : List (List ℕ) × List CaseTree) (label : Option (List ℕ)) (text : List ℕ) (as_sent : NumberedText) where
  pub old-label : label ≡ Some text → as_sent ≡ label_of u.0 text
      → label_differences old new u v text as_sent ≡ option_map_or (λ (t : List ℕ). label_differences old new u v t (label_of u.0 t)) label []
  old-label is of =
      ap (λ (l : NumberedText). label_differences old new u v text l) of
      ∙ sym (ap (λ (o : Option (List ℕ)). option_map_or (λ (t : List ℕ). label_differences old new u v t (label_of u.0 t)) o []) is)

  pub new-label : label ≡ Some text → as_sent ≡ label_of v.0 text
      → new_label old new u v text as_sent ≡ option_map_or (λ (t : List ℕ). new_label old new u v t (label_of v.0 t)) label []
  new-label is of =
      ap (λ (l : NumberedText). new_label old new u v text l) of
      ∙ sym (ap (λ (o : Option (List ℕ)). option_map_or (λ (t : List ℕ). new_label old new u v t (label_of v.0 t)) o []) is)
