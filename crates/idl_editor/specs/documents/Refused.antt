-- What an editor wants and isn't done.
use Rattle.std.specs.Prelude.{◌≡◌, ◌++◌, ◌∷◌, [], ℕ, List}
use Rattle.idl_editor.specs.declared.documents.refused.RefusedEdit.{RefusedEdit}
use Rattle.idl_editor.specs.declared.documents.refused.RefusedReason.{RefusedReason}

-- of this subject one thing more isn't done, for this reason
abbrev pub IsAdded : List ℕ → RefusedReason → List RefusedEdit → List RefusedEdit → Type 0
IsAdded subject reason old new =
    (one : RefusedEdit) × (new ≡ old ++ one ∷ []) × (one.subject.items ≡ subject)
    × (one.reason ≡ reason)
