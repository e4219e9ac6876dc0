-- Lines about trouble, one after another.
use Rattle.std.proofs.Common.{◌≡◌, ◌∙◌, ◌+◌, ◌<◌, ◌++◌, ◌∷◌, [], ℕ, List, ap, append-nil, append_assoc, get_or, length, refl, subst, sym, take}
use Rattle.std.proofs.lemmas.List.{take_more}
use Rattle.std.specs.List.{AllZip}
use Rattle.idl_tool.specs.Messages.{AreLines, IsBehind}
use Rattle.idl_tool.proofs.JsonLemmas.{joined-next, zip-push}

-- none
pub no-lines : {X : Type 0} (sort : X → List ℕ → Type 0) (text : List ℕ) → IsBehind (AreLines sort []) text text
no-lines sort text = ([], ([], tt, refl), sym (append-nil text))

-- one more
pub lines-next : {X : Type 0} (sort : X → List ℕ → Type 0) (xs : List X) (i : ℕ) (d : X) (line before mid after : List ℕ) → i < length xs
    → IsBehind (AreLines sort (take i xs)) before mid → sort (get_or xs i d) line → after ≡ mid ++ line → IsBehind (AreLines sort (take (i + 1) xs)) before after
lines-next {X} sort xs i d line before mid after within are is more =
    let lines = are.1.0 in (
      are.0 ++ line,
      (
        lines ++ line ∷ [],
        subst (λ (ys : List X). AllZip sort ys (lines ++ line ∷ [])) (sym (take_more xs i d within)) (zip-push sort (take i xs) lines (get_or xs i d) line are.1.1 is),
        joined-next lines line are.0 (are.0 ++ line) are.1.2 refl,
      ),
      more ∙ ap (λ (t : List ℕ). t ++ line) are.2 ∙ append_assoc before are.0 line,
    )
