-- The line of a type that is sent the same.
use Rattle.std.proofs.Common.{◌≡◌, ◌∙◌, ◌∷◌, [], Bool, List, ap, arith, false, if◌then◌else◌, length, nat_eq, refl, sym, true}
use Rattle.std.specs.Prelude.{◌↔◌, IsTrue}
use Rattle.std.proofs.lemmas.Bool.Decides.{nat_tests}
use Rattle.idl_changes.specs.Differences.{type_line}
use Rattle.idl_changes.specs.Partners.{is_sent}
use Rattle.idl_changes.specs.Plain.{plain}
use Rattle.idl_changes.specs.declared.rows.Line.TheVariants as line
use Rattle.idl_entity.specs.declared.data_type.Layer.{Layer}
use Rattle.idl_repo.specs.declared.details.row_tree.RowTree.{RowTree}
use Rattle.idl_repo.specs.declared.details.type_tree.LayeredType.{LayeredType}

no-layers : (layers : List Layer) (b : Bool) → (IsTrue b ↔ (layers ≡ [])) → nat_eq (length layers) 0 ≡ b
no-layers [] true is = grind (arith, nat_tests)
no-layers [] false is = let never = is.1 refl in cc
no-layers (x ∷ xs) true is = let never = is.0 refl in cc
no-layers (x ∷ xs) false is = grind (arith, nat_tests)

pub layered-line : (old new : List RowTree) (t u : LayeredType) → is_sent old new t u ≡ true → (layers : List Layer) (b : Bool) → (IsTrue b ↔ (layers ≡ [])) → layers ≡ (plain old t).layers
    → type_line old new t u ≡ (if b then line.AliasedType else line.LayeredType)
unfolding type_line
layered-line old new t u sent layers b is are =
    ap (λ (s : Bool). if s then (if nat_eq (length (plain old t).layers) 0 then line.AliasedType else line.LayeredType) else line.Type) sent
    ∙ ap (λ (n : Bool). if n then line.AliasedType else line.LayeredType) (ap (λ (ls : List Layer). nat_eq (length ls) 0) (sym are) ∙ no-layers layers b is)
