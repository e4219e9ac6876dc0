-- When two references are one, and two types.
use Rattle.std.specs.Prelude.{◌≡◌, Bool, true, ◌&&◌, refl}
use Rattle.std.specs.Cmp.Lexicographic.{bytes_decides, pointwise}
use Rattle.std.specs.Str.{bytes_eq}
use Rattle.std.proofs.Common.{ap}
use Rattle.idl_base.specs.Exact.{both, same_list}
use Rattle.idl_repo.specs.contracts.details.type_tree.ElementTreePartialEq.TheImpl.{ghosts as element_ghosts}
use Rattle.idl_repo.specs.declared.details.reference.Reference.{Reference}
use Rattle.idl_repo.specs.declared.details.type_tree.ElementTree.{ElementTree}
use Rattle.idl_repo.specs.declared.details.type_tree.ElementTree.TheVariants as tree
use Rattle.idl_repo.specs.declared.details.type_tree.LayeredType.{LayeredType}
use Rattle.idl_entity.specs.DataType.{layer_eq, same_layer}
use Rattle.idl_entity.specs.Unvalued.{same_unvalued}
use Rattle.idl_value.specs.Exact.{same_target}

-- whether two references are one: their paths as well as their ids
abbrev pub reference_eq : Reference → Reference → Bool
reference_eq r s = bytes_eq r.id s.id && bytes_eq r.path s.path

pub same_reference : (r s : Reference) → reference_eq r s ≡ true → r ≡ s
same_reference r s h =
    let a = both _ _ h in
    let id = (bytes_decides r.id s.id).0 a.0 in
    let path = (bytes_decides r.path s.path).0 a.1 in
    λ i. record { id = id i; path = path i }

-- whether two elements are one
abbrev pub element_tree_eq : ElementTree → ElementTree → Bool
element_tree_eq = element_ghosts.eq

pub same_element_tree : (e f : ElementTree) → element_tree_eq e f ≡ true → e ≡ f
same_element_tree tree.Void tree.Void h = refl
same_element_tree (tree.Constants t) (tree.Constants u) h = ap tree.Constants (same_target t u h)
same_element_tree (tree.Unvalued x) (tree.Unvalued y) h = ap tree.Unvalued (same_unvalued x y h)
same_element_tree (tree.Named r) (tree.Named s) h = ap tree.Named (same_reference r s h)
same_element_tree e f h = cc

-- whether two types are one
abbrev pub type_tree_eq : LayeredType → LayeredType → Bool
type_tree_eq t u = element_tree_eq t.element u.element && pointwise layer_eq t.layers u.layers

pub same_type_tree : (t u : LayeredType) → type_tree_eq t u ≡ true → t ≡ u
same_type_tree t u h =
    let a = both _ _ h in
    let element = same_element_tree t.element u.element a.0 in
    let layers = same_list layer_eq same_layer t.layers u.layers a.1 in
    λ i. record { element = element i; layers = layers i }
