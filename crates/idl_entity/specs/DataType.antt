-- Types: when two are one, what constants are of them, and what they are another name for.
use Rattle.std.specs.Prelude.{◌≡◌, ℕ, Bool, true, List, [], ◌∷◌, ◌++◌, Option, None, Some, ◌&&◌}
use Rattle.std.specs.Cmp.Lexicographic.{pointwise}
use Rattle.std.proofs.Common.{ap}
use Rattle.idl_base.specs.Exact.{both, same_list, same_number}
use Rattle.idl_entity.specs.Path.{same_path}
use Rattle.idl_entity.specs.Unvalued.{same_unvalued}
use Rattle.idl_entity.specs.contracts.data_type.ElementPartialEq.TheImpl.{ghosts as element_ghosts}
use Rattle.idl_entity.specs.contracts.data_type.LayerPartialEq.TheImpl.{ghosts as layer_ghosts}
use Rattle.idl_entity.specs.declared.data_type.DataType.{DataType}
use Rattle.idl_entity.specs.declared.data_type.Element.{Element}
use Rattle.idl_entity.specs.declared.data_type.Element.TheVariants.{Constants, Named, Unvalued as Other}
use Rattle.idl_entity.specs.declared.data_type.Layer.{Layer}
use Rattle.idl_entity.specs.declared.data_type.Layer.TheVariants.{Sequence, Array}
use Rattle.idl_value.specs.Exact.{same_target}
use Rattle.idl_value.specs.declared.constant_type.ConstantType.{ConstantType}

-- a type without sequences and arrays
abbrev pub plain_type : Element → DataType
plain_type element = record { element = element; layers = [] }

-- with one layer more around it
abbrev pub with_layer : Layer → DataType → DataType
with_layer layer t = record t { layers = t.layers ++ layer ∷ [] }

-- arrays of these lengths, the outermost first
abbrev pub arrays_of : List ℕ → List Layer
arrays_of [] = []
arrays_of (length ∷ lengths) = arrays_of lengths ++ Array length ∷ []

-- with arrays of these lengths around it
abbrev pub with_arrays : List ℕ → DataType → DataType
with_arrays lengths t = record t { layers = t.layers ++ arrays_of lengths }

-- the type that its constants have, if it is one of keywords that has any
abbrev pub constants_by : Element → List Layer → Option ConstantType
constants_by (Constants t) [] = Some t
constants_by element layers = None

abbrev pub constants_in : DataType → Option ConstantType
constants_in t = constants_by t.element t.layers

-- the path of what it is another name for, if it is one
abbrev pub named_by : Element → List Layer → Option (List (List ℕ))
named_by (Named path) [] = Some path
named_by element layers = None

abbrev pub named_in : DataType → Option (List (List ℕ))
named_in t = named_by t.element t.layers

-- whether two elements are one
abbrev pub element_eq : Element → Element → Bool
element_eq = element_ghosts.eq

pub same_element : (e f : Element) → element_eq e f ≡ true → e ≡ f
same_element (Constants t) (Constants u) h = ap Constants (same_target t u h)
same_element (Named p) (Named q) h = ap Named (same_path p q h)
same_element (Other x) (Other y) h = ap Other (same_unvalued x y h)
same_element e f h = cc

-- whether two layers are one
abbrev pub layer_eq : Layer → Layer → Bool
layer_eq = layer_ghosts.eq

pub same_layer : (k l : Layer) → layer_eq k l ≡ true → k ≡ l
same_layer (Sequence m) (Sequence n) h = ap Sequence (same_number m n h)
same_layer (Array m) (Array n) h = ap Array (same_number m n h)
same_layer k l h = cc

-- whether two types are one
abbrev pub data_type_eq : DataType → DataType → Bool
data_type_eq t u = element_eq t.element u.element && pointwise layer_eq t.layers u.layers

pub same_data_type : (t u : DataType) → data_type_eq t u ≡ true → t ≡ u
same_data_type t u h =
    let a = both _ _ h in
    let element = same_element t.element u.element a.0 in
    let layers = same_list layer_eq same_layer t.layers u.layers a.1 in
    λ i. record { element = element i; layers = layers i }
