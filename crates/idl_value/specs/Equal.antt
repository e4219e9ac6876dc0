-- When two values, or two targets, are one.
use Rattle.std.specs.Prelude.{ℕ, List, Bool, nat_eq}
use Rattle.std.specs.Cmp.Lexicographic.{pointwise}
use Rattle.std.specs.Str.{bytes_eq}
use Rattle.idl_value.specs.contracts.constant_type.ConstantTypePartialEq.TheImpl.{ghosts as target_ghosts}
use Rattle.idl_value.specs.contracts.value.ValuePartialEq.TheImpl.{ghosts as value_ghosts}
use Rattle.idl_value.specs.declared.constant_type.ConstantType.{ConstantType}
use Rattle.idl_value.specs.declared.value.Value.{Value}

-- whether two paths are one
abbrev pub path_eq : List (List ℕ) → List (List ℕ) → Bool
path_eq = pointwise bytes_eq

-- whether two texts are one
abbrev pub text_eq : List ℕ → List ℕ → Bool
text_eq = pointwise nat_eq

-- whether two values are one
abbrev pub value_eq : Value → Value → Bool
value_eq = value_ghosts.eq

-- whether two targets are one
abbrev pub target_eq : ConstantType → ConstantType → Bool
target_eq = target_ghosts.eq
