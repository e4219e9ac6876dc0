-- The labels of a union.
use Rattle.std.specs.Prelude.{ℕ, ℤ, pos, Bool, true, false, ◌&&◌, length, List, [], ◌∷◌, ◌++◌, Option, None, Some, if◌then◌else◌}
use Rattle.std.specs.List.{list_any}
use Rattle.std.specs.Ordering.{int_eq}
use Rattle.idl_value.specs.Equal.{value_eq}
use Rattle.idl_value.specs.ConstantType.{value_count}
use Rattle.idl_value.specs.declared.constant_type.ConstantType.{ConstantType}
use Rattle.idl_value.specs.declared.value.Value.{Value}

pub record Labels : Type 0 where
  -- the type of the discriminator, if it may be one; of an enum, how many enumerators it has
  pub target : Option ConstantType
  pub enumerators : ℕ
  -- the values so far, each once
  pub values : List Value
  pub has_default : Bool

-- before the first label
abbrev pub no_labels : Option ConstantType → ℕ → Labels
no_labels target enumerators = record {
  target = target;
  enumerators = enumerators;
  values = [];
  has_default = false;
}

-- a value is labelled already
abbrev pub is_among : List Value → Value → Bool
is_among values v = list_any (value_eq v) values

abbrev pub is_labelled : Labels → Value → Bool
is_labelled labels v = is_among labels.values v

-- with a label more
abbrev pub with_one : List Value → Value → List Value
with_one values v = if is_among values v then values else values ++ v ∷ []

abbrev pub with_label : Labels → Value → Labels
with_label labels v = record labels { values = with_one labels.values v }

abbrev pub with_default : Labels → Labels
with_default labels = record labels { has_default = true }

-- how many values there are to be labelled
abbrev pub count_of : Labels → Option ℤ
count_of labels =
    elim labels.target [ None ↦ None | Some t ↦ value_count t labels.enumerators ]

-- there is a `default`, though all values are labelled
abbrev pub is_idle : Labels → Bool
is_idle labels =
    elim (count_of labels) [
      | None ↦ false
      | Some n ↦ labels.has_default && int_eq (pos (length labels.values)) n
    ]
