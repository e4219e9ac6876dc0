-- What a key is made of, by which keys of one digest come in order.
use Rattle.std.specs.Prelude.{ℕ, List, [], ◌∷◌, Option, None, Some}
use Rattle.std.specs.Cmp.Lexicographic.{slice_cmp}
use Rattle.std.specs.Ordering.{nat_cmp, ordering_then}
use Rattle.std.specs.declared.cmp.Ordering.{Ordering}
use Rattle.idl_env.specs.declared.keys.key.Key.{Key}
use Rattle.idl_env.specs.declared.keys.key.Key.TheVariants.{Cursor, Declared, Introduced, Opened, Nameless, Prefix, IdOf, Typeprefix}

-- the place of what is asked among all that may be, the names, the innermost first, and the number of
-- a body
pub record Outline : Type 0 where
  pub rank : ℕ
  pub names : List (List ℕ)
  pub body : ℕ

abbrev bare : ℕ → List (List ℕ) → Outline
bare rank names = record { rank = rank; names = names; body = 0 }

-- the outline of a key
abbrev pub outline : Key → Outline
outline Cursor = bare 0 []
outline (Declared name path) = bare 1 (name ∷ path)
outline (Introduced name path body) = record { rank = 2; names = name ∷ path; body = body }
outline (Opened path) = bare 3 path
outline Nameless = bare 4 []
outline Prefix = bare 5 []
outline (IdOf path) = bare 6 path
outline (Typeprefix path) = bare 7 path

-- in which order outlines come: by the ranks, then by the names, then by the bodies
abbrev pub outline_cmp : Outline → Outline → Ordering
outline_cmp x y =
    ordering_then (nat_cmp x.rank y.rank)
    (ordering_then (slice_cmp (slice_cmp nat_cmp) x.names y.names) (nat_cmp x.body y.body))

-- the names of a key: one that may stand alone, and those of a path
abbrev pub names_in : Option (List ℕ) → List (List ℕ) → List (List ℕ)
names_in None behind = behind
names_in (Some first) behind = first ∷ behind
