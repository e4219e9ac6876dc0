-- The changes from one listing to another in order, and the row of each.
use Rattle.std.specs.Prelude.{ℕ, Bool, List, [], ◌∷◌, ◌++◌, codes, decimal, flat_map, map, Option, None, Some, slice_get, if◌then◌else◌}
use Rattle.std.specs.List.{enumerate_from, join_by}
use Rattle.std.specs.Option.{option_map_or}
use Rattle.idl_changes.specs.Differences.{added_differences, differences, gone_differences}
use Rattle.idl_changes.specs.Partners.{partner}
use Rattle.idl_changes.specs.declared.change.Change.{Change}
use Rattle.idl_changes.specs.declared.change.Difference.{Difference}
use Rattle.idl_changes.specs.declared.change.Turn.{Turn}
use Rattle.idl_changes.specs.declared.change.Turn.TheVariants as turn
use Rattle.idl_changes.specs.declared.rows.Weights.{Weights}
use Rattle.idl_repo.specs.Row.{kind_word}
use Rattle.idl_repo.specs.declared.details.row_tree.RowTree.{RowTree}

-- a difference of entries at these places, if there are such
abbrev pub change_at : (before after : Option ℕ) → Difference → Change
change_at before after d = record { before = before; after = after; difference = d }

module _ (old new : List RowTree) where
  -- what is told of an entry of the old listing, where this one of the new belongs to it
  abbrev pub told_with : ℕ → RowTree → ℕ → List Change
  told_with i e k =
      map (change_at (Some i) (Some k))
      (option_map_or (differences old new i k e) (slice_get new k) [])

  abbrev pub told_old : ℕ → RowTree → List Change
  told_old i e =
      elim (partner old new i) [
        | None ↦ map (change_at (Some i) None) (gone_differences old new i e)
        | Some k ↦ told_with i e k
      ]

  -- what is told of an entry of the new listing that is new
  abbrev pub told_new : ℕ → RowTree → List Change
  told_new k f = map (change_at None (Some k)) (added_differences old new k f)

  -- the changes: of each old entry in order, and then of each that is new
  abbrev pub changes : List Change
  changes =
      flat_map (λ p. told_old p.0 p.1) (enumerate_from 0 old)
      ++ flat_map (λ p. told_new p.0 p.1) (enumerate_from 0 new)

-- PART, OLD -> NEW; PART is gone; PART is new; PART is new, number N. A whole entry has no part.
abbrev pub part_text : List ℕ → List ℕ
part_text [] = []
part_text (byte ∷ part) = (byte ∷ part) ++ codes " "

abbrev pub turn_text : List ℕ → Turn → List ℕ
turn_text part turn.Gone = part_text part ++ codes "is gone"
turn_text part turn.New = part_text part ++ codes "is new"
turn_text part (turn.NewAt n) = part_text part ++ (codes "is new, number " ++ decimal n)
turn_text part (turn.Changed was is) = part ++ (codes ", " ++ (was ++ (codes " -> " ++ is)))

-- [WEIGHT,WEIGHT..]
abbrev pub name_if : Bool → List ℕ → List (List ℕ)
name_if stands name = if stands then name ∷ [] else []

abbrev pub weight_names : Weights → List (List ℕ)
weight_names w =
    name_if w.wire (codes "wire")
    ++ (name_if w.client (codes "client")
    ++ (name_if w.servant (codes "servant")
    ++ (name_if w.names (codes "names") ++ name_if w.added (codes "new"))))

unfoldable pub weights_text : Weights → List ℕ
weights_text w = codes "[" ++ (join_by (λ t. t) (codes ",") (weight_names w) ++ codes "]")

-- KIND PATH: TEXT [WEIGHTS], of the entry that changes, or that is new
abbrev pub entry_text : RowTree → List ℕ
entry_text e = kind_word e.kind ++ (codes " " ++ e.path)

abbrev pub difference_text : RowTree → Difference → List ℕ
difference_text e d =
    entry_text e
    ++ (codes ": " ++ (turn_text d.part d.turn ++ (codes " " ++ weights_text d.weights)))

-- the entry whose kind and path the row of a change tells: the old one, if there is one. The place
-- that is shown is that of the new one, if there is one
abbrev pub entry_in : (old new : List RowTree) → Change → Option RowTree
entry_in old new c =
    elim c.before
    [ None ↦ option_map_or (slice_get new) c.after None | Some i ↦ slice_get old i ]

abbrev pub row_text : (old new : List RowTree) → Change → List ℕ
row_text old new c = option_map_or (λ e. difference_text e c.difference) (entry_in old new c) []
