-- What is inherited, and what the changes from one listing to another say of the two, by their
-- weights.
use Rattle.std.specs.Prelude.{◌≡◌, ℕ, Bool, false, true, List, [], ◌∷◌, All, Contains, Some, slice_get}
use Rattle.idl_changes.specs.Listing.{is_called, is_interface, name_at}
use Rattle.idl_changes.specs.Offered.{base_places, is_offered, offers}
use Rattle.idl_changes.specs.Partners.{joined}
use Rattle.idl_changes.specs.declared.change.Change.{Change}
use Rattle.idl_changes.specs.declared.rows.Weights.{Weights}
use Rattle.idl_repo.specs.declared.details.row_tree.RowTree.{RowTree}

-- a chain of bases leads from one place to another by way of these
abbrev pub IsChain : List RowTree → ℕ → (by_way : List ℕ) → ℕ → Type 0
IsChain L i [] n = Contains (base_places L i) n
IsChain L i (m ∷ ms) n = Contains (base_places L i) m × IsChain L m ms n

-- no change has a weight
abbrev pub NoneHas : (Weights → Bool) → List Change → Type 0
NoneHas weight told = All (λ c. weight c.difference.weights ≡ false) told

-- the interface at a place of one listing offers all that the one at a place of another offers, by
-- name
abbrev pub OffersAll : (L : List RowTree) → ℕ → (others : List RowTree) → ℕ → Type 0
OffersAll L i others k = All (λ h. is_offered L i (name_at others h) ≡ true) (offers others k)

-- who implements an old interface implements what its partner offers
abbrev pub Serves : (old new : List RowTree) → Type 0
Serves old new =
    (i k : ℕ) (e : RowTree) → slice_get old i ≡ Some e → is_interface e ≡ true
    → joined old new i ≡ Some k → OffersAll old i new k

-- who names what the old listing has finds it: at its path with its kind, and what is called on an
-- interface on its partner
pub record Finds (old new : List RowTree) : Type 0 where
  pub named : (i : ℕ) (e : RowTree) → slice_get old i ≡ Some e → is_called e ≡ false
      → (k : ℕ) × (f : RowTree) × (slice_get new k ≡ Some f) × (f.path ≡ e.path)
      × (f.kind ≡ e.kind)
  pub called : (i : ℕ) (e : RowTree) → slice_get old i ≡ Some e → is_interface e ≡ true
      → (k : ℕ) × (joined old new i ≡ Some k) × OffersAll new k old i
