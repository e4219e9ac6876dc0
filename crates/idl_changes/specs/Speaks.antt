-- What programs that are built from two listings say to each other: each type of the old one is
-- laid out alike in the new one, and each request that can be made of an old interface is taken by
-- the new one as it was meant.
use Rattle.std.specs.Prelude.{◌≡◌, ℕ, ◌<◌, Bool, true, false, List, [], ◌∷◌, ◌++◌, All, Contains, codes, map, Some, slice_get, if◌then◌else◌}
use Rattle.std.specs.Option.{option_map_or}
use Rattle.idl_changes.specs.Layout.{Layout, Nothing, Passed, Word, layout, reference_layout, value}
use Rattle.idl_changes.specs.Listing.{alias_at, by_id, is_interface, is_local, is_local_at, is_sent_kind, name_at, name_of}
use Rattle.idl_changes.specs.Offered.{ancestors, offered, offers}
use Rattle.idl_changes.specs.Plain.{named_by}
use Rattle.idl_repo.specs.declared.details.row_tree.AttributeTree.{AttributeTree}
use Rattle.idl_repo.specs.declared.details.row_tree.OperationTree.{OperationTree}
use Rattle.idl_repo.specs.declared.details.row_tree.ParameterTree.{ParameterTree}
use Rattle.idl_repo.specs.declared.details.row_tree.RowDetails.{RowDetails}
use Rattle.idl_repo.specs.declared.details.row_tree.RowDetails.TheVariants as row
use Rattle.idl_repo.specs.declared.details.row_tree.RowTree.{RowTree}
use Rattle.idl_repo.specs.declared.details.type_tree.ElementTree.TheVariants as tree
use Rattle.idl_repo.specs.declared.details.type_tree.LayeredType.{LayeredType}

-- a request: the name that goes over the wire, whether a reply is awaited, what it gives back, what
-- stands at each place of its parameters, its context, and which exceptions may come
pub record Request : Type 0 where
  pub name : List ℕ
  pub is_oneway : Bool
  pub outcome : Layout
  pub parameters : ℕ → Layout
  pub contexts : List (List ℕ)
  pub raised : List Layout

-- the requests of a listing whose types are told to a depth
module _ (L : List RowTree) (n : ℕ) where
  abbrev pub parameter_layout : ParameterTree → Layout
  parameter_layout p = Passed p.goes_in p.comes_out (layout L (value L n) p.member.data_type)

  abbrev pub operation_request : List ℕ → OperationTree → Request
  operation_request name o = record {
    name = name;
    is_oneway = o.is_oneway;
    outcome = layout L (value L n) o.data_type;
    parameters = λ k. option_map_or parameter_layout (slice_get o.parameters k) Nothing;
    contexts = o.contexts;
    raised = map (reference_layout L (value L n)) o.raised;
  }

  -- reading an attribute, and writing it
  abbrev pub get_request : List ℕ → AttributeTree → Request
  get_request name a = record {
    name = codes "_get_" ++ name;
    is_oneway = false;
    outcome = layout L (value L n) a.data_type;
    parameters = λ k. Nothing;
    contexts = [];
    raised = map (reference_layout L (value L n)) a.raised;
  }

  abbrev pub set_request : List ℕ → AttributeTree → Request
  set_request name a = record {
    name = codes "_set_" ++ name;
    is_oneway = false;
    outcome = Word tree.Void;
    parameters = λ k.
        option_map_or (Passed true false)
        (slice_get (layout L (value L n) a.data_type ∷ []) k) Nothing;
    contexts = [];
    raised = map (reference_layout L (value L n)) a.raised_by_set;
  }

  abbrev pub requests_of : List ℕ → RowDetails → List Request
  requests_of name (row.Operation o) = operation_request name o ∷ []
  requests_of name (row.Attribute a) =
      get_request name a ∷ (if a.is_readonly then [] else set_request name a ∷ [])
  requests_of name other = []

  -- those of the entry at a place
  abbrev pub requests : ℕ → List Request
  requests g = option_map_or (λ e. requests_of (name_of e.path) e.details) (slice_get L g) []

-- who takes the second request takes the first as it was meant, and raises nothing besides
pub record Takes (said taken : Request) : Type 0 where
  pub name : said.name ≡ taken.name
  pub is_oneway : said.is_oneway ≡ taken.is_oneway
  pub outcome : said.outcome ≡ taken.outcome
  pub parameters : said.parameters ≡ taken.parameters
  pub contexts : said.contexts ≡ taken.contexts
  pub raised : All (Contains said.raised) taken.raised

-- the interface at a place of the old listing is taken by the one at a place of the new one: what
-- it inherits goes on, and what is called on it
pub record IsTaken (old new : List RowTree) (i k : ℕ) : Type 0 where
  pub bases : (m : ℕ) → Contains (ancestors old i) m
      → (p : ℕ) × Contains (ancestors new k) p × ((n : ℕ) → value old n m ≡ value new n p)
  pub called : (name : List ℕ) (g : ℕ) → offered old i name ≡ Some g
      → (h : ℕ) × (offered new k name ≡ Some h)
      × ((n : ℕ) → All
      (λ said. (taken : Request) × Contains (requests new n h) taken × Takes said taken)
      (requests old n g))

-- what is sent goes on under its id, laid out alike; an interface that isn't local is taken
pub record Speaks (old new : List RowTree) : Type 0 where
  pub sent : (i : ℕ) (e : RowTree) → slice_get old i ≡ Some e → is_sent_kind e.kind ≡ true
      → (k : ℕ) × (by_id old new i e ≡ Some k) × ((n : ℕ) → value old n i ≡ value new n k)
  pub taken : (i k : ℕ) (e : RowTree) → slice_get old i ≡ Some e → is_interface e ≡ true
      → is_local e ≡ false → by_id old new i e ≡ Some k → IsTaken old new i k

-- what IDL asks of declarations: a name is declared before it is used, so an alias names only
-- aliases that stand before it; what an interface inherits that isn't local isn't local; and
-- nothing that can be called on an interface hides anything
pub record IsDeclared (L : List RowTree) : Type 0 where
  pub aliases : (i j : ℕ) (t u : LayeredType) → alias_at L i ≡ Some t
      → named_by L t.element ≡ Some j → alias_at L j ≡ Some u → j < i
  pub bases : (i j : ℕ) → is_local_at L i ≡ false → Contains (ancestors L i) j
      → is_local_at L j ≡ false
  pub names : (i g h : ℕ) → Contains (offers L i) g → Contains (offers L i) h
      → name_at L g ≡ name_at L h → g ≡ h
