-- What a type is over the wire, unrolled to a depth: its bytes, its ids, and what stands at each
-- place. Two versions of a type are laid out alike where this is equal at each depth.
use Rattle.std.specs.Prelude.{ℕ, zero, suc, Bool, List, Option, length, slice_get, if◌then◌else◌}
use Rattle.std.specs.Option.{option_map_or}
use Rattle.idl_changes.specs.Listing.{is_interface, is_local, is_sent_kind, place_of}
use Rattle.idl_changes.specs.Plain.{enumerators, plain, selected}
use Rattle.idl_changes.specs.declared.keys.NumberedText.{NumberedText}
use Rattle.idl_entity.specs.declared.data_type.Layer.{Layer}
use Rattle.idl_repo.specs.declared.details.reference.Reference.{Reference}
use Rattle.idl_repo.specs.declared.details.row_tree.DeclaredType.{DeclaredType}
use Rattle.idl_repo.specs.declared.details.row_tree.RowDetails.{RowDetails}
use Rattle.idl_repo.specs.declared.details.row_tree.RowDetails.TheVariants as row
use Rattle.idl_repo.specs.declared.details.row_tree.RowTree.{RowTree}
use Rattle.idl_repo.specs.declared.details.type_code_tree.CaseTree.{CaseTree}
use Rattle.idl_repo.specs.declared.details.type_code_tree.MemberTree.{MemberTree}
use Rattle.idl_repo.specs.declared.details.type_code_tree.TypeCodeParts.{TypeCodeParts}
use Rattle.idl_repo.specs.declared.details.type_code_tree.TypeCodeParts.TheVariants as parts
use Rattle.idl_repo.specs.declared.details.type_code_tree.UnionTree.{UnionTree}
use Rattle.idl_repo.specs.declared.details.type_tree.ElementTree.{ElementTree}
use Rattle.idl_repo.specs.declared.details.type_tree.ElementTree.TheVariants as tree
use Rattle.idl_repo.specs.declared.details.type_tree.LayeredType.{LayeredType}

pub data Layout : Type 0 where
  -- deeper than is told, or never sent
  Unknown : Layout
  -- nothing stands there
  Nothing : Layout
  -- a type of keywords, or a name that leads to no entry
  Word : ElementTree → Layout
  -- sequences and arrays around it, the innermost first
  Around : List Layer → Layout → Layout
  -- of a struct or exception the id, the base, and the member at each place
  Members : List ℕ → Layout → (ℕ → Layout) → Layout
  -- of an enum the id, and how many enumerators it has
  Ordinals : List ℕ → ℕ → Layout
  -- of a union the id, the discriminator, and what each label selects
  Choice : List ℕ → Layout → (NumberedText → Layout) → Layout
  -- of an interface the id, and whether it is local
  Interface : List ℕ → Bool → Layout
  -- a parameter that goes in or not, and comes out or not
  Passed : (goes_in comes_out : Bool) → Layout → Layout

-- layouts in a listing, where those of its entries are known to a depth
module _ (L : List RowTree) (known : ℕ → Layout) where
  abbrev pub reference_layout : Reference → Layout
  reference_layout r = option_map_or known (place_of L r.path) (Word (tree.Named r))

  abbrev pub element_layout : ElementTree → Layout
  element_layout (tree.Named r) = reference_layout r
  element_layout word = Word word

  abbrev pub plain_layout : LayeredType → Layout
  plain_layout t = Around t.layers (element_layout t.element)

  abbrev pub layout : LayeredType → Layout
  layout t = plain_layout (plain L t)

  abbrev pub case_layout : Option CaseTree → Layout
  case_layout c = option_map_or (λ c. layout c.member.data_type) c Nothing

  abbrev pub members_layout : List ℕ → List Reference → List MemberTree → Layout
  members_layout id bases ms =
      Members id (option_map_or reference_layout (slice_get bases 0) Nothing)
      (λ k. option_map_or (λ m. layout m.data_type) (slice_get ms k) Nothing)

  abbrev pub union_layout : List ℕ → UnionTree → Layout
  union_layout id u =
      Choice id (layout u.discriminator)
      (λ label. case_layout (selected (enumerators L u.discriminator) u.cases label))

  abbrev pub parts_layout : List ℕ → DeclaredType → TypeCodeParts → Layout
  parts_layout id d (parts.Structure ms) = members_layout id d.bases ms
  parts_layout id d (parts.Exception ms) = members_layout id d.bases ms
  parts_layout id d (parts.Union u) = union_layout id u
  parts_layout id d (parts.Enumeration names) = Ordinals id (length names)
  parts_layout id d other = Unknown

  abbrev pub details_layout : List ℕ → RowDetails → Layout
  details_layout id (row.Type d) = parts_layout id d d.code.parts
  details_layout id other = Unknown

  abbrev pub entry_layout : RowTree → Layout
  entry_layout e =
      if is_interface e then Interface e.id (is_local e)
      else if is_sent_kind e.kind then details_layout e.id e.details else Unknown

-- the layout of the entry at a place to a depth
unfoldable pub value : List RowTree → ℕ → ℕ → Layout
value L zero i = Unknown
value L (suc n) i = option_map_or (entry_layout L (value L n)) (slice_get L i) Unknown
