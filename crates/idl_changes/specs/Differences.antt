-- What is told of two entries that belong together: how they differ, part by part.
use Rattle.std.specs.Prelude.{ℕ, ◌+◌, Bool, true, false, ◌&&◌, ◌||◌, List, [], ◌∷◌, ◌++◌, codes, decimal, flat_map, is_some, length, map, nat_eq, Option, None, Some, slice_get, if◌then◌else◌}
use Rattle.std.specs.Bool.{beq}
use Rattle.std.specs.Cmp.Lexicographic.{pointwise}
use Rattle.std.specs.List.{enumerate_from, join_by, list_all, list_any, zip}
use Rattle.std.specs.Option.{option_and_then, option_eq, option_map_or, unwrap_or}
use Rattle.std.specs.Str.{bytes_eq}
use Rattle.idl_changes.specs.Listing.{interface_of, is_called, is_interface, is_local, is_local_at, is_sent_kind, name_at, name_of, path_at}
use Rattle.idl_changes.specs.Matched.{in_order, is_matched, matches}
use Rattle.idl_changes.specs.Offered.{ancestors, is_offered, offers}
use Rattle.idl_changes.specs.Partners.{is_own_offer, is_partner, is_same_reference, is_sent, is_written, joined}
use Rattle.idl_changes.specs.Plain.{default_of, enumerators, label_of, labelled, plain, selected}
use Rattle.idl_changes.specs.Rows.{eased, item_word, weights_of}
use Rattle.idl_changes.specs.Spelled.{spelled}
use Rattle.idl_changes.specs.declared.change.Difference.{Difference}
use Rattle.idl_changes.specs.declared.change.Turn.{Turn}
use Rattle.idl_changes.specs.declared.change.Turn.TheVariants as turn
use Rattle.idl_changes.specs.declared.keys.NumberedText.{NumberedText}
use Rattle.idl_changes.specs.declared.rows.Item.{Item}
use Rattle.idl_changes.specs.declared.rows.Item.TheVariants.{Enumerator, Member, Parameter}
use Rattle.idl_changes.specs.declared.rows.Line.{Line}
use Rattle.idl_changes.specs.declared.rows.Line.TheVariants as line
use Rattle.idl_entity.specs.Kind.{kind_eq}
use Rattle.idl_entity.specs.declared.kind.Kind.{Kind}
use Rattle.idl_repo.specs.Row.{direction_word, kind_word}
use Rattle.idl_repo.specs.details.Print.{code_word}
use Rattle.idl_repo.specs.declared.details.reference.Reference.{Reference}
use Rattle.idl_repo.specs.declared.details.row_tree.AttributeTree.{AttributeTree}
use Rattle.idl_repo.specs.declared.details.row_tree.ConstantTree.{ConstantTree}
use Rattle.idl_repo.specs.declared.details.row_tree.DeclaredType.{DeclaredType}
use Rattle.idl_repo.specs.declared.details.row_tree.OperationTree.{OperationTree}
use Rattle.idl_repo.specs.declared.details.row_tree.ParameterTree.{ParameterTree}
use Rattle.idl_repo.specs.declared.details.row_tree.RowDetails.{RowDetails}
use Rattle.idl_repo.specs.declared.details.row_tree.RowDetails.TheVariants as row
use Rattle.idl_repo.specs.declared.details.row_tree.RowTree.{RowTree}
use Rattle.idl_repo.specs.declared.details.type_code_tree.CaseTree.{CaseTree}
use Rattle.idl_repo.specs.declared.details.type_code_tree.MemberTree.{MemberTree}
use Rattle.idl_repo.specs.declared.details.type_code_tree.TypeCodeParts.{TypeCodeParts}
use Rattle.idl_repo.specs.declared.details.type_code_tree.TypeCodeParts.TheVariants as parts
use Rattle.idl_repo.specs.declared.details.type_code_tree.UnionTree.{UnionTree}
use Rattle.idl_repo.specs.declared.details.type_tree.LayeredType.{LayeredType}

-- a line of the table, told of a part
abbrev pub told : Line → List ℕ → Turn → List Difference
told l part what = record { weights = weights_of l; part = part; turn = what } ∷ []

abbrev pub changed : Line → List ℕ → List ℕ → List ℕ → List Difference
changed l part was is = told l part (turn.Changed was is)

-- a part that has a text
abbrev pub text_differences : Line → List ℕ → List ℕ → List ℕ → List Difference
text_differences l part was is = if bytes_eq was is then [] else changed l part was is

-- a word that stands there or doesn't
abbrev pub yes_or_no : Bool → List ℕ
yes_or_no true = codes "yes"
yes_or_no false = codes "no"

abbrev pub flag_differences : Line → List ℕ → Bool → Bool → List Difference
flag_differences l part was is =
    if beq was is then [] else changed l part (yes_or_no was) (yes_or_no is)

-- names in a row, or `none`
abbrev pub in_a_row : {X : Type 0} → (X → List ℕ) → List X → List ℕ
in_a_row name [] = codes "none"
in_a_row name (x ∷ xs) = join_by name (codes " ") (x ∷ xs)

-- values, by their spelling
abbrev pub value_differences : Option (List ℕ) → Option (List ℕ) → List Difference
value_differences was is =
    if option_eq bytes_eq was is
    then []
    else changed line.ConstantValue (codes "value") (unwrap_or was []) (unwrap_or is [])

-- an item by its word and its name; what is told of the names of those at these places
abbrev pub item_part : Item → List ℕ → List ℕ
item_part item name = item_word item ++ (codes " " ++ name)

abbrev pub name_differences : Item → ℕ → List ℕ → List ℕ → List Difference
name_differences item n was is =
    text_differences (line.ItemName item) (codes "name of " ++ item_part item (decimal (n + 1)))
    was is

-- what is told of a new item, if no old one belongs to it
abbrev pub new_differences : {X : Type 0} → Item → (X → List ℕ) → List (Option ℕ) → ℕ → X
    → List Difference
new_differences item name found k y =
    if is_matched found k
    then []
    else told (line.ItemNew item) (item_part item (name y)) (turn.NewAt (k + 1))

-- and where those that belong to one stand in another order
abbrev pub order_differences : {X : Type 0} → Item → (X → List ℕ) → List (Option ℕ)
    → List X → List X → List Difference
order_differences item name found xs ys =
    if in_order found
    then []
    else changed (line.ItemOrder item) (codes "order of " ++ (item_word item ++ codes "s"))
    (in_a_row name xs) (in_a_row name ys)

-- items of two lists with names; `both` tells how those differ that belong together
module _ {X : Type 0} (item : Item) (name : X → List ℕ) (both : X → X → List Difference) where
  -- what is told of an item, and of the one to which it belongs, if there is one
  abbrev pub item_differences : ℕ → X → Option X → List Difference
  item_differences n x None = told (line.ItemGone item) (item_part item (name x)) turn.Gone
  item_differences n x (Some y) = name_differences item n (name x) (name y) ++ both x y

  -- each old item beside the place of the one to which it belongs, each new one, the order
  abbrev pub matched_differences : List (Option ℕ) → List X → List X → List Difference
  matched_differences found xs ys =
      flat_map (λ p. item_differences p.0 p.1.0 (option_and_then (slice_get ys) p.1.1))
      (enumerate_from 0 (zip xs found))
      ++ (flat_map (λ p. new_differences item name found p.0 p.1) (enumerate_from 0 ys)
      ++ order_differences item name found xs ys)

  unfoldable pub list_differences : List X → List X → List Difference
  list_differences xs ys = matched_differences (matches (map name xs) (map name ys)) xs ys

-- the names of items
abbrev pub own_name : List ℕ → List ℕ
own_name name = name

abbrev pub name_of_member : MemberTree → List ℕ
name_of_member m = m.name

abbrev pub name_of_parameter : ParameterTree → List ℕ
name_of_parameter p = p.member.name

-- enumerators have nothing but their names
abbrev pub no_differences : List ℕ → List ℕ → List Difference
no_differences x y = []

-- an id that goes over the wire, or another one
abbrev pub id_line : Kind → Line
id_line k = if is_sent_kind k then line.SentId else line.OtherId

-- and what is gone that has one
abbrev pub gone_line : Kind → Line
gone_line k = if is_sent_kind k then line.SentGone else line.UnsentGone

-- a reference by its path
abbrev pub path_of : Reference → List ℕ
path_of r = r.path

-- a direction
abbrev pub direction_differences : ParameterTree → ParameterTree → List Difference
direction_differences p q =
    if beq p.goes_in q.goes_in && beq p.comes_out q.comes_out
    then []
    else changed line.Direction (codes "direction of parameter " ++ p.member.name)
    (direction_word p.goes_in p.comes_out) (direction_word q.goes_in q.comes_out)

-- readonly, where it is taken off and where it is put on
abbrev pub readonly_line : Bool → Line
readonly_line true = line.ReadonlyOff
readonly_line false = line.ReadonlyOn

-- a context
abbrev pub context_differences : (was is : List (List ℕ)) → List Difference
context_differences was is =
    if pointwise bytes_eq was is
    then []
    else changed line.Context (codes "context") (in_a_row own_name was) (in_a_row own_name is)

-- the entries of two listings
module _ (old new : List RowTree) where
  -- the line of a type that is written otherwise
  unfoldable pub type_line : LayeredType → LayeredType → Line
  type_line t u =
      if is_sent old new t u
      then (if nat_eq (length (plain old t).layers) 0 then line.AliasedType else line.LayeredType)
      else line.Type

  -- a type: where it is written the same, what changes in what it names is told there
  abbrev pub type_differences : List ℕ → LayeredType → LayeredType → List Difference
  type_differences part t u =
      if is_written old new t u then [] else changed (type_line t u) part (spelled t) (spelled u)

  -- members
  unfoldable pub member_differences : MemberTree → MemberTree → List Difference
  member_differences m n =
      type_differences (codes "type of member " ++ m.name) m.data_type n.data_type

  -- parameters
  unfoldable pub parameter_differences : ParameterTree → ParameterTree → List Difference
  parameter_differences p q =
      direction_differences p q
      ++ type_differences (codes "type of parameter " ++ p.member.name) p.member.data_type
      q.member.data_type

  -- references, in any order: those that are gone, and those that are new
  abbrev pub gone_references : List ℕ → List Reference → List Reference → List Difference
  gone_references part rs ss =
      flat_map
      (λ r. if list_any (is_same_reference old new r) ss
      then []
      else told line.ExceptionGone (part ++ (codes " " ++ r.path)) turn.Gone) rs

  abbrev pub new_references : List ℕ → List Reference → List Reference → List Difference
  new_references part rs ss =
      flat_map
      (λ s. if list_any (λ r. is_same_reference old new r s) rs
      then []
      else told line.ExceptionNew (part ++ (codes " " ++ s.path)) turn.New) ss

  unfoldable pub reference_differences : List ℕ → List Reference → List Reference → List Difference
  reference_differences part rs ss = gone_references part rs ss ++ new_references part rs ss

  -- the base of a struct
  abbrev pub base_differences : List Reference → List Reference → List Difference
  base_differences rs ss =
      if pointwise (is_same_reference old new) rs ss
      then []
      else changed line.StructBase (codes "base") (in_a_row path_of rs) (in_a_row path_of ss)

  -- what a label selects, or `default`
  abbrev pub case_differences : List ℕ → CaseTree → CaseTree → List Difference
  case_differences part c d =
      type_differences (codes "type of " ++ part) c.member.data_type d.member.data_type
      ++ text_differences line.CaseName (codes "name of " ++ part) c.member.name d.member.name

  abbrev pub selection_differences : (gone added : Line) → List ℕ
      → Option CaseTree → Option CaseTree → List Difference
  selection_differences gone added part None None = []
  selection_differences gone added part (Some c) None = told gone part turn.Gone
  selection_differences gone added part None (Some d) = told added part turn.New
  selection_differences gone added part (Some c) (Some d) = case_differences part c d

  -- of two unions, told by the enumerators of their discriminators and their cases: what each label
  -- of the old one selects, and each that the new one has besides; then what `default` does
  module _ (u v : List (List ℕ) × List CaseTree) where
    abbrev pub label_differences : List ℕ → NumberedText → List Difference
    label_differences text label =
        selection_differences line.CaseGone line.CaseNew (codes "case " ++ text)
        (selected u.0 u.1 label) (selected v.0 v.1 label)

    abbrev pub old_label_differences : CaseTree → List Difference
    old_label_differences c =
        option_map_or (λ text. label_differences text (label_of u.0 text)) c.label []

    abbrev pub new_label : List ℕ → NumberedText → List Difference
    new_label text label =
        if is_some (labelled u.0 u.1 label) then [] else label_differences text label

    abbrev pub new_label_differences : CaseTree → List Difference
    new_label_differences d = option_map_or (λ text. new_label text (label_of v.0 text)) d.label []

    abbrev pub cases_differences : List Difference
    cases_differences =
        flat_map old_label_differences u.1
        ++ (flat_map new_label_differences v.1
        ++ selection_differences line.DefaultGone line.DefaultNew (codes "default")
        (default_of u.1) (default_of v.1))

  unfoldable pub union_differences : UnionTree → UnionTree → List Difference
  union_differences u v =
      type_differences (codes "discriminator") u.discriminator v.discriminator
      ++ cases_differences (enumerators old u.discriminator, u.cases)
      (enumerators new v.discriminator, v.cases)

  -- what interfaces inherit: a base that brings more to call counts for servants
  abbrev pub base_line : ℕ → ℕ → Line
  base_line i n =
      if list_all (λ h. is_offered old i (name_at new h)) (offers new n)
      then line.BareBase
      else line.BringingBase

  abbrev pub gone_bases : ℕ → ℕ → List Difference
  gone_bases i k =
      flat_map
      (λ m. if list_any (λ n. is_partner old new m (Some n)) (ancestors new k)
      then []
      else told line.BaseGone (codes "base " ++ path_at old m) turn.Gone) (ancestors old i)

  abbrev pub new_bases : ℕ → ℕ → List Difference
  new_bases i k =
      flat_map
      (λ n. if list_any (λ m. is_partner old new m (Some n)) (ancestors old i)
      then []
      else told (base_line i n) (codes "base " ++ path_at new n) turn.New) (ancestors new k)

  -- of an interface that is local now, or no longer, nothing is told but that
  unfoldable pub interface_differences : (i k : ℕ) → RowTree → RowTree → List Difference
  interface_differences i k e f =
      if beq (is_local e) (is_local f)
      then gone_bases i k ++ new_bases i k
      else changed line.Local (codes "local") (yes_or_no (is_local e)) (yes_or_no (is_local f))

  -- TypeCodes
  abbrev pub members_differences : DeclaredType → DeclaredType → List MemberTree
      → List MemberTree → List Difference
  members_differences d e ms ns =
      base_differences d.bases e.bases
      ++ list_differences Member name_of_member member_differences ms ns

  abbrev pub parts_differences : DeclaredType → DeclaredType → TypeCodeParts → TypeCodeParts
      → List Difference
  parts_differences d e parts.ObjectReference parts.ObjectReference = []
  parts_differences d e parts.LocalInterface parts.LocalInterface = []
  parts_differences d e parts.Native parts.Native = []
  parts_differences d e (parts.Structure ms) (parts.Structure ns) = members_differences d e ms ns
  parts_differences d e (parts.Exception ms) (parts.Exception ns) = members_differences d e ms ns
  parts_differences d e (parts.Union u) (parts.Union v) = union_differences u v
  parts_differences d e (parts.Enumeration was) (parts.Enumeration is) =
      list_differences Enumerator own_name no_differences was is
  parts_differences d e (parts.Alias t) (parts.Alias u) = type_differences (codes "type") t u
  parts_differences d e p q =
      changed line.Kind (codes "TypeCode") (code_word p) (code_word q)

  abbrev pub declared_differences : DeclaredType → DeclaredType → List Difference
  declared_differences d e = parts_differences d e d.code.parts e.code.parts

  -- a constant
  abbrev pub constant_line : LayeredType → LayeredType → Line
  constant_line t u = if is_sent old new t u then line.ConstantAlias else line.ConstantType

  abbrev pub constant_type_differences : LayeredType → LayeredType → List Difference
  constant_type_differences t u =
      if is_written old new t u
      then []
      else changed (constant_line t u) (codes "type") (spelled t) (spelled u)

  abbrev pub constant_differences : ConstantTree → ConstantTree → List Difference
  constant_differences c d =
      constant_type_differences c.data_type d.data_type ++ value_differences c.value d.value

  -- an attribute: reading it, and where both may be written, that
  abbrev pub set_differences : AttributeTree → AttributeTree → List Difference
  set_differences a b =
      if a.is_readonly || b.is_readonly
      then []
      else reference_differences (codes "exception of set") a.raised_by_set b.raised_by_set

  abbrev pub attribute_differences : AttributeTree → AttributeTree → List Difference
  attribute_differences a b =
      type_differences (codes "type") a.data_type b.data_type
      ++ (flag_differences (readonly_line a.is_readonly) (codes "readonly") a.is_readonly
      b.is_readonly
      ++ (reference_differences (codes "exception of get") a.raised b.raised
      ++ set_differences a b))

  -- an operation
  abbrev pub operation_differences : OperationTree → OperationTree → List Difference
  operation_differences o p =
      type_differences (codes "type") o.data_type p.data_type
      ++ (list_differences Parameter name_of_parameter parameter_differences o.parameters
      p.parameters
      ++ (flag_differences line.Oneway (codes "oneway") o.is_oneway p.is_oneway
      ++ (reference_differences (codes "exception") o.raised p.raised
      ++ context_differences o.contexts p.contexts)))

  -- what rows tell behind the ids
  abbrev pub details_differences : RowDetails → RowDetails → List Difference
  details_differences row.Nothing row.Nothing = []
  details_differences (row.Type d) (row.Type e) = declared_differences d e
  details_differences (row.Constant c) (row.Constant d) = constant_differences c d
  details_differences (row.Attribute a) (row.Attribute b) = attribute_differences a b
  details_differences (row.Operation o) (row.Operation p) = operation_differences o p
  details_differences d e = changed line.Kind (codes "row") (codes "old") (codes "new")

  -- of entries of two kinds nothing is told but that
  abbrev pub body_differences : (i k : ℕ) → RowTree → RowTree → List Difference
  body_differences i k e f =
      if is_interface e
      then interface_differences i k e f
      else details_differences e.details f.details

  abbrev pub kind_differences : (i k : ℕ) → RowTree → RowTree → List Difference
  kind_differences i k e f =
      if kind_eq e.kind f.kind
      then body_differences i k e f
      else changed line.Kind (codes "kind") (kind_word e.kind) (kind_word f.kind)

  -- ids, and paths of what isn't called: a called one is at its interface
  abbrev pub path_differences : RowTree → RowTree → List Difference
  path_differences e f =
      if is_called e then [] else text_differences line.Path (codes "path") e.path f.path

  abbrev pub entry_differences : (i k : ℕ) → RowTree → RowTree → List Difference
  entry_differences i k e f =
      text_differences (id_line e.kind) (codes "id") e.id f.id
      ++ (path_differences e f ++ kind_differences i k e f)

  -- what is told of a called entry of a local interface
  abbrev pub is_called_locally : RowTree → Bool
  is_called_locally e =
      is_called e && option_map_or (is_local_at old) (interface_of old e) false

  abbrev pub as_called : RowTree → List Difference → List Difference
  as_called e differences =
      if is_called_locally e
      then map (λ (d : Difference). record d { weights = eased d.weights }) differences
      else differences

  -- the differences of an entry and the one to which it belongs, at these places
  unfoldable pub differences : (i k : ℕ) → RowTree → RowTree → List Difference
  differences i k e f = as_called e (entry_differences i k e f)

  -- what is told of an entry that belongs to none: of a called one that its interface offers, where
  -- that belongs to one
  abbrev pub called_gone : ℕ → RowTree → ℕ → List Difference
  called_gone i e o =
      if is_own_offer old o i e && is_some (joined old new o)
      then as_called e (told line.CalledGone [] turn.Gone)
      else []

  unfoldable pub gone_differences : ℕ → RowTree → List Difference
  gone_differences i e =
      if is_called e
      then option_map_or (called_gone i e) (interface_of old e) []
      else told (gone_line e.kind) [] turn.Gone

  -- what is told of an entry of the new listing to which none belongs, and of a called one where
  -- the old interface offered none of its name
  abbrev pub called_new : RowTree → ℕ → List Difference
  called_new f i =
      if is_offered old i (name_of f.path) then [] else told line.CalledNew [] turn.New

  unfoldable pub added_differences : ℕ → RowTree → List Difference
  added_differences k f =
      if is_called f
      then option_map_or (called_new f) (option_and_then (joined new old) (interface_of new f)) []
      else (if is_some (joined new old k) then [] else told line.EntryNew [] turn.New)
