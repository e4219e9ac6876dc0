-- A row beside its place: its tree is read as before, and it has no float.
use Rattle.std.proofs.Common.{◌≡◌, ◌∙◌, ◌+◌, [], ℕ, true, false, List, Option, None, Some, ap, codes, option_map, refl}
use Rattle.std.specs.Cmp.Lexicographic.{bytes_decides}
use Rattle.std.specs.Str.{bytes_eq}
use Rattle.serde_json.proofs.Views.{get_member-put_other}
use Rattle.serde_json.specs.Data.{Data, Members, boolean, no_members, put}
use Rattle.serde_json.specs.Find.{get, get_member}
use Rattle.serde_json.specs.Written.{has_float, members_have_float}
use Rattle.idl_repo.specs.declared.details.row_tree.RowDetails.{RowDetails}
use Rattle.idl_repo.specs.declared.details.row_tree.RowDetails.TheVariants as detail
use Rattle.idl_json.specs.Listed.{LocatedRow, NamePlace, column_field, kept_column, place_fields, row_json}
use Rattle.idl_json.specs.Objects.{number_json, with_fields}
use Rattle.idl_json.specs.Reading.{attribute_of, constant_of, declared_of, details_of, got_details, operation_of, references_at, references_of, tree_of, typed_details, valued_details}
use Rattle.idl_json.specs.Rows.{json_of, row_fields}
use Rattle.idl_json.specs.Text.{text_json}
use Rattle.idl_json.proofs.FloatLemmas.{put-plain, row-plain}
use Rattle.idl_json.proofs.ReadingLemmas.{read-tree}

-- ---- what is read

get-put : (q k : List ℕ) (d : Data) (ms : Members) → bytes_eq q k ≡ false → get_member q (put k d ms) ≡ get_member q ms
get-put q k d ms other = get_member-put_other q k d ms (λ same. let is : bytes_eq q k ≡ true = (bytes_decides q k).1 same in absurd cc)

-- a member that is none of a place's
module _ (q : List ℕ) (ms : Members) (file : bytes_eq q (codes "file") ≡ false) (line : bytes_eq q (codes "line") ≡ false) (main : bytes_eq q (codes "main") ≡ false)
    (column : bytes_eq q (codes "column") ≡ false) where
  three-aside : (f l m : Data) → get_member q (put (codes "main") m (put (codes "line") l (put (codes "file") f ms))) ≡ get_member q ms
  three-aside f l m =
      get-put q (codes "main") m (put (codes "line") l (put (codes "file") f ms)) main
      ∙ get-put q (codes "line") l (put (codes "file") f ms) line
      ∙ get-put q (codes "file") f ms file

  column-aside : (ns : Members) (c : Option ℕ) → get_member q (with_fields ns (column_field c)) ≡ get_member q ns
  column-aside ns None = refl
  column-aside ns (Some before) = get-put q (codes "column") (number_json (before + 1)) ns column

  aside : (declared : Option NamePlace) → get_member q (with_fields ms (place_fields declared)) ≡ get_member q ms
  aside None = refl
  aside (Some p) =
      let f = text_json p.place.file in
      let l = number_json p.place.line in
      let m = boolean p.is_main in
      column-aside (put (codes "main") m (put (codes "line") l (put (codes "file") f ms))) (kept_column p.column) ∙ three-aside f l m

-- what stands where a member is told, and where it isn't
abbrev pub details_by : {X : Type 0} → (X → RowDetails) → Option RowDetails → Option X → Option Data → Option RowDetails
details_by f none some json = elim json [ None ↦ none | Some told ↦ option_map f some ]

by-same : {X : Type 0} (f : X → RowDetails) (n m : Option RowDetails) (s t : Option X) (d e : Option Data) → n ≡ m → s ≡ t → d ≡ e → details_by f n s d ≡ details_by f m t e
by-same f n m s t d e none some json =
    ap (λ x. details_by f x s d) none ∙ ap (λ x. details_by f m x d) some ∙ ap (λ x. details_by f m t x) json

-- ---- a tree is read of these members alone

module _ (j k : Data) (type-same : get (codes "type") j ≡ get (codes "type") k) where
  bases-same : get (codes "bases") j ≡ get (codes "bases") k → references_at (codes "bases") j ≡ references_at (codes "bases") k
  bases-same same = ap (λ (d : Option Data). elim d [ None ↦ Some [] | Some rs ↦ references_of rs ]) same

  declared-same : get (codes "bases") j ≡ get (codes "bases") k → declared_of j ≡ declared_of k
  declared-same bs = rw (type-same, bases-same bs) refl

  typed-same : get (codes "bases") j ≡ get (codes "bases") k → typed_details j ≡ typed_details k
  typed-same bs =
      by-same (λ x. detail.Type x) (Some detail.Nothing) (Some detail.Nothing) (declared_of j) (declared_of k) (get (codes "type") j) (get (codes "type") k) refl (declared-same bs) type-same

  constant-same : get (codes "value") j ≡ get (codes "value") k → constant_of j ≡ constant_of k
  constant-same v = rw (type-same, v) refl

  attribute-same : get (codes "readonly") j ≡ get (codes "readonly") k → get (codes "get") j ≡ get (codes "get") k → get (codes "set") j ≡ get (codes "set") k → attribute_of j ≡ attribute_of k
  attribute-same r g s = rw (r, type-same, g, s) refl

  operation-same : get (codes "oneway") j ≡ get (codes "oneway") k → get (codes "parameters") j ≡ get (codes "parameters") k → get (codes "raises") j ≡ get (codes "raises") k
      → get (codes "context") j ≡ get (codes "context") k → operation_of j ≡ operation_of k
  operation-same o ps rs cs = rw (o, type-same, ps, rs, cs) refl

same-tree : (j k : Data) → get (codes "kind") j ≡ get (codes "kind") k → get (codes "path") j ≡ get (codes "path") k → get (codes "id") j ≡ get (codes "id") k
    → get (codes "parameters") j ≡ get (codes "parameters") k → get (codes "get") j ≡ get (codes "get") k → get (codes "value") j ≡ get (codes "value") k
    → get (codes "type") j ≡ get (codes "type") k → get (codes "bases") j ≡ get (codes "bases") k → get (codes "readonly") j ≡ get (codes "readonly") k
    → get (codes "set") j ≡ get (codes "set") k → get (codes "oneway") j ≡ get (codes "oneway") k → get (codes "raises") j ≡ get (codes "raises") k
    → get (codes "context") j ≡ get (codes "context") k → tree_of j ≡ tree_of k
same-tree j k a b c ps g v t bs r s o rs cs =
    let valued : valued_details j ≡ valued_details k =
    by-same (λ x. detail.Constant x) (typed_details j) (typed_details k) (constant_of j) (constant_of k) (get (codes "value") j) (get (codes "value") k)
    (typed-same j k t bs) (constant-same j k t v) v in
    let gotten : got_details j ≡ got_details k =
    by-same (λ x. detail.Attribute x) (valued_details j) (valued_details k) (attribute_of j) (attribute_of k) (get (codes "get") j) (get (codes "get") k)
    valued (attribute-same j k t r g s) g in
    let all : details_of j ≡ details_of k =
    by-same (λ x. detail.Operation x) (got_details j) (got_details k) (operation_of j) (operation_of k) (get (codes "parameters") j) (get (codes "parameters") k)
    gotten (operation-same j k t o ps rs cs) ps in
    rw (a, b, c, all) refl

pub read-row : (row : LocatedRow) → tree_of (row_json row) ≡ Some row.tree
read-row row =
    let ms = with_fields no_members (row_fields row.tree) in
    let at = λ (q : List ℕ) (file : bytes_eq q (codes "file") ≡ false) (line : bytes_eq q (codes "line") ≡ false) (main : bytes_eq q (codes "main") ≡ false) (column : bytes_eq q (codes "column") ≡ false).
    aside q ms file line main column row.declared in
    same-tree (row_json row) (json_of row.tree)
    (at (codes "kind") refl refl refl refl) (at (codes "path") refl refl refl refl) (at (codes "id") refl refl refl refl)
    (at (codes "parameters") refl refl refl refl) (at (codes "get") refl refl refl refl) (at (codes "value") refl refl refl refl)
    (at (codes "type") refl refl refl refl) (at (codes "bases") refl refl refl refl) (at (codes "readonly") refl refl refl refl)
    (at (codes "set") refl refl refl refl) (at (codes "oneway") refl refl refl refl) (at (codes "raises") refl refl refl refl)
    (at (codes "context") refl refl refl refl)
    ∙ read-tree row.tree

-- ---- no floats

named-plain : (ms : Members) (f l m : Data) → members_have_float ms ≡ false → has_float f ≡ false → has_float l ≡ false → has_float m ≡ false
    → members_have_float (put (codes "main") m (put (codes "line") l (put (codes "file") f ms))) ≡ false
named-plain ms f l m plain ff ll mm =
    put-plain (codes "main") m (put (codes "line") l (put (codes "file") f ms)) mm (put-plain (codes "line") l (put (codes "file") f ms) ll (put-plain (codes "file") f ms ff plain))

pub column-plain : (ms : Members) (c : Option ℕ) → members_have_float ms ≡ false → members_have_float (with_fields ms (column_field c)) ≡ false
column-plain ms None plain = plain
column-plain ms (Some before) plain = put-plain (codes "column") (number_json (before + 1)) ms refl plain

located-plain : (ms : Members) (declared : Option NamePlace) → members_have_float ms ≡ false → members_have_float (with_fields ms (place_fields declared)) ≡ false
located-plain ms None plain = plain
located-plain ms (Some p) plain =
    let f = text_json p.place.file in
    let l = number_json p.place.line in
    let m = boolean p.is_main in
    column-plain (put (codes "main") m (put (codes "line") l (put (codes "file") f ms))) (kept_column p.column) (named-plain ms f l m plain refl refl refl)

pub listed-plain : (row : LocatedRow) → has_float (row_json row) ≡ false
listed-plain row = located-plain (with_fields no_members (row_fields row.tree)) row.declared (row-plain row.tree)
