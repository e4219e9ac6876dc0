-- Where no change counts on the wire, entries that belong together are laid out alike, if those are that they refer to.
use Rattle.std.proofs.Common.{◌≡◌, ◌∙◌, ◌<◌, ◌++◌, ◌∷◌, ◌&&◌, ◌||◌, ◌⊎◌, [], ℕ, zero, suc, Bool, List, None, Option, Some, ap, ap₂, arith, codes, cond, false, find, flat_map, if◌then◌else◌, inl, inr, is_none, is_some, length, nat_eq, refl, subst, sym, true}
use Rattle.std.specs.Cmp.Lexicographic.{pointwise}
use Rattle.std.specs.List.{slice_get}
use Rattle.std.specs.Option.{option_eq, option_map_or, option_or}
use Rattle.std.proofs.lemmas.Bool.{false≢true}
use Rattle.std.proofs.lemmas.Option.{none-some, same_Some}
use Rattle.idl_base.specs.Exact.{both, same_list, same_number, same_option}
use Rattle.idl_changes.specs.Differences.{base_differences, cases_differences, changed, details_differences, in_a_row, label_differences, list_differences, member_differences, members_differences, name_of_member, new_label, new_label_differences, no_differences, old_label_differences, own_name, parts_differences, path_of, selection_differences, text_differences, type_differences, type_line, union_differences}
use Rattle.idl_changes.specs.Keys.{numbered_eq, same_numbered}
use Rattle.idl_changes.specs.Layout.{Around, Choice, Layout, Members, Nothing, Ordinals, Word, case_layout, details_layout, element_layout, layout, members_layout, parts_layout, reference_layout, union_layout}
use Rattle.idl_changes.specs.Listing.{alias_at, place_of}
use Rattle.idl_changes.specs.Partners.{is_partner, is_same_element, is_same_reference, is_sent, is_written, joined}
use Rattle.idl_changes.specs.Plain.{default_of, enumerators, is_labelled, label_of, labelled, named_by, plain, selected}
use Rattle.idl_changes.specs.Rows.{weights_of}
use Rattle.idl_changes.specs.Speaks.{IsDeclared}
use Rattle.idl_changes.specs.Spelled.{spelled}
use Rattle.idl_changes.specs.declared.change.Difference.{Difference}
use Rattle.idl_changes.specs.declared.change.Turn.TheVariants as turn
use Rattle.idl_changes.specs.declared.keys.NumberedText.{NumberedText}
use Rattle.idl_changes.specs.declared.rows.Item.TheVariants.{Enumerator, Member}
use Rattle.idl_changes.specs.declared.rows.Line.{Line}
use Rattle.idl_changes.specs.declared.rows.Line.TheVariants as line
use Rattle.idl_changes.specs.declared.rows.Weights.{Weights}
use Rattle.idl_changes.proofs.AllLemmas.{All-among}
use Rattle.idl_changes.proofs.MatchLemmas.{Paired, all-paired}
use Rattle.idl_changes.proofs.PlainLemmas.{NamesNone, alias-within, plain-alias, plain-none}
use Rattle.idl_changes.proofs.WeightLemmas.{Lacks, lacks-back, lacks-front, lacks-none, lacks-unless}
use Rattle.idl_entity.specs.DataType.{layer_eq, same_layer}
use Rattle.idl_entity.specs.declared.data_type.Layer.{Layer}
use Rattle.idl_repo.specs.details.Print.{code_word}
use Rattle.idl_repo.specs.details.Same.{reference_eq, same_element_tree, same_reference}
use Rattle.idl_repo.specs.declared.details.reference.Reference.{Reference}
use Rattle.idl_repo.specs.declared.details.row_tree.DeclaredType.{DeclaredType}
use Rattle.idl_repo.specs.declared.details.row_tree.RowDetails.{RowDetails}
use Rattle.idl_repo.specs.declared.details.row_tree.RowDetails.TheVariants as row
use Rattle.idl_repo.specs.declared.details.row_tree.RowTree.{RowTree}
use Rattle.idl_repo.specs.declared.details.type_code_tree.CaseTree.{CaseTree}
use Rattle.idl_repo.specs.declared.details.type_code_tree.MemberTree.{MemberTree}
use Rattle.idl_repo.specs.declared.details.type_code_tree.TypeCodeParts.{TypeCodeParts}
use Rattle.idl_repo.specs.declared.details.type_code_tree.TypeCodeParts.TheVariants as parts
use Rattle.idl_repo.specs.declared.details.type_code_tree.UnionTree.{UnionTree}
use Rattle.idl_repo.specs.declared.details.type_tree.ElementTree.{ElementTree}
use Rattle.idl_repo.specs.declared.details.type_tree.ElementTree.TheVariants as tree
use Rattle.idl_repo.specs.declared.details.type_tree.LayeredType.{LayeredType}

abbrev pub wire : Weights → Bool
wire w = w.wire

-- aliases that belong together are sent the same, and no other entry belongs to an alias
abbrev pub AreSent : (old new : List RowTree) → (was is : Option LayeredType) → Type 0
AreSent old new None None = Unit {0}
AreSent old new None (Some u) = ⊥
AreSent old new (Some t) None = ⊥
AreSent old new (Some t) (Some u) = is_sent old new t u ≡ true

-- two listings, and what their entries are laid out as to a depth
module _ (old new : List RowTree) (was is : ℕ → Layout) (alike : (i k : ℕ) → joined old new i ≡ Some k → was i ≡ is k) where
  pub reference-alike : (r s : Reference) → is_same_reference old new r s ≡ true → reference_layout old was r ≡ reference_layout new is s
  unfolding is_same_reference
  reference-alike r s same = by (place_of old r.path) refl (place_of new s.path) refl same
    where
      by : (first : Option ℕ) → place_of old r.path ≡ first → (second : Option ℕ) → place_of new s.path ≡ second
          → (elim first [ None ↦ is_none (place_of new s.path) && reference_eq r s | Some i ↦ is_partner old new i (place_of new s.path) ]) ≡ true
          → option_map_or was (place_of old r.path) (Word (tree.Named r)) ≡ option_map_or is (place_of new s.path) (Word (tree.Named s))
      by None e None f h =
          let one = same_reference r s (both (is_none (place_of new s.path)) (reference_eq r s) h).1 in
          ap (λ (o : Option ℕ). option_map_or was o (Word (tree.Named r))) e ∙ ap (λ (q : Reference). Word (tree.Named q)) one
          ∙ sym (ap (λ (o : Option ℕ). option_map_or is o (Word (tree.Named s))) f)
      by None e (Some k) f h =
          let no = (both (is_none (place_of new s.path)) (reference_eq r s) h).0 in
          absurd (false≢true (sym (ap is_none f) ∙ no))
      by (Some i) e None f h =
          let no = (both (is_some (place_of new s.path)) (option_eq nat_eq (joined old new i) (place_of new s.path)) h).0 in
          absurd (false≢true (sym (ap is_some f) ∙ no))
      by (Some i) e (Some k) f h =
          let one = same_option nat_eq same_number (joined old new i) (place_of new s.path) (both (is_some (place_of new s.path)) (option_eq nat_eq (joined old new i) (place_of new s.path)) h).1 in
          ap (λ (o : Option ℕ). option_map_or was o (Word (tree.Named r))) e ∙ alike i k (one ∙ f)
          ∙ sym (ap (λ (o : Option ℕ). option_map_or is o (Word (tree.Named s))) f)

  element-alike : (e f : ElementTree) → is_same_element old new e f ≡ true → element_layout old was e ≡ element_layout new is f
  element-alike (tree.Named r) (tree.Named s) same = reference-alike r s same
  element-alike (tree.Named r) tree.Void same = let no = same_element_tree (tree.Named r) tree.Void same in cc
  element-alike (tree.Named r) (tree.Constants t) same = let no = same_element_tree (tree.Named r) (tree.Constants t) same in cc
  element-alike (tree.Named r) (tree.Unvalued u) same = let no = same_element_tree (tree.Named r) (tree.Unvalued u) same in cc
  element-alike tree.Void f same = ap (element_layout new is) (same_element_tree tree.Void f same)
  element-alike (tree.Constants t) f same = ap (element_layout new is) (same_element_tree (tree.Constants t) f same)
  element-alike (tree.Unvalued u) f same = ap (element_layout new is) (same_element_tree (tree.Unvalued u) f same)

  -- types without aliases that are laid out alike
  abbrev pub Alike : LayeredType → LayeredType → Type 0
  Alike t u = ((plain old t).layers ≡ (plain new u).layers) × (element_layout old was (plain old t).element ≡ element_layout new is (plain new u).element)

  written-parts : (t u : LayeredType) → is_written old new t u ≡ true → (is_same_element old new t.element u.element ≡ true) × (t.layers ≡ u.layers)
  unfolding is_written
  written-parts t u same =
      let parts = both (is_same_element old new t.element u.element) (pointwise layer_eq t.layers u.layers) same in
      (parts.0, same_list layer_eq same_layer t.layers u.layers parts.1)

  plain-alike : (t u : LayeredType) → is_written old new (plain old t) (plain new u) ≡ true → Alike t u
  plain-alike t u same =
      let parts = written-parts (plain old t) (plain new u) same in
      (parts.1, element-alike (plain old t).element (plain new u).element parts.0)

  module _ (first : IsDeclared old) (second : IsDeclared new) (aliases : (i k : ℕ) → joined old new i ≡ Some k → AreSent old new (alias_at old i) (alias_at new k)) where
    -- neither names an alias
    none-alike : (t u : LayeredType) → NamesNone old t → NamesNone new u → is_written old new t u ≡ true → Alike t u
    none-alike t u no_old no_new same =
        let parts = written-parts t u same in
        let p = plain-none old t no_old in
        let q = plain-none new u no_new in (
          ap (λ (v : LayeredType). v.layers) p ∙ parts.1 ∙ sym (ap (λ (v : LayeredType). v.layers) q),
          ap (λ (v : LayeredType). element_layout old was v.element) p ∙ element-alike t.element u.element parts.0 ∙ sym (ap (λ (v : LayeredType). element_layout new is v.element) q),
        )

    -- both name aliases whose own types are alike
    alias-alike : (i k : ℕ) (t u v w : LayeredType) → named_by old t.element ≡ Some i → named_by new u.element ≡ Some k → alias_at old i ≡ Some v → alias_at new k ≡ Some w
        → t.layers ≡ u.layers → Alike v w → Alike t u
    alias-alike i k t u v w names_old names_new here there layers own =
        let p = plain-alias old first i t v names_old here in
        let q = plain-alias new second k u w names_new there in (
          ap (λ (x : LayeredType). x.layers) p ∙ ap₂ (λ (a b : List Layer). a ++ b) own.0 layers ∙ sym (ap (λ (x : LayeredType). x.layers) q),
          ap (λ (x : LayeredType). element_layout old was x.element) p ∙ own.1 ∙ sym (ap (λ (x : LayeredType). element_layout new is x.element) q),
        )

    -- of two that are written the same what they name belongs together, if the old one names an entry
    names-joined : (t u : LayeredType) → is_written old new t u ≡ true → (i : ℕ) → named_by old t.element ≡ Some i → (k : ℕ) × (named_by new u.element ≡ Some k) × (joined old new i ≡ Some k)
    unfolding is_same_reference
    names-joined t u same i names = by t.element u.element (written-parts t u same).0 names
      where
        place : (r s : Reference) → (found : Option ℕ) → place_of new s.path ≡ found → is_same_reference old new r s ≡ true → place_of old r.path ≡ Some i
            → (k : ℕ) × (place_of new s.path ≡ Some k) × (joined old new i ≡ Some k)
        place r s found e h at =
            let there : is_partner old new i (place_of new s.path) ≡ true =
            sym (ap (λ (o : Option ℕ). elim o [ None ↦ is_none (place_of new s.path) && reference_eq r s | Some j ↦ is_partner old new j (place_of new s.path) ]) at) ∙ h
            in
            let parts = both (is_some (place_of new s.path)) (option_eq nat_eq (joined old new i) (place_of new s.path)) there in
            let one = same_option nat_eq same_number (joined old new i) (place_of new s.path) parts.1 in
            some found e parts.0 one
          where
            some : (o : Option ℕ) → place_of new s.path ≡ o → is_some (place_of new s.path) ≡ true → joined old new i ≡ place_of new s.path
                → (k : ℕ) × (place_of new s.path ≡ Some k) × (joined old new i ≡ Some k)
            some None e is one = absurd (false≢true (sym (ap is_some e) ∙ is))
            some (Some k) e is one = (k, e, one ∙ e)

        by : (x y : ElementTree) → is_same_element old new x y ≡ true → named_by old x ≡ Some i → (k : ℕ) × (named_by new y ≡ Some k) × (joined old new i ≡ Some k)
        by (tree.Named r) (tree.Named s) h at = place r s (place_of new s.path) refl h at
        by (tree.Named r) tree.Void h at = let no = same_element_tree (tree.Named r) tree.Void h in cc
        by (tree.Named r) (tree.Constants c) h at = let no = same_element_tree (tree.Named r) (tree.Constants c) h in cc
        by (tree.Named r) (tree.Unvalued c) h at = let no = same_element_tree (tree.Named r) (tree.Unvalued c) h in cc
        by tree.Void y h at = cc
        by (tree.Constants c) y h at = cc
        by (tree.Unvalued c) y h at = cc

    -- and where it names none, the new one names none
    names-none : (t u : LayeredType) → is_written old new t u ≡ true → named_by old t.element ≡ None → named_by new u.element ≡ None
    unfolding is_same_reference
    names-none t u same names = by t.element u.element (written-parts t u same).0 names
      where
        none : (o : Option ℕ) → is_none o ≡ true → o ≡ None
        none None h = refl
        none (Some k) h = cc

        by : (x y : ElementTree) → is_same_element old new x y ≡ true → named_by old x ≡ None → named_by new y ≡ None
        by (tree.Named r) (tree.Named s) h at =
            let there : (is_none (place_of new s.path) && reference_eq r s) ≡ true =
            sym (ap (λ (o : Option ℕ). elim o [ None ↦ is_none (place_of new s.path) && reference_eq r s | Some j ↦ is_partner old new j (place_of new s.path) ]) at) ∙ h
            in
            none (place_of new s.path) (both (is_none (place_of new s.path)) (reference_eq r s) there).0
        by (tree.Named r) tree.Void h at = refl
        by (tree.Named r) (tree.Constants c) h at = refl
        by (tree.Named r) (tree.Unvalued c) h at = refl
        by tree.Void y h at = ap (named_by new) (sym (same_element_tree tree.Void y h))
        by (tree.Constants c) y h at = ap (named_by new) (sym (same_element_tree (tree.Constants c) y h))
        by (tree.Unvalued c) y h at = ap (named_by new) (sym (same_element_tree (tree.Unvalued c) y h))

    -- types that are written the same, where the aliases that they name stand before a place
    abbrev Below : ℕ → LayeredType → Type 0
    Below z t = (j : ℕ) (v : LayeredType) → named_by old t.element ≡ Some j → alias_at old j ≡ Some v → j < z

    or-sent : (v w : LayeredType) → is_sent old new v w ≡ true → (is_written old new v w ≡ true) ⊎ (is_written old new (plain old v) (plain new w) ≡ true)
    unfolding is_sent
    or-sent v w same = by (is_written old new v w) same
      where
        by : (b : Bool) → (b || is_written old new (plain old v) (plain new w)) ≡ true → (b ≡ true) ⊎ (is_written old new (plain old v) (plain new w) ≡ true)
        by true h = inl refl
        by false h = inr h

    written-alike : (z : ℕ) (t u : LayeredType) → Below z t → is_written old new t u ≡ true → Alike t u
    written-alike zero t u below same = by (named_by old t.element) refl
      where
        by : (found : Option ℕ) → named_by old t.element ≡ found → Alike t u
        by None names =
            let no_new = names-none t u same names in
            none-alike t u (λ n at. absurd (none-some n (sym names ∙ at))) (λ n at. absurd (none-some n (sym no_new ∙ at))) same
        by (Some i) names =
            let goes = names-joined t u same i names in
            at-alias (alias_at old i) refl (alias_at new goes.0) refl (aliases i goes.0 goes.2)
          where
            at-alias : (a : Option LayeredType) → alias_at old i ≡ a → (b : Option LayeredType) → alias_at new (names-joined t u same i names).0 ≡ b
                → AreSent old new (alias_at old i) (alias_at new (names-joined t u same i names).0) → Alike t u
            at-alias None here None there sent =
                let goes = names-joined t u same i names in
                none-alike t u (λ n at. ap (alias_at old) (same_Some n i (sym at ∙ names)) ∙ here) (λ n at. ap (alias_at new) (same_Some n goes.0 (sym at ∙ goes.1)) ∙ there) same
            at-alias (Some v) here b there sent = absurd (omega (arith, below i v names here))
            at-alias None here (Some w) there sent = absurd (subst (λ (o : Option LayeredType). AreSent old new o (Some w)) here (subst (AreSent old new (alias_at old i)) there sent))
    written-alike (suc z) t u below same = by (named_by old t.element) refl (λ v w b h. written-alike z v w b h)
      where
        by : (found : Option ℕ) → named_by old t.element ≡ found → ((v w : LayeredType) → Below z v → is_written old new v w ≡ true → Alike v w) → Alike t u
        by None names rest =
            let no_new = names-none t u same names in
            none-alike t u (λ n at. absurd (none-some n (sym names ∙ at))) (λ n at. absurd (none-some n (sym no_new ∙ at))) same
        by (Some i) names rest =
            let goes = names-joined t u same i names in
            at-alias (alias_at old i) refl (alias_at new goes.0) refl (aliases i goes.0 goes.2)
          where
            at-alias : (a : Option LayeredType) → alias_at old i ≡ a → (b : Option LayeredType) → alias_at new (names-joined t u same i names).0 ≡ b
                → AreSent old new (alias_at old i) (alias_at new (names-joined t u same i names).0) → Alike t u
            at-alias None here None there sent =
                let goes = names-joined t u same i names in
                none-alike t u (λ n at. ap (alias_at old) (same_Some n i (sym at ∙ names)) ∙ here) (λ n at. ap (alias_at new) (same_Some n goes.0 (sym at ∙ goes.1)) ∙ there) same
            at-alias (Some v) here (Some w) there sent =
                let goes = names-joined t u same i names in
                let layers = (written-parts t u same).1 in
                let own : is_sent old new v w ≡ true = subst (λ (o : Option LayeredType). AreSent old new o (Some w)) here (subst (AreSent old new (alias_at old i)) there sent) in
                let before : Below z v = λ j x at is_alias. (let less = first.aliases i j v x here at is_alias in omega (arith, less, below i v names here)) in
                alias-alike i goes.0 t u v w names goes.1 here there layers
                (elim (or-sent v w own) [ inl h ↦ rest v w before h | inr h ↦ plain-alike v w h ])
            at-alias None here (Some w) there sent = absurd (subst (λ (o : Option LayeredType). AreSent old new o (Some w)) here (subst (AreSent old new (alias_at old i)) there sent))
            at-alias (Some v) here None there sent = absurd (subst (λ (o : Option LayeredType). AreSent old new o None) here (subst (AreSent old new (alias_at old i)) there sent))

    pub sent-alike : (t u : LayeredType) → is_sent old new t u ≡ true → layout old was t ≡ layout new is u
    sent-alike t u same =
        let alikes : Alike t u = elim (or-sent t u same) [
          | inl h ↦ written-alike (length old) t u (λ j v names at. alias-within old j v at) h
          | inr h ↦ plain-alike t u h
        ] in
        ap₂ Around alikes.0 alikes.1

    -- a type of which nothing is told that counts on the wire
    pub type-alike : (part : List ℕ) (t u : LayeredType) → Lacks wire (type_differences old new part t u) → layout old was t ≡ layout new is u
    unfolding type_line is_sent
    type-alike part t u all = by (is_written old new t u) refl all
      where
        line-of : (b : Bool) → is_sent old new t u ≡ b → Lacks wire (changed (if b then (if nat_eq (length (plain old t).layers) 0 then line.AliasedType else line.LayeredType) else line.Type) part (spelled t) (spelled u))
            → layout old was t ≡ layout new is u
        line-of true e h = sent-alike t u e
        line-of false e h = absurd (lacks-none wire line.Type part (turn.Changed (spelled t) (spelled u)) refl h)

        by : (b : Bool) → is_written old new t u ≡ b
            → Lacks wire (if b then [] else changed (type_line old new t u) part (spelled t) (spelled u)) → layout old was t ≡ layout new is u
        by true e h = sent-alike t u (ap (λ (b : Bool). b || is_written old new (plain old t) (plain new u)) e)
        by false e h = line-of (is_sent old new t u) refl h

    -- ---- what rows tell behind the ids

    base-alike : (rs ss : List Reference) → pointwise (is_same_reference old new) rs ss ≡ true
        → option_map_or (reference_layout old was) (slice_get rs 0) Nothing ≡ option_map_or (reference_layout new is) (slice_get ss 0) Nothing
    base-alike [] [] same = refl
    base-alike [] (s ∷ ss) same = cc
    base-alike (r ∷ rs) [] same = cc
    base-alike (r ∷ rs) (s ∷ ss) same = reference-alike r s (both (is_same_reference old new r s) (pointwise (is_same_reference old new) rs ss) same).0

    member-alike : (a b : Option MemberTree) → Paired (λ (m n : MemberTree). Lacks wire (member_differences old new m n)) a b
        → option_map_or (λ (m : MemberTree). layout old was m.data_type) a Nothing ≡ option_map_or (λ (m : MemberTree). layout new is m.data_type) b Nothing
    unfolding member_differences
    member-alike None None pair = refl
    member-alike None (Some n) pair = absurd pair
    member-alike (Some m) None pair = absurd pair
    member-alike (Some m) (Some n) pair = type-alike (codes "type of member " ++ m.name) m.data_type n.data_type pair

    members-alike : (id : List ℕ) (d e : DeclaredType) (ms ns : List MemberTree) → Lacks wire (members_differences old new d e ms ns)
        → members_layout old was id d.bases ms ≡ members_layout new is id e.bases ns
    members-alike id d e ms ns all =
        let lists = list_differences Member name_of_member (member_differences old new) ms ns in
        let bases = lacks-front wire (base_differences old new d.bases e.bases) lists all in
        let same = lacks-unless wire (pointwise (is_same_reference old new) d.bases e.bases) line.StructBase (codes "base") (turn.Changed (in_a_row path_of d.bases) (in_a_row path_of e.bases)) refl bases in
        let base = base-alike d.bases e.bases same in
        let rest = lacks-back wire (base_differences old new d.bases e.bases) lists all in
        let each = λ (k : ℕ). member-alike (slice_get ms k) (slice_get ns k) (all-paired wire Member name_of_member (member_differences old new) refl refl refl ms ns rest k) in
        λ i. Members id (base i) (λ k. each k i)

    selection-alike : (gone added : Line) (part : List ℕ) → wire (weights_of gone) ≡ true → wire (weights_of added) ≡ true → (c d : Option CaseTree)
        → Lacks wire (selection_differences old new gone added part c d) → case_layout old was c ≡ case_layout new is d
    selection-alike gone added part has_gone has_added None None all = refl
    selection-alike gone added part has_gone has_added (Some c) None all = absurd (lacks-none wire gone part turn.Gone has_gone all)
    selection-alike gone added part has_gone has_added None (Some d) all = absurd (lacks-none wire added part turn.New has_added all)
    selection-alike gone added part has_gone has_added (Some c) (Some d) all =
        type-alike (codes "type of " ++ part) c.member.data_type d.member.data_type
        (lacks-front wire (type_differences old new (codes "type of " ++ part) c.member.data_type d.member.data_type)
        (text_differences line.CaseName (codes "name of " ++ part) c.member.name d.member.name) all)

    labelled-text : (names : List (List ℕ)) (label : NumberedText) (c : CaseTree) → is_labelled names label c ≡ true → (text : List ℕ) × (c.label ≡ Some text) × (label_of names text ≡ label)
    labelled-text names label c is = by c.label refl is
      where
        by : (o : Option (List ℕ)) → c.label ≡ o → option_map_or (λ (text : List ℕ). numbered_eq (label_of names text) label) o false ≡ true
            → (text : List ℕ) × (c.label ≡ Some text) × (label_of names text ≡ label)
        by None e h = cc
        by (Some text) e h = (text, e, same_numbered (label_of names text) label h)

    find-at : {X : Type 0} (test : X → Bool) (xs : List X) (x : X) → find test xs ≡ Some x → (i : ℕ) × (slice_get xs i ≡ Some x) × (test x ≡ true)
    find-at test [] x is = cc
    find-at {X} test (y ∷ ys) x is = by (test y) refl (find-at test ys x) is
      where
        by : (b : Bool) → test y ≡ b → (find test ys ≡ Some x → (i : ℕ) × (slice_get ys i ≡ Some x) × (test x ≡ true)) → cond b (Some y) (find test ys) ≡ Some x
            → (i : ℕ) × (slice_get (y ∷ ys) i ≡ Some x) × (test x ≡ true)
        by true e rest h = let same = same_Some y x h in (0, ap Some same, sym (ap test same) ∙ e)
        by false e rest h = let later = rest h in (suc later.0, later.1, later.2)

    -- of two unions, told by the enumerators of their discriminators and their cases
    module _ (u v : List (List ℕ) × List CaseTree) (all : Lacks wire (cases_differences old new u v)) where
      Label-alike : NumberedText → Type 0
      Label-alike label = case_layout old was (selected u.0 u.1 label) ≡ case_layout new is (selected v.0 v.1 label)

      label-told : (text : List ℕ) (label : NumberedText) → Lacks wire (label_differences old new u v text label) → Label-alike label
      unfolding Label-alike
      label-told text label told = selection-alike line.CaseGone line.CaseNew (codes "case " ++ text) refl refl (selected u.0 u.1 label) (selected v.0 v.1 label) told

      old-lack : Lacks wire (flat_map (old_label_differences old new u v) u.1)
      old-lack = lacks-front wire (flat_map (old_label_differences old new u v) u.1)
          (flat_map (new_label_differences old new u v) v.1 ++ selection_differences old new line.DefaultGone line.DefaultNew (codes "default") (default_of u.1) (default_of v.1)) all

      rest-lack : Lacks wire (flat_map (new_label_differences old new u v) v.1 ++ selection_differences old new line.DefaultGone line.DefaultNew (codes "default") (default_of u.1) (default_of v.1))
      rest-lack = lacks-back wire (flat_map (old_label_differences old new u v) u.1)
          (flat_map (new_label_differences old new u v) v.1 ++ selection_differences old new line.DefaultGone line.DefaultNew (codes "default") (default_of u.1) (default_of v.1)) all

      old-label : (label : NumberedText) (c : CaseTree) → labelled u.0 u.1 label ≡ Some c → Label-alike label
      unfolding labelled
      old-label label c is =
          let at = find-at (is_labelled u.0 label) u.1 c is in
          let text = labelled-text u.0 label c at.2 in
          let told = All-among (λ (d : Difference). wire d.weights ≡ false) (old_label_differences old new u v) u.1 at.0 c at.1 old-lack in
          let one : Lacks wire (label_differences old new u v text.0 (label_of u.0 text.0)) =
          subst (λ (o : Option (List ℕ)). Lacks wire (option_map_or (λ (t : List ℕ). label_differences old new u v t (label_of u.0 t)) o [])) text.1 told
          in
          label-told text.0 label (subst (λ (l : NumberedText). Lacks wire (label_differences old new u v text.0 l)) text.2 one)

      new-label : (label : NumberedText) (d : CaseTree) → labelled u.0 u.1 label ≡ None → labelled v.0 v.1 label ≡ Some d → Label-alike label
      unfolding labelled
      new-label label d none is =
          let at = find-at (is_labelled v.0 label) v.1 d is in
          let text = labelled-text v.0 label d at.2 in
          let told = All-among (λ (d : Difference). wire d.weights ≡ false) (new_label_differences old new u v) v.1 at.0 d at.1
          (lacks-front wire (flat_map (new_label_differences old new u v) v.1) (selection_differences old new line.DefaultGone line.DefaultNew (codes "default") (default_of u.1) (default_of v.1)) rest-lack)
          in
          let one : Lacks wire (new_label old new u v text.0 (label_of v.0 text.0)) =
          subst (λ (o : Option (List ℕ)). Lacks wire (option_map_or (λ (t : List ℕ). new_label old new u v t (label_of v.0 t)) o [])) text.1 told
          in
          let own : Lacks wire (new_label old new u v text.0 label) = subst (λ (l : NumberedText). Lacks wire (new_label old new u v text.0 l)) text.2 one in
          label-told text.0 label
          (subst (λ (o : Option CaseTree). Lacks wire (if is_some o then [] else label_differences old new u v text.0 label)) none own)

      no-label : (label : NumberedText) → labelled u.0 u.1 label ≡ None → labelled v.0 v.1 label ≡ None → Label-alike label
      unfolding selected Label-alike
      no-label label none_old none_new =
          ap (λ (o : Option CaseTree). case_layout old was (option_or o (default_of u.1))) none_old
          ∙ selection-alike line.DefaultGone line.DefaultNew (codes "default") refl refl (default_of u.1) (default_of v.1)
          (lacks-back wire (flat_map (new_label_differences old new u v) v.1) (selection_differences old new line.DefaultGone line.DefaultNew (codes "default") (default_of u.1) (default_of v.1)) rest-lack)
          ∙ sym (ap (λ (o : Option CaseTree). case_layout new is (option_or o (default_of v.1))) none_new)

      label-alike : (label : NumberedText) → case_layout old was (selected u.0 u.1 label) ≡ case_layout new is (selected v.0 v.1 label)
      unfolding Label-alike
      label-alike label = by (labelled u.0 u.1 label) refl (labelled v.0 v.1 label) refl
        where
          by : (a : Option CaseTree) → labelled u.0 u.1 label ≡ a → (b : Option CaseTree) → labelled v.0 v.1 label ≡ b → Label-alike label
          by (Some c) e b f = old-label label c e
          by None e (Some d) f = new-label label d e f
          by None e None f = no-label label e f

    union-alike : (id : List ℕ) (u v : UnionTree) → Lacks wire (union_differences old new u v) → union_layout old was id u ≡ union_layout new is id v
    unfolding union_differences
    union-alike id u v all =
        let p : List (List ℕ) × List CaseTree = (enumerators old u.discriminator, u.cases) in
        let q : List (List ℕ) × List CaseTree = (enumerators new v.discriminator, v.cases) in
        let types = type_differences old new (codes "discriminator") u.discriminator v.discriminator in
        let discriminator = type-alike (codes "discriminator") u.discriminator v.discriminator (lacks-front wire types (cases_differences old new p q) all) in
        let cases = lacks-back wire types (cases_differences old new p q) all in
        λ i. Choice id (discriminator i) (λ label. label-alike p q cases label i)

    paired-length : {X : Type 0} (P : X → X → Type 0) (xs ys : List X) → ((k : ℕ) → Paired P (slice_get xs k) (slice_get ys k)) → length xs ≡ length ys
    paired-length P [] [] each = refl
    paired-length P [] (y ∷ ys) each = absurd (each 0)
    paired-length P (x ∷ xs) [] each = absurd (each 0)
    paired-length P (x ∷ xs) (y ∷ ys) each = ap suc (paired-length P xs ys (λ k. each (suc k)))

    parts-alike : (id : List ℕ) (d e : DeclaredType) (p q : TypeCodeParts) → Lacks wire (parts_differences old new d e p q) → parts_layout old was id d p ≡ parts_layout new is id e q
    parts-alike id d e parts.ObjectReference parts.ObjectReference all = refl
    parts-alike id d e parts.LocalInterface parts.LocalInterface all = refl
    parts-alike id d e parts.Native parts.Native all = refl
    parts-alike id d e (parts.Structure ms) (parts.Structure ns) all = members-alike id d e ms ns all
    parts-alike id d e (parts.Exception ms) (parts.Exception ns) all = members-alike id d e ms ns all
    parts-alike id d e (parts.Union u) (parts.Union v) all = union-alike id u v all
    parts-alike id d e (parts.Enumeration xs) (parts.Enumeration ys) all =
        ap (Ordinals id) (paired-length (λ (a b : List ℕ). Lacks wire (no_differences a b)) xs ys (all-paired wire Enumerator own_name no_differences refl refl refl xs ys all))
    parts-alike id d e (parts.Alias t) (parts.Alias u) all = refl
    parts-alike id d e p q all = absurd (lacks-none wire line.Kind (codes "TypeCode") (turn.Changed (code_word p) (code_word q)) refl all)

    pub details-alike : (id : List ℕ) (d e : RowDetails) → Lacks wire (details_differences old new d e) → details_layout old was id d ≡ details_layout new is id e
    details-alike id row.Nothing row.Nothing all = refl
    details-alike id (row.Type d) (row.Type e) all = parts-alike id d e d.code.parts e.code.parts all
    details-alike id (row.Constant c) (row.Constant d) all = refl
    details-alike id (row.Attribute a) (row.Attribute b) all = refl
    details-alike id (row.Operation o) (row.Operation p) all = refl
    details-alike id d e all = absurd (lacks-none wire line.Kind (codes "row") (turn.Changed (codes "old") (codes "new")) refl all)
