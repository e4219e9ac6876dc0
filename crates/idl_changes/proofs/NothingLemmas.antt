-- Of a listing and itself no change is told.
use Rattle.std.proofs.Common.{◌≡◌, ◌∙◌, ◌+◌, ◌++◌, ◌∷◌, ◌&&◌, ◌||◌, ◌<◌, ◌≤◌, [], ℕ, zero, suc, Bool, List, None, Option, Some, add-zero, append_assoc, ap, ap₂, arith, codes, cond, false, filter, find, flat_map, if◌then◌else◌, is_none, is_some, length, map, nat_eq, nat_lt, not, position, refl, sym, take, true}
use Rattle.std.specs.Bool.{beq}
use Rattle.std.specs.Cmp.{nat_eq_equiv}
use Rattle.std.specs.Cmp.Lexicographic.{bytes_decides, pointwise}
use Rattle.std.specs.List.{enumerate_from, list_any, range_with_len, slice_get, zip}
use Rattle.std.specs.Option.{option_and_then, option_eq, option_map_or, option_or}
use Rattle.std.specs.Str.{bytes_eq}
use Rattle.std.proofs.lemmas.Bool.Decides.{nat_tests}
use Rattle.std.proofs.lemmas.List.{length-map}
use Rattle.std.proofs.lemmas.Option.{same_Some, slice_get_within}
use Rattle.idl_base.specs.Exact.{both, same_number, same_option}
use Rattle.idl_changes.specs.Changes.{change_at, changes, told_new, told_old, told_with}
use Rattle.idl_changes.specs.Differences.{added_differences, as_called, base_differences, base_line, body_differences, called_gone, called_new, case_differences, changed, context_differences, details_differences, differences, direction_differences, entry_differences, flag_differences, gone_bases, gone_differences, gone_line, interface_differences, is_called_locally, item_differences, kind_differences, list_differences, matched_differences, member_differences, name_of_member, name_of_parameter, new_bases, new_differences, no_differences, order_differences, own_name, parameter_differences, parts_differences, readonly_line, reference_differences, selection_differences, text_differences, told, type_differences, union_differences, value_differences, yes_or_no}
use Rattle.idl_changes.specs.Listing.{interface_at, interface_of, is_called, is_interface, is_local, name_at, name_of, path_at, place_of, places_where, scope_of}
use Rattle.idl_changes.specs.Matched.{in_order, in_order_from, is_matched, matched, matches, renamed}
use Rattle.idl_changes.specs.Offered.{ancestors, called_in, is_offered, is_reached, offered, offers}
use Rattle.idl_changes.proofs.AncestorLemmas.{last_first-has, reached-holds}
use Rattle.idl_changes.specs.Partners.{called_partner, is_own_offer, is_partner, is_same_element, is_same_reference, is_written, joined, partner}
use Rattle.idl_changes.specs.Plain.{default_of, enumerators, label_of, labelled, selected}
use Rattle.idl_changes.specs.Rows.{eased}
use Rattle.idl_changes.specs.declared.change.Change.{Change}
use Rattle.idl_changes.specs.declared.change.Difference.{Difference}
use Rattle.idl_changes.specs.declared.change.Turn.TheVariants as turn
use Rattle.idl_changes.specs.declared.keys.NumberedText.{NumberedText}
use Rattle.idl_changes.specs.declared.rows.Item.{Item}
use Rattle.idl_changes.specs.declared.rows.Item.TheVariants.{Enumerator, Member, Parameter}
use Rattle.idl_changes.specs.declared.rows.Line.{Line}
use Rattle.idl_changes.specs.declared.rows.Line.TheVariants as line
use Rattle.idl_changes.proofs.EntryLemmas.{interface-found, interface-uncalled, none-told, own-joined, own-place, place-found}
use Rattle.idl_repo.specs.contracts.details.type_tree.ElementTreeEq.TheImpl.Laws.{laws-law as element_equiv}
use Rattle.idl_repo.specs.contracts.details.type_tree.LayeredTypeEq.TheImpl.Laws.{laws-law as type_equiv}
use Rattle.idl_repo.specs.details.Same.{element_tree_eq, reference_eq}
use Rattle.idl_repo.specs.declared.details.reference.Reference.{Reference}
use Rattle.idl_repo.specs.declared.details.row_tree.DeclaredType.{DeclaredType}
use Rattle.idl_repo.specs.declared.details.row_tree.ParameterTree.{ParameterTree}
use Rattle.idl_repo.specs.declared.details.row_tree.RowDetails.{RowDetails}
use Rattle.idl_repo.specs.declared.details.row_tree.RowDetails.TheVariants as row
use Rattle.idl_repo.specs.declared.details.row_tree.RowTree.{RowTree}
use Rattle.idl_repo.specs.declared.details.type_code_tree.CaseTree.{CaseTree}
use Rattle.idl_repo.specs.declared.details.type_code_tree.MemberTree.{MemberTree}
use Rattle.idl_repo.specs.declared.details.type_code_tree.TypeCodeParts.{TypeCodeParts}
use Rattle.idl_repo.specs.declared.details.type_code_tree.TypeCodeParts.TheVariants as parts
use Rattle.idl_repo.specs.declared.details.type_code_tree.UnionTree.{UnionTree}
use Rattle.idl_repo.specs.declared.details.type_tree.ElementTree.{ElementTree}
use Rattle.idl_repo.specs.declared.details.type_tree.ElementTree.TheVariants as tree
use Rattle.idl_repo.specs.declared.details.type_tree.LayeredType.{LayeredType}
use Rattle.idl_entity.specs.DataType.{layer_eq}
use Rattle.idl_entity.specs.Kind.{kind_number}
use Rattle.idl_repo.specs.Row.{kind_word}

none-both : (a b : List Difference) → a ≡ [] → b ≡ [] → a ++ b ≡ []
none-both a b e f = ap₂ (λ (x y : List Difference). x ++ y) e f

none-unless : (b : Bool) (others : List Difference) → b ≡ true → (if b then [] else others) ≡ []
none-unless b others e = ap (λ (c : Bool). if c then [] else others) e

none-either : (b : Bool) (others : List Difference) → others ≡ [] → (if b then [] else others) ≡ []
none-either true others e = refl
none-either false others e = e

flat_map-none : {X : Type 0} (f : X → List Difference) → ((x : X) → f x ≡ []) → (xs : List X) → flat_map f xs ≡ []
flat_map-none f none [] = refl
flat_map-none f none (x ∷ xs) = none-both _ _ (none x) (flat_map-none f none xs)

own-bytes : (a : List ℕ) → bytes_eq a a ≡ true
own-bytes a = (bytes_decides a a).1 refl

own-beq : (b : Bool) → beq b b ≡ true
own-beq true = refl
own-beq false = refl

-- a test that passes at an item passes at one of the list
any-at : {X : Type 0} (test : X → Bool) (before rest : List X) (x : X) → test x ≡ true → list_any test (before ++ x ∷ rest) ≡ true
any-at test [] rest x is = ap (λ (b : Bool). b || list_any test rest) is
any-at test (y ∷ before) rest x is = by (test y) (any-at test before rest x is)
  where
    by : (b : Bool) → list_any test (before ++ x ∷ rest) ≡ true → (b || list_any test (before ++ x ∷ rest)) ≡ true
    by true h = refl
    by false h = h

-- nothing is told of items each of which finds itself among all of them
none-found : {X : Type 0} (test : X → X → Bool) (says : X → List Difference) (P : X → Type 0) → ((x : X) → P x → test x x ≡ true)
    → (before rest all : List X) → all ≡ before ++ rest → ((x : X) (front back : List X) → all ≡ front ++ x ∷ back → P x)
    → flat_map (λ (x : X). if list_any (test x) all then [] else says x) rest ≡ []
none-found test says P own before [] all is each = refl
none-found {X} test says P own before (x ∷ rest) all is each =
    let found : list_any (test x) all ≡ true = ap (list_any (test x)) is ∙ any-at (test x) before rest x (own x (each x before rest is)) in
    none-both _ _ (none-unless (list_any (test x) all) (says x) found)
    (none-found test says P own (before ++ x ∷ []) rest all (is ∙ sym (append_assoc before (x ∷ []) rest)) each)

-- ---- parts without parts

no-text : (l : Line) (part a : List ℕ) → text_differences l part a a ≡ []
no-text l part a = none-unless (bytes_eq a a) _ (own-bytes a)

no-flag : (l : Line) (part : List ℕ) (b : Bool) → flag_differences l part b b ≡ []
no-flag l part b = none-unless (beq b b) _ (own-beq b)

no-value : (a : Option (List ℕ)) → value_differences a a ≡ []
no-value None = refl
no-value (Some a) = none-unless (bytes_eq a a) _ (own-bytes a)

own-texts : (texts : List (List ℕ)) → pointwise bytes_eq texts texts ≡ true
own-texts [] = refl
own-texts (a ∷ texts) = ap₂ (λ (x y : Bool). x && y) (own-bytes a) (own-texts texts)

no-context : (texts : List (List ℕ)) → context_differences texts texts ≡ []
no-context texts = none-unless (pointwise bytes_eq texts texts) _ (own-texts texts)

no-direction : (p : ParameterTree) → direction_differences p p ≡ []
no-direction p = none-unless (beq p.goes_in p.goes_in && beq p.comes_out p.comes_out) _ (ap₂ (λ (x y : Bool). x && y) (own-beq p.goes_in) (own-beq p.comes_out))

-- ---- lists: each item belongs to itself

own-matched : (all names : List (List ℕ)) (n : ℕ) → ((i : ℕ) (name : List ℕ) → slice_get names i ≡ Some name → slice_get all (n + i) ≡ Some name)
    → map (λ (p : ℕ × List ℕ). matched all all p.0 p.1) (enumerate_from n names) ≡ map (λ (k : ℕ). Some k) (range_with_len n (length names))
unfolding matched
own-matched all [] n at = refl
own-matched all (name ∷ names) n at =
    let there : slice_get all n ≡ Some name = ap (slice_get all) (sym (add-zero n)) ∙ at 0 name refl in
    let found : option_eq bytes_eq (slice_get all n) (Some name) ≡ true = ap (λ (o : Option (List ℕ)). option_eq bytes_eq o (Some name)) there ∙ own-bytes name in
    let first : matched all all n name ≡ Some n = ap (λ (b : Bool). if b then Some n else option_or (position (bytes_eq name) all) (renamed all all n)) found in
    let next : (i : ℕ) (m : List ℕ) → slice_get names i ≡ Some m → slice_get all (n + 1 + i) ≡ Some m =
    λ i m is. (let e : n + 1 + i ≡ n + suc i = omega arith in ap (slice_get all) e ∙ at (suc i) m is)
    in
    let rest = own-matched all names (n + 1) next in
    λ j. first j ∷ rest j

pub own-matches : (names : List (List ℕ)) → matches names names ≡ map (λ (k : ℕ). Some k) (range_with_len 0 (length names))
unfolding matches
own-matches names = own-matched names names 0 (λ i name is. (let e : 0 + i ≡ i = omega arith in ap (slice_get names) e ∙ is))

own-is_matched : (m n k : ℕ) → m ≤ k → k < m + n → list_any (λ (place : Option ℕ). option_eq nat_eq place (Some k)) (map (λ (j : ℕ). Some j) (range_with_len m n)) ≡ true
own-is_matched m zero k low high = absurd (omega (arith, low, high))
own-is_matched m (suc n) k low high = by (nat_eq m k) refl (own-is_matched (m + 1) n k)
  where
    by : (b : Bool) → nat_eq m k ≡ b
        → (m + 1 ≤ k → k < m + 1 + n → list_any (λ (place : Option ℕ). option_eq nat_eq place (Some k)) (map (λ (j : ℕ). Some j) (range_with_len (m + 1) n)) ≡ true)
        → (b || list_any (λ (place : Option ℕ). option_eq nat_eq place (Some k)) (map (λ (j : ℕ). Some j) (range_with_len (m + 1) n))) ≡ true
    by true is rest = refl
    by false is rest =
        let above : m + 1 ≤ k = grind (arith, nat_tests, is, low) in
        let below : k < m + 1 + n = omega (arith, high) in
        rest above below

own-in_order : (m n : ℕ) → in_order_from m (map (λ (j : ℕ). Some j) (range_with_len m n)) ≡ true
own-in_order m zero = refl
own-in_order m (suc n) =
    let same : nat_lt m m ≡ false = grind (arith, nat_tests) in
    ap₂ (λ (a b : Bool). not a && b) same (own-in_order (m + 1) n)

-- what is told of items and themselves
module _ {X : Type 0} (item : Item) (name : X → List ℕ) (both_told : X → X → List Difference) (none : (x : X) → both_told x x ≡ []) where
  no-items : (all xs : List X) (n : ℕ) → ((i : ℕ) (x : X) → slice_get xs i ≡ Some x → slice_get all (n + i) ≡ Some x)
      → flat_map (λ (p : ℕ × (X × Option ℕ)). item_differences item name both_told p.0 p.1.0 (option_and_then (slice_get all) p.1.1))
      (enumerate_from n (zip xs (map (λ (j : ℕ). Some j) (range_with_len n (length xs))))) ≡ []
  no-items all [] n at = refl
  no-items all (x ∷ xs) n at =
      let there : slice_get all n ≡ Some x = ap (slice_get all) (sym (add-zero n)) ∙ at 0 x refl in
      let first : item_differences item name both_told n x (slice_get all n) ≡ [] =
      ap (item_differences item name both_told n x) there ∙ none-both _ _ (no-text (line.ItemName item) _ (name x)) (none x)
      in
      let next : (i : ℕ) (y : X) → slice_get xs i ≡ Some y → slice_get all (n + 1 + i) ≡ Some y =
      λ i y is. (let e : n + 1 + i ≡ n + suc i = omega arith in ap (slice_get all) e ∙ at (suc i) y is)
      in
      none-both _ _ first (no-items all xs (n + 1) next)

  no-matched : (found : List (Option ℕ)) (xs : List X) → found ≡ map (λ (j : ℕ). Some j) (range_with_len 0 (length xs))
      → matched_differences item name both_told found xs xs ≡ []
  unfolding is_matched in_order
  no-matched found xs is =
      let places = map (λ (j : ℕ). Some j) (range_with_len 0 (length xs)) in
      let zero-more : (i : ℕ) (x : X) → slice_get xs i ≡ Some x → slice_get xs (0 + i) ≡ Some x = λ i x at. (let e : 0 + i ≡ i = omega arith in ap (slice_get xs) e ∙ at) in
      let items = no-items xs xs 0 zero-more in
      let news = none-told (new_differences item name places) 0 xs (λ i m x m-is at.
      (let within = slice_get_within xs i x at in
      let low : 0 ≤ m = omega arith in
      let high : m < 0 + length xs = omega (arith, within, m-is) in
      none-unless (is_matched places m) _ (own-is_matched 0 (length xs) m low high)))
      in
      let order : order_differences item name places xs xs ≡ [] = none-unless (in_order places) _ (own-in_order 0 (length xs)) in
      ap (λ (f : List (Option ℕ)). matched_differences item name both_told f xs xs) is ∙ none-both _ _ items (none-both _ _ news order)

  no-list : (xs : List X) → list_differences item name both_told xs xs ≡ []
  unfolding list_differences
  no-list xs =
      no-matched (matches (map name xs) (map name xs)) xs
      (own-matches (map name xs) ∙ ap (λ (n : ℕ). map (λ (j : ℕ). Some j) (range_with_len 0 n)) (length-map xs name))

-- ---- a listing and itself

module _ (L : List RowTree) where
  own-partner-at : (i : ℕ) → joined L L i ≡ Some i → is_partner L L i (Some i) ≡ true
  own-partner-at i is = ap (λ (o : Option ℕ). option_eq nat_eq o (Some i)) is ∙ nat_eq_equiv.refl i

  own-reference-eq : (r : Reference) → reference_eq r r ≡ true
  own-reference-eq r = ap₂ (λ (a b : Bool). a && b) (own-bytes r.id) (own-bytes r.path)

  own-reference : (r : Reference) → is_same_reference L L r r ≡ true
  unfolding is_same_reference
  own-reference r = by (place_of L r.path) refl
    where
      by : (found : Option ℕ) → place_of L r.path ≡ found
          → (elim found [ None ↦ is_none (place_of L r.path) && reference_eq r r | Some i ↦ is_partner L L i (place_of L r.path) ]) ≡ true
      by None e = ap₂ (λ (a : Option ℕ) (b : Bool). is_none a && b) e (own-reference-eq r)
      by (Some i) e =
          let at = place-found L r.path i e in
          ap (is_partner L L i) e ∙ own-partner-at i (own-joined L i at.0 at.1 at.2)

  own-element : (e : ElementTree) → is_same_element L L e e ≡ true
  own-element tree.Void = element_equiv.refl tree.Void
  own-element (tree.Constants t) = element_equiv.refl (tree.Constants t)
  own-element (tree.Unvalued u) = element_equiv.refl (tree.Unvalued u)
  own-element (tree.Named r) = own-reference r

  own-written : (t : LayeredType) → is_written L L t t ≡ true
  unfolding is_written
  own-written t =
      let layers = (both (element_tree_eq t.element t.element) (pointwise layer_eq t.layers t.layers) (type_equiv.refl t)).1 in
      ap₂ (λ (a b : Bool). a && b) (own-element t.element) layers

  no-type : (part : List ℕ) (t : LayeredType) → type_differences L L part t t ≡ []
  no-type part t = none-unless (is_written L L t t) _ (own-written t)

  no-member : (m : MemberTree) → member_differences L L m m ≡ []
  unfolding member_differences
  no-member m = no-type _ m.data_type

  no-parameter : (p : ParameterTree) → parameter_differences L L p p ≡ []
  unfolding parameter_differences
  no-parameter p = none-both _ _ (no-direction p) (no-type _ p.member.data_type)

  no-references : (part : List ℕ) (rs : List Reference) → reference_differences L L part rs rs ≡ []
  unfolding reference_differences
  no-references part rs =
      let Any-one : Reference → Type 0 = λ (r : Reference). Unit {0} in
      none-both _ _
      (none-found (λ (r s : Reference). is_same_reference L L r s) (λ (r : Reference). told line.ExceptionGone (part ++ (codes " " ++ r.path)) turn.Gone) Any-one (λ r one. own-reference r) [] rs rs refl (λ r front back is. tt))
      (none-found (λ (s r : Reference). is_same_reference L L r s) (λ (s : Reference). told line.ExceptionNew (part ++ (codes " " ++ s.path)) turn.New) Any-one (λ r one. own-reference r) [] rs rs refl (λ r front back is. tt))

  own-references : (rs : List Reference) → pointwise (is_same_reference L L) rs rs ≡ true
  own-references [] = refl
  own-references (r ∷ rs) = ap₂ (λ (a b : Bool). a && b) (own-reference r) (own-references rs)

  no-bases : (rs : List Reference) → base_differences L L rs rs ≡ []
  no-bases rs = none-unless (pointwise (is_same_reference L L) rs rs) _ (own-references rs)

  no-case : (part : List ℕ) (c : CaseTree) → case_differences L L part c c ≡ []
  no-case part c = none-both _ _ (no-type _ c.member.data_type) (no-text line.CaseName _ c.member.name)

  no-selection : (gone added : Line) (part : List ℕ) (c : Option CaseTree) → selection_differences L L gone added part c c ≡ []
  no-selection gone added part None = refl
  no-selection gone added part (Some c) = no-case part c

  no-union : (u : UnionTree) → union_differences L L u u ≡ []
  unfolding union_differences
  no-union u =
      none-both _ _ (no-type _ u.discriminator)
      (none-both _ _ (flat_map-none _ old-none u.cases)
      (none-both _ _ (flat_map-none _ new-none u.cases) (no-selection line.DefaultGone line.DefaultNew (codes "default") (default_of u.cases))))
    where
      names : List (List ℕ)
      names = enumerators L u.discriminator

      one : (text : List ℕ) (label : NumberedText)
          → selection_differences L L line.CaseGone line.CaseNew (codes "case " ++ text) (selected (enumerators L u.discriminator) u.cases label)
          (selected (enumerators L u.discriminator) u.cases label) ≡ []
      one text label = no-selection line.CaseGone line.CaseNew (codes "case " ++ text) (selected (enumerators L u.discriminator) u.cases label)

      old-by : (text : Option (List ℕ))
          → option_map_or (λ (t : List ℕ). selection_differences L L line.CaseGone line.CaseNew (codes "case " ++ t)
          (selected (enumerators L u.discriminator) u.cases (label_of (enumerators L u.discriminator) t))
          (selected (enumerators L u.discriminator) u.cases (label_of (enumerators L u.discriminator) t))) text [] ≡ []
      old-by None = refl
      old-by (Some text) = one text (label_of (enumerators L u.discriminator) text)

      old-none : (c : CaseTree)
          → option_map_or (λ (t : List ℕ). selection_differences L L line.CaseGone line.CaseNew (codes "case " ++ t)
          (selected (enumerators L u.discriminator) u.cases (label_of (enumerators L u.discriminator) t))
          (selected (enumerators L u.discriminator) u.cases (label_of (enumerators L u.discriminator) t))) c.label [] ≡ []
      old-none c = old-by c.label

      new-by : (text : Option (List ℕ))
          → option_map_or (λ (t : List ℕ). if is_some (labelled (enumerators L u.discriminator) u.cases (label_of (enumerators L u.discriminator) t))
          then []
          else selection_differences L L line.CaseGone line.CaseNew (codes "case " ++ t)
          (selected (enumerators L u.discriminator) u.cases (label_of (enumerators L u.discriminator) t))
          (selected (enumerators L u.discriminator) u.cases (label_of (enumerators L u.discriminator) t))) text [] ≡ []
      new-by None = refl
      new-by (Some text) =
          none-either (is_some (labelled (enumerators L u.discriminator) u.cases (label_of (enumerators L u.discriminator) text))) _
          (one text (label_of (enumerators L u.discriminator) text))

      new-none : (c : CaseTree)
          → option_map_or (λ (t : List ℕ). if is_some (labelled (enumerators L u.discriminator) u.cases (label_of (enumerators L u.discriminator) t))
          then []
          else selection_differences L L line.CaseGone line.CaseNew (codes "case " ++ t)
          (selected (enumerators L u.discriminator) u.cases (label_of (enumerators L u.discriminator) t))
          (selected (enumerators L u.discriminator) u.cases (label_of (enumerators L u.discriminator) t))) c.label [] ≡ []
      new-none c = new-by c.label

  -- what is inherited belongs to itself: it is interfaces
  own-interface : (path : List ℕ) (k : ℕ) → interface_at L path ≡ Some k → joined L L k ≡ Some k
  own-interface path k is = let at = interface-found L path k is in own-joined L k at.0 at.1 (interface-uncalled at.0 at.2)

  own-ancestor : (i m : ℕ) (front back : List ℕ) → ancestors L i ≡ front ++ m ∷ back → joined L L m ≡ Some m
  unfolding ancestors
  own-ancestor i m front back is =
      let end = length L in
      let there = last_first-has (is_reached L end i) end m (ap (list_any (nat_eq m)) is ∙ any-at (nat_eq m) front back m (nat_eq_equiv.refl m)) in
      reached-holds L (λ (n : ℕ). joined L L n ≡ Some n) own-interface end i m there.1

  no-interface : (i : ℕ) (e : RowTree) → interface_differences L L i i e e ≡ []
  unfolding interface_differences
  no-interface i e =
      let Own : ℕ → Type 0 = λ (m : ℕ). joined L L m ≡ Some m in
      let every = ancestors L i in
      let gone = none-found (λ (m n : ℕ). is_partner L L m (Some n)) (λ (m : ℕ). told line.BaseGone (codes "base " ++ path_at L m) turn.Gone) Own own-partner-at [] every every refl (own-ancestor i) in
      let new = none-found (λ (n m : ℕ). is_partner L L m (Some n)) (λ (n : ℕ). told (base_line L L i n) (codes "base " ++ path_at L n) turn.New) Own own-partner-at [] every every refl (own-ancestor i) in
      ap (λ (b : Bool). if b then gone_bases L L i i ++ new_bases L L i i else changed line.Local (codes "local") (yes_or_no (is_local e)) (yes_or_no (is_local e))) (own-beq (is_local e))
      ∙ none-both (gone_bases L L i i) (new_bases L L i i) gone new

  no-parts : (d : DeclaredType) (p : TypeCodeParts) → parts_differences L L d d p p ≡ []
  no-parts d parts.ObjectReference = refl
  no-parts d parts.LocalInterface = refl
  no-parts d parts.Native = refl
  no-parts d (parts.Structure ms) = none-both _ _ (no-bases d.bases) (no-list Member name_of_member (member_differences L L) no-member ms)
  no-parts d (parts.Exception ms) = none-both _ _ (no-bases d.bases) (no-list Member name_of_member (member_differences L L) no-member ms)
  no-parts d (parts.Union u) = no-union u
  no-parts d (parts.Enumeration names) = no-list Enumerator own_name no_differences (λ name. refl) names
  no-parts d (parts.Alias t) = no-type _ t

  no-set : (b : Bool) (rs : List Reference) → (if b || b then [] else reference_differences L L (codes "exception of set") rs rs) ≡ []
  no-set b rs = none-either (b || b) _ (no-references _ rs)

  no-details : (d : RowDetails) → details_differences L L d d ≡ []
  no-details row.Nothing = refl
  no-details (row.Type d) = no-parts d d.code.parts
  no-details (row.Constant c) = none-both _ _ (none-unless (is_written L L c.data_type c.data_type) _ (own-written c.data_type)) (no-value c.value)
  no-details (row.Attribute a) =
      none-both _ _ (no-type _ a.data_type)
      (none-both _ _ (no-flag (readonly_line a.is_readonly) (codes "readonly") a.is_readonly) (none-both _ _ (no-references (codes "exception of get") a.raised) (no-set a.is_readonly a.raised_by_set)))
  no-details (row.Operation o) =
      none-both _ _ (no-type _ o.data_type)
      (none-both _ _ (no-list Parameter name_of_parameter (parameter_differences L L) no-parameter o.parameters)
      (none-both _ _ (no-flag line.Oneway (codes "oneway") o.is_oneway) (none-both _ _ (no-references (codes "exception") o.raised) (no-context o.contexts))))

  no-body : (i : ℕ) (e : RowTree) → body_differences L L i i e e ≡ []
  no-body i e = by (is_interface e)
    where
      by : (b : Bool) → (if b then interface_differences L L i i e e else details_differences L L e.details e.details) ≡ []
      by true = no-interface i e
      by false = no-details e.details

  no-kind : (i : ℕ) (e : RowTree) → kind_differences L L i i e e ≡ []
  no-kind i e =
      ap (λ (b : Bool). if b then body_differences L L i i e e else changed line.Kind (codes "kind") (kind_word e.kind) (kind_word e.kind)) (nat_eq_equiv.refl (kind_number e.kind))
      ∙ no-body i e

  no-entry : (i : ℕ) (e : RowTree) → entry_differences L L i i e e ≡ []
  no-entry i e =
      none-both _ _ (no-text _ _ e.id) (none-both _ _ (none-either (is_called e) _ (no-text line.Path (codes "path") e.path)) (no-kind i e))

  as_called-none : (e : RowTree) (ds : List Difference) → ds ≡ [] → as_called L L e ds ≡ []
  as_called-none e ds is = ap (as_called L L e) is ∙ by (is_called_locally L L e)
    where
      by : (b : Bool) → (if b then map (λ (d : Difference). record d { weights = eased d.weights }) [] else []) ≡ []
      by true = refl
      by false = refl

  no-differences : (i : ℕ) (e : RowTree) → differences L L i i e e ≡ []
  unfolding differences
  no-differences i e = as_called-none e (entry_differences L L i i e e) (no-entry i e)

  -- ---- each entry belongs to itself, or is told of nowhere

  told-with-own : (i : ℕ) (e : RowTree) → slice_get L i ≡ Some e → told_with L L i e i ≡ []
  told-with-own i e at =
      ap (λ (o : Option RowTree). map (change_at (Some i) (Some i)) (option_map_or (differences L L i i e) o [])) at
      ∙ ap (map (change_at (Some i) (Some i))) (no-differences i e)

  -- what is told of an entry, by the one to which it belongs and by what is told where it belongs to none
  old-by : ℕ → RowTree → Option ℕ → List Difference → List Change
  old-by i e found gone = elim found [ None ↦ map (change_at (Some i) None) gone | Some k ↦ told_with L L i e k ]

  no-called : (i : ℕ) (e : RowTree) → slice_get L i ≡ Some e → (place : Option ℕ) → interface_of L e ≡ place
      → old-by i e
      (option_and_then (λ (o : ℕ). if is_own_offer L o i e then option_and_then (λ (p : ℕ). offered L p (name_of e.path)) (joined L L o) else None) place)
      (option_map_or (called_gone L L i e) place []) ≡ []
  unfolding old-by
  no-called i e at None is = refl
  no-called i e at (Some o) is = by (is_own_offer L o i e) refl
    where
      by : (b : Bool) → is_own_offer L o i e ≡ b
          → old-by i e (if b then option_and_then (λ (p : ℕ). offered L p (name_of e.path)) (joined L L o) else None)
          (if b && is_some (joined L L o) then as_called L L e (told line.CalledGone [] turn.Gone) else []) ≡ []
      by false own = refl
      by true own =
          let there = interface-found L (scope_of e.path) o is in
          let itself = own-joined L o there.0 there.1 (interface-uncalled there.0 there.2) in
          let offer : offered L o (name_of e.path) ≡ Some i = same_option nat_eq same_number (offered L o (name_of e.path)) (Some i) own in
          ap (λ (j : Option ℕ). old-by i e (option_and_then (λ (p : ℕ). offered L p (name_of e.path)) j) (if is_some j then as_called L L e (told line.CalledGone [] turn.Gone) else [])) itself
          ∙ ap (λ (k : Option ℕ). old-by i e k (as_called L L e (told line.CalledGone [] turn.Gone))) offer
          ∙ told-with-own i e at

  no-old : (i : ℕ) (e : RowTree) → slice_get L i ≡ Some e → told_old L L i e ≡ []
  unfolding old-by partner gone_differences
  no-old i e at =
      ap (λ (o : Option RowTree). old-by i e (option_and_then (λ (f : RowTree). if is_called f then called_partner L L i f else joined L L i) o) (gone_differences L L i e)) at
      ∙ by (is_called e) refl
    where
      by : (b : Bool) → is_called e ≡ b
          → old-by i e (if b then called_partner L L i e else joined L L i)
          (if b then option_map_or (called_gone L L i e) (interface_of L e) [] else told (gone_line e.kind) [] turn.Gone) ≡ []
      by true is = no-called i e at (interface_of L e) refl
      by false is =
          ap (λ (k : Option ℕ). old-by i e k (told (gone_line e.kind) [] turn.Gone)) (own-joined L i e at is) ∙ told-with-own i e at

  -- ---- nothing is new

  find-more : (test : ℕ → Bool) (xs ys : List ℕ) (j k : ℕ) → slice_get xs j ≡ Some k → test k ≡ true → is_some (find test (xs ++ ys)) ≡ true
  find-more test [] ys j k at is = cc
  find-more test (x ∷ xs) ys zero k at is = ap (λ (b : Bool). is_some (cond b (Some x) (find test (xs ++ ys)))) (ap test (same_Some x k at) ∙ is)
  find-more test (x ∷ xs) ys (suc j) k at is = by (test x) (find-more test xs ys j k at is)
    where
      by : (b : Bool) → is_some (find test (xs ++ ys)) ≡ true → is_some (cond b (Some x) (find test (xs ++ ys))) ≡ true
      by true h = refl
      by false h = h

  own-offered : (o k : ℕ) (f : RowTree) → slice_get L k ≡ Some f → is_called f ≡ true → interface_of L f ≡ Some o → is_offered L o (name_of f.path) ≡ true
  unfolding offered offers called_in
  own-offered o k f at called is =
      let test = λ (e : RowTree). is_called e && option_eq nat_eq (interface_of L e) (Some o) in
      let passes : test f ≡ true = ap₂ (λ (a : Bool) (i : Option ℕ). a && option_eq nat_eq i (Some o)) called is ∙ nat_eq_equiv.refl o in
      let own = own-place test 0 k L f at passes in
      let there : 0 + k ≡ k = omega arith in
      let name : bytes_eq (name_of f.path) (name_at L k) ≡ true =
      ap (λ (o : Option RowTree). bytes_eq (name_of f.path) (name_of (option_map_or (λ (e : RowTree). e.path) o []))) at ∙ own-bytes (name_of f.path)
      in
      find-more (λ (n : ℕ). bytes_eq (name_of f.path) (name_at L n)) (places_where test L) (flat_map (called_in L) (ancestors L o))
      (length (filter test (take k L))) k (own ∙ ap Some there) name

  no-added : (k : ℕ) (f : RowTree) → slice_get L k ≡ Some f → added_differences L L k f ≡ []
  unfolding added_differences
  no-added k f at = by (is_called f) refl
    where
      called : (place : Option ℕ) → interface_of L f ≡ place → is_called f ≡ true → option_map_or (called_new L L f) (option_and_then (joined L L) place) [] ≡ []
      called None is h = refl
      called (Some o) is h =
          let there = interface-found L (scope_of f.path) o is in
          let itself = own-joined L o there.0 there.1 (interface-uncalled there.0 there.2) in
          ap (λ (j : Option ℕ). option_map_or (called_new L L f) j []) itself ∙ none-unless (is_offered L o (name_of f.path)) _ (own-offered o k f at h is)

      by : (b : Bool) → is_called f ≡ b
          → (if b then option_map_or (called_new L L f) (option_and_then (joined L L) (interface_of L f)) []
          else (if is_some (joined L L k) then [] else told line.EntryNew [] turn.New)) ≡ []
      by true is = called (interface_of L f) refl is
      by false is = ap (λ (j : Option ℕ). if is_some j then [] else told line.EntryNew [] turn.New) (own-joined L k f at is)

  no-new : (k : ℕ) (f : RowTree) → slice_get L k ≡ Some f → told_new L L k f ≡ []
  no-new k f at = ap (map (change_at None (Some k))) (no-added k f at)

pub changes-own : (L : List RowTree) → changes L L ≡ []
changes-own L =
    let at-zero : (i m : ℕ) (e : RowTree) → m ≡ 0 + i → slice_get L i ≡ Some e → slice_get L m ≡ Some e = λ i m e is at. (let same : m ≡ i = omega (arith, is) in ap (slice_get L) same ∙ at) in
    let old = none-told (told_old L L) 0 L (λ i m e is at. no-old L m e (at-zero i m e is at)) in
    let new = none-told (told_new L L) 0 L (λ i m e is at. no-new L m e (at-zero i m e is at)) in
    ap₂ (λ (a b : List Change). a ++ b) old new
