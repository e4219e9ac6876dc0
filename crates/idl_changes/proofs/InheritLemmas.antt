-- What is inherited goes on along bases, and so does what is offered.
use Rattle.std.proofs.Common.{◌≡◌, ◌∙◌, ◌&&◌, [], ℕ, List, None, Option, Some, ap, arith, inl, inr, is_some, length, nat_eq, refl, subst, sym, true}
use Rattle.std.specs.Cmp.Lexicographic.{bytes_decides}
use Rattle.std.specs.List.{slice_get}
use Rattle.std.specs.Option.{option_eq, option_map_or}
use Rattle.std.specs.Str.{bytes_eq}
use Rattle.idl_base.specs.Exact.{both, same_number, same_option}
use Rattle.idl_changes.specs.Listing.{interface_of, is_called, name_at, name_of, places_where}
use Rattle.idl_changes.specs.Offered.{ancestors, called_in, inherits, is_offered, is_reached, offered, offers}
use Rattle.idl_changes.proofs.AncestorLemmas.{has-last_first, last_first-has, reached-on}
use Rattle.idl_changes.proofs.HasLemmas.{Has, at-has, flat-has, found-passes, has-either, has-flat, has-rest, passes-found, passing-place}
use Rattle.idl_repo.specs.declared.details.row_tree.RowTree.{RowTree}

module _ (L : List RowTree) where
  -- what an inherited one inherits is inherited
  pub ancestors-up : (k n m : ℕ) → Has (ancestors L k) n → Has (ancestors L n) m → Has (ancestors L k) m
  unfolding ancestors
  ancestors-up k n m is above =
      let end = length L in
      let first = last_first-has (is_reached L end k) end n is in
      let rest = last_first-has (is_reached L end n) end m above in
      has-last_first (is_reached L end k) end m rest.0 (reached-on L end k n m first.0 first.1 rest.1)

  pub inherits-up : (k n m : ℕ) → Has (inherits L k) n → Has (inherits L n) m → Has (inherits L k) m
  inherits-up k n m is above = elim (has-either k n (ancestors L k) is) [
    | inl e ↦ subst (λ (p : ℕ). Has (inherits L p) m) e above
    | inr g ↦ elim (has-either n m (ancestors L n) above) [
      | inl e ↦ has-rest k m (ancestors L k) (subst (λ (p : ℕ). Has (ancestors L k) p) (sym e) g)
      | inr h ↦ has-rest k m (ancestors L k) (ancestors-up k n m g h)
    ]
  ]

  -- what is offered
  pub offers-up : (k n h : ℕ) → Has (inherits L k) n → Has (offers L n) h → Has (offers L k) h
  unfolding offers
  offers-up k n h is own =
      let there = flat-has (called_in L) (inherits L n) h own in
      has-flat (called_in L) (inherits L k) there.0 h (inherits-up k n there.0 is there.1) there.2

  pub offers-own : (k n h : ℕ) → Has (inherits L k) n → Has (called_in L n) h → Has (offers L k) h
  unfolding offers
  offers-own k n h is own = has-flat (called_in L) (inherits L k) n h is own

  pub offers-from : (k h : ℕ) → Has (offers L k) h → (n : ℕ) × Has (inherits L k) n × Has (called_in L n) h
  unfolding offers
  offers-from k h is = flat-has (called_in L) (inherits L k) h is

  -- what is offered under a name is offered, and has the name; where something of the name is offered, one is
  pub offered-there : (k h : ℕ) (name : List ℕ) → offered L k name ≡ Some h → Has (offers L k) h × (name ≡ name_at L h)
  unfolding offered
  offered-there k h name is =
      let found = found-passes (λ (n : ℕ). bytes_eq name (name_at L n)) (offers L k) h is in
      (found.0, (bytes_decides name (name_at L h)).0 found.1)

  pub there-offered : (k h : ℕ) → Has (offers L k) h → is_offered L k (name_at L h) ≡ true
  unfolding offered
  there-offered k h is = passes-found (λ (n : ℕ). bytes_eq (name_at L h) (name_at L n)) (offers L k) h is ((bytes_decides (name_at L h) (name_at L h)).1 refl)

  pub is_offered-up : (k n : ℕ) (name : List ℕ) → Has (inherits L k) n → is_offered L n name ≡ true → is_offered L k name ≡ true
  is_offered-up k n name is offer = by (offered L n name) refl offer
    where
      by : (found : Option ℕ) → offered L n name ≡ found → is_some found ≡ true → is_offered L k name ≡ true
      by None e h = cc
      by (Some g) e h =
          let there = offered-there n g name e in
          ap (is_offered L k) there.1 ∙ there-offered k g (offers-up k n g is there.0)

  -- what is called in a scope
  pub called-there : (j h : ℕ) → Has (called_in L j) h → (f : RowTree) × (slice_get L h ≡ Some f) × (is_called f ≡ true) × (interface_of L f ≡ Some j)
  unfolding called_in
  called-there j h is =
      let test = λ (e : RowTree). is_called e && option_eq nat_eq (interface_of L e) (Some j) in
      let at = at-has (places_where test L) h is in
      let place = passing-place test 0 L at.0 h at.1 in
      let parts = both (is_called place.1) (option_eq nat_eq (interface_of L place.1) (Some j)) place.4 in
      let same : h ≡ place.0 = omega (arith, place.2) in
      (place.1, ap (slice_get L) same ∙ place.3, parts.0, same_option nat_eq same_number (interface_of L place.1) (Some j) parts.1)

  pub name_at-is : (h : ℕ) (f : RowTree) → slice_get L h ≡ Some f → name_at L h ≡ name_of f.path
  name_at-is h f at = ap (λ (o : Option RowTree). name_of (option_map_or (λ (e : RowTree). e.path) o [])) at
