-- Types without aliases: what is no alias stays, and an alias is what it names, with the layers around it.
use Rattle.std.proofs.Common.{◌≡◌, ◌≢◌, ◌∙◌, ◌<◌, ◌≤◌, ℕ, zero, suc, Bool, List, None, Option, Some, ap, append_assoc, arith, false, if◌then◌else◌, length, nat_eq, nat_lt, refl, sym, take, true}
use Rattle.std.specs.List.{slice_get}
use Rattle.std.specs.Option.{option_and_then, option_eq, option_map, option_map_or}
use Rattle.std.specs.Cmp.{nat_eq_equiv}
use Rattle.std.proofs.lemmas.Bool.{false≢true}
use Rattle.std.proofs.lemmas.Bool.Decides.{nat_tests}
use Rattle.std.proofs.lemmas.Option.{same_Some, slice_get_within}
use Rattle.idl_base.specs.Exact.{same_number, same_option}
use Rattle.idl_changes.specs.Listing.{alias_at, alias_of}
use Rattle.idl_changes.specs.Plain.{around, named_by, opened, opened_before, plain}
use Rattle.idl_changes.specs.Speaks.{IsDeclared}
use Rattle.idl_changes.specs.Tables.{each, plain_alias}
use Rattle.idl_changes.proofs.TableLemmas.{slice_get-each, take-past, take-within}
use Rattle.idl_repo.specs.declared.details.row_tree.RowTree.{RowTree}
use Rattle.idl_repo.specs.declared.details.type_tree.LayeredType.{LayeredType}

module _ (L : List RowTree) where
  -- a type names no alias
  abbrev pub NamesNone : LayeredType → Type 0
  NamesNone t = (n : ℕ) → named_by L t.element ≡ Some n → alias_at L n ≡ None

  opened-none : (n : ℕ) (t : LayeredType) → NamesNone t → opened L n t ≡ t
  opened-none n t none = by (option_eq nat_eq (named_by L t.element) (Some n)) refl
    where
      by : (b : Bool) → option_eq nat_eq (named_by L t.element) (Some n) ≡ b → (if b then option_map_or (around t) (alias_at L n) t else t) ≡ t
      by false e = refl
      by true e =
          let names = same_option nat_eq same_number (named_by L t.element) (Some n) e in
          ap (λ (o : Option LayeredType). option_map_or (around t) o t) (none n names)

  opened_before-none : (z : ℕ) (t : LayeredType) → NamesNone t → opened_before L z t ≡ t
  opened_before-none zero t none = refl
  opened_before-none (suc z) t none = ap (opened_before L z) (opened-none z t none) ∙ opened_before-none z t none

  pub plain-none : (t : LayeredType) → NamesNone t → plain L t ≡ t
  unfolding plain
  plain-none t none = opened_before-none (length L) t none

  -- of one that names the alias at a place
  opened-there : (j : ℕ) (t u : LayeredType) → named_by L t.element ≡ Some j → alias_at L j ≡ Some u → opened L j t ≡ around t u
  opened-there j t u names is =
      let found : option_eq nat_eq (named_by L t.element) (Some j) ≡ true = ap (λ (o : Option ℕ). option_eq nat_eq o (Some j)) names ∙ nat_eq_equiv.refl j in
      ap (λ (b : Bool). if b then option_map_or (around t) (alias_at L j) t else t) found ∙ ap (λ (o : Option LayeredType). option_map_or (around t) o t) is

  opened-elsewhere : (n j : ℕ) (t : LayeredType) → named_by L t.element ≡ Some j → j ≢ n → opened L n t ≡ t
  opened-elsewhere n j t names other = by (option_eq nat_eq (named_by L t.element) (Some n)) refl
    where
      by : (b : Bool) → option_eq nat_eq (named_by L t.element) (Some n) ≡ b → (if b then option_map_or (around t) (alias_at L n) t else t) ≡ t
      by false e = refl
      by true e = absurd (other (same_Some j n (sym names ∙ same_option nat_eq same_number (named_by L t.element) (Some n) e)))

  opened_before-there : (z j : ℕ) (t u : LayeredType) → named_by L t.element ≡ Some j → alias_at L j ≡ Some u → j < z → opened_before L z t ≡ opened_before L j (around t u)
  opened_before-there zero j t u names is within = absurd (omega (arith, within))
  opened_before-there (suc z) j t u names is within = by (nat_eq j z) refl (opened_before-there z j t u names is)
    where
      by : (b : Bool) → nat_eq j z ≡ b → (j < z → opened_before L z t ≡ opened_before L j (around t u)) → opened_before L z (opened L z t) ≡ opened_before L j (around t u)
      by true e rest =
          let same : z ≡ j = sym (same_number j z e) in
          ap (λ (n : ℕ). opened_before L n (opened L n t)) same ∙ ap (opened_before L j) (opened-there j t u names is)
      by false e rest =
          let other : j ≢ z = λ same. false≢true (sym e ∙ ap (nat_eq j) (sym same) ∙ nat_eq_equiv.refl j) in
          let below : j < z = omega (arith, within, other) in
          ap (opened_before L z) (opened-elsewhere z j t names other) ∙ rest below

  -- layers stay around
  around-around : (t u v : LayeredType) → around (around t u) v ≡ around t (around u v)
  around-around t u v = let layers = sym (append_assoc v.layers u.layers t.layers) in λ i. record { element = v.element; layers = layers i }

  opened-around : (n : ℕ) (t u : LayeredType) → opened L n (around t u) ≡ around t (opened L n u)
  opened-around n t u = by (option_eq nat_eq (named_by L u.element) (Some n)) (alias_at L n)
    where
      by : (b : Bool) (found : Option LayeredType)
          → (if b then option_map_or (around (around t u)) found (around t u) else around t u) ≡ around t (if b then option_map_or (around u) found u else u)
      by false found = refl
      by true None = refl
      by true (Some v) = around-around t u v

  opened_before-around : (z : ℕ) (t u : LayeredType) → opened_before L z (around t u) ≡ around t (opened_before L z u)
  opened_before-around zero t u = refl
  opened_before-around (suc z) t u = ap (opened_before L z) (opened-around z t u) ∙ opened_before-around z t (opened L z u)

  -- one that names what stands at a place or behind it
  opened_before-past : (z j : ℕ) (t : LayeredType) → named_by L t.element ≡ Some j → z ≤ j → opened_before L z t ≡ t
  opened_before-past zero j t names past = refl
  opened_before-past (suc z) j t names past =
      let other : j ≢ z = λ same. omega (arith, past, same) in
      let below : z ≤ j = omega (arith, past) in
      ap (opened_before L z) (opened-elsewhere z j t names other) ∙ opened_before-past z j t names below

  -- a type by the plain types of the aliases that stand before a place
  pub opened-among : (z : ℕ) (t : LayeredType) → opened_before L z t
      ≡ option_map_or (around t)
      (option_and_then (λ (n : ℕ). option_and_then (λ (plain : Option LayeredType). plain) (slice_get (take z (each (plain_alias L) L)) n)) (named_by L t.element)) t
  opened-among z t = by (named_by L t.element) refl
    where
      of-alias : (n : ℕ) → named_by L t.element ≡ Some n → n < z → (found : Option LayeredType) → alias_at L n ≡ found
          → opened_before L z t ≡ option_map_or (around t) (option_map (opened_before L n) found) t
      of-alias n e within None is = opened_before-none z t (λ m same. ap (alias_at L) (sym (same_Some n m (sym e ∙ same))) ∙ is)
      of-alias n e within (Some u) is = opened_before-there z n t u e is within ∙ opened_before-around n t u

      there : (n : ℕ) → named_by L t.element ≡ Some n → n < z → (entry : Option RowTree) → slice_get L n ≡ entry
          → opened_before L z t ≡ option_map_or (around t) (option_and_then (λ (plain : Option LayeredType). plain) (option_map (plain_alias L n) entry)) t
      there n e within None at = of-alias n e within None (ap (option_and_then alias_of) at)
      there n e within (Some f) at = of-alias n e within (alias_of f) (ap (option_and_then alias_of) at)

      place : (n : ℕ) → named_by L t.element ≡ Some n → (b : Bool) → nat_lt n z ≡ b
          → opened_before L z t ≡ option_map_or (around t) (option_and_then (λ (plain : Option LayeredType). plain) (slice_get (take z (each (plain_alias L) L)) n)) t
      place n e true lt =
          let within : n < z = grind (arith, nat_tests, lt) in
          let found = take-within (each (plain_alias L) L) z n within ∙ slice_get-each (plain_alias L) L n in
          there n e within (slice_get L n) refl
          ∙ sym (ap (λ (o : Option (Option LayeredType)). option_map_or (around t) (option_and_then (λ (plain : Option LayeredType). plain) o) t) found)
      place n e false lt =
          let past : z ≤ n = grind (arith, nat_tests, lt) in
          let none = take-past (each (plain_alias L) L) z n past in
          opened_before-past z n t e past
          ∙ sym (ap (λ (o : Option (Option LayeredType)). option_map_or (around t) (option_and_then (λ (plain : Option LayeredType). plain) o) t) none)

      by : (found : Option ℕ) → named_by L t.element ≡ found → opened_before L z t
          ≡ option_map_or (around t)
          (option_and_then (λ (n : ℕ). option_and_then (λ (plain : Option LayeredType). plain) (slice_get (take z (each (plain_alias L) L)) n)) found) t
      by None e = opened_before-none z t (λ n at. let no = sym e ∙ at in cc)
      by (Some n) e = place n e (nat_lt n z) refl

  pub alias-within : (j : ℕ) (u : LayeredType) → alias_at L j ≡ Some u → j < length L
  alias-within j u is = by (slice_get L j) refl is
    where
      by : (entry : Option RowTree) → slice_get L j ≡ entry → option_and_then alias_of entry ≡ Some u → j < length L
      by None e h = cc
      by (Some f) e h = slice_get_within L j f e

  -- an alias's own type is plain by what stands before it
  module _ (declared : IsDeclared L) where
    before-plain : (j : ℕ) (u : LayeredType) → alias_at L j ≡ Some u → opened_before L j u ≡ plain L u
    unfolding plain
    before-plain j u is = by (named_by L u.element) refl
      where
        none : (found : Option ℕ) → named_by L u.element ≡ found → ((n : ℕ) → found ≡ Some n → alias_at L n ≡ None) → opened_before L j u ≡ opened_before L (length L) u
        none found e h =
            let names : NamesNone u = λ n at. h n (sym e ∙ at) in
            opened_before-none j u names ∙ sym (opened_before-none (length L) u names)

        at : (n : ℕ) → named_by L u.element ≡ Some n → (v : Option LayeredType) → alias_at L n ≡ v → opened_before L j u ≡ opened_before L (length L) u
        at n names None other = none (Some n) names (λ m same. ap (alias_at L) (sym (same_Some n m same)) ∙ other)
        at n names (Some v) there =
            let below = declared.aliases j n u v is names there in
            opened_before-there j n u v names there below ∙ sym (opened_before-there (length L) n u v names there (alias-within n v there))

        by : (found : Option ℕ) → named_by L u.element ≡ found → opened_before L j u ≡ opened_before L (length L) u
        by None e = none None e (λ n same. cc)
        by (Some n) e = at n e (alias_at L n) refl

    pub plain-alias : (j : ℕ) (t u : LayeredType) → named_by L t.element ≡ Some j → alias_at L j ≡ Some u → plain L t ≡ around t (plain L u)
    unfolding plain
    plain-alias j t u names is =
        opened_before-there (length L) j t u names is (alias-within j u is) ∙ opened_before-around j t u ∙ ap (around t) (before-plain j u is)
