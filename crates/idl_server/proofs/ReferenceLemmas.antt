-- Places of names, one token after another, and what is told of them.
use Rattle.std.proofs.Common.{◌≡◌, ◌∙◌, ◌+◌, ◌<◌, ◌++◌, ℕ, Bool, true, false, cond, List, [], ◌∷◌, ap, append-nil, get_or, length, map, refl, subst, sym, take}
use Rattle.std.proofs.lemmas.List.{map-append, take_more}
use Rattle.std.proofs.lemmas.List.Elements.{filter-append}
use Rattle.std.proofs.lemmas.List.Sums.{fold-append}
use Rattle.std.specs.List.{filter, fold}
use Rattle.serde_json.specs.Data.{Data}
use Rattle.serde_json.specs.View.{view}
use Rattle.serde_json.specs.declared.value.Value.{Value}
use Rattle.idl_project.specs.idl_sources.idl_root.declared.compiling.places.SitedToken.{SitedToken}
use Rattle.idl_server.specs.References.{AreAdded, place_of, with_place}
use Rattle.idl_server.specs.declared.references.FileRange.{FileRange}
use Rattle.idl_server.specs.declared.references.NamedPlaces.{NamedPlaces}

pub added-none : (n : NamedPlaces) → AreAdded [] n n
added-none n = record { files = refl; encoding = refl; places = refl }

-- tokens behind others
pub added-more : (xs ys : List SitedToken) (a b c : NamedPlaces) → AreAdded xs a b → AreAdded ys b c → AreAdded (xs ++ ys) a c
added-more xs ys a b c first second =
    let place : SitedToken → FileRange = place_of a.encoding a.files.project in
    record {
      files = second.files ∙ first.files;
      encoding = second.encoding ∙ first.encoding;
      places =
          second.places ∙ (λ i. fold with_place (first.places i) (map (place_of (first.encoding i) (first.files i).project) ys))
          ∙ sym (fold-append with_place a.places.keys (map place xs) (map place ys))
          ∙ ap (fold with_place a.places.keys) (sym (map-append place xs ys));
    }

-- ---- names that pass a test

module _ {X : Type 0} (f : X → SitedToken) (p : X → Bool) (xs : List X) (i : ℕ) (one : X) (within : i < length xs) (is : one ≡ get_or xs i one) (a b : NamedPlaces)
    (are : AreAdded (map f (filter p (take i xs))) a b) where
  names-next : map f (filter p (take (i + 1) xs)) ≡ map f (filter p (take i xs)) ++ map f (filter p (one ∷ []))
  names-next =
      ap (λ (ys : List X). map f (filter p ys)) (take_more xs i one within ∙ ap (λ (y : X). take i xs ++ y ∷ []) (sym is))
      ∙ ap (map f) (filter-append p (take i xs) (one ∷ [])) ∙ map-append f (filter p (take i xs)) (filter p (one ∷ []))

  pub added-here : (c : NamedPlaces) → p one ≡ true → AreAdded (f one ∷ []) b c → AreAdded (map f (filter p (take (i + 1) xs))) a c
  added-here c passes more =
      subst (λ (tokens : List SitedToken). AreAdded tokens a c)
      (sym (names-next ∙ ap (λ (t : Bool). map f (filter p (take i xs)) ++ map f (cond t (one ∷ []) [])) passes)) (added-more (map f (filter p (take i xs))) (f one ∷ []) a b c are more)

  pub added-past : p one ≡ false → AreAdded (map f (filter p (take (i + 1) xs))) a b
  added-past fails =
      subst (λ (tokens : List SitedToken). AreAdded tokens a b)
      (sym (names-next ∙ ap (λ (t : Bool). map f (filter p (take i xs)) ++ map f (cond t (one ∷ []) [])) fails ∙ append-nil (map f (filter p (take i xs))))) are

-- ---- what is told

module _ {X : Type 0} (g : X → Data) (xs : List X) (i : ℕ) (one : X) (within : i < length xs) (is : one ≡ get_or xs i one) (values : List Value) where
  ones-next : take (i + 1) xs ≡ take i xs ++ one ∷ []
  ones-next = take_more xs i one within ∙ ap (λ (y : X). take i xs ++ y ∷ []) (sym is)

  pub told-next : (after : List Value) (value : Value) → after ≡ values ++ value ∷ [] → view value ≡ g one → map view values ≡ map g (take i xs) → map view after ≡ map g (take (i + 1) xs)
  told-next after value pushed told so =
      ap (map view) pushed ∙ map-append view values (value ∷ []) ∙ (λ j. so j ++ told j ∷ []) ∙ sym (ap (map g) ones-next ∙ map-append g (take i xs) (one ∷ []))

  module _ (p : X → Bool) (so : map view values ≡ map g (filter p (take i xs))) where
    told-more : map g (filter p (take (i + 1) xs)) ≡ map g (filter p (take i xs)) ++ map g (filter p (one ∷ []))
    told-more =
        ap (λ (ys : List X). map g (filter p ys)) ones-next ∙ ap (map g) (filter-append p (take i xs) (one ∷ [])) ∙ map-append g (filter p (take i xs)) (filter p (one ∷ []))

    pub told-here : (after : List Value) (value : Value) → after ≡ values ++ value ∷ [] → view value ≡ g one → p one ≡ true → map view after ≡ map g (filter p (take (i + 1) xs))
    told-here after value pushed told passes =
        ap (map view) pushed ∙ map-append view values (value ∷ []) ∙ (λ j. so j ++ told j ∷ [])
        ∙ sym (told-more ∙ ap (λ (t : Bool). map g (filter p (take i xs)) ++ map g (cond t (one ∷ []) [])) passes)

    pub told-past : p one ≡ false → map view values ≡ map g (filter p (take (i + 1) xs))
    told-past fails =
        so ∙ sym (told-more ∙ ap (λ (t : Bool). map g (filter p (take i xs)) ++ map g (cond t (one ∷ []) [])) fails ∙ append-nil (map g (filter p (take i xs))))
