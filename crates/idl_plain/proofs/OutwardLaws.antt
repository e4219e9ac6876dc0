-- Paths and layers are told from the outermost on.
use Rattle.std.proofs.Common.{◌≡◌, ◌∙◌, ◌++◌, ◌∷◌, [], List, ap, append-nil, codes, drop, flat_map, map, refl, reverse, sym, ℕ}
use Rattle.std.proofs.lemmas.Grind.{flat_map-append, reverse_onto}
use Rattle.std.proofs.lemmas.List.{map-append}
use Rattle.idl_entity.specs.DataType.{arrays_of}
use Rattle.idl_entity.specs.Identity.{slashed}
use Rattle.idl_entity.specs.declared.data_type.Layer.{Layer}
use Rattle.idl_entity.specs.declared.data_type.Layer.TheVariants.{Array}
use Rattle.idl_repo.specs.Row.{path_text}
use Rattle.idl_repo.specs.TypeCode.{layer_word, layers_begin}
use Rattle.idl_source.specs.names.Path.{slashed as slashed_name}
use Rattle.idl_value.specs.Spelled.{escaped, path_word}

module _ {A B : Type 0} (g : A → List B) where
  last : (x : A) (xs : List A) → flat_map g (reverse (x ∷ xs)) ≡ flat_map g (reverse xs) ++ g x
  last x xs =
      ap (λ (l : List A). flat_map g l) (reverse_onto xs x [])
      ∙ flat_map-append g (reverse xs) (x ∷ [])
      ∙ ap (λ (l : List B). flat_map g (reverse xs) ++ l) (append-nil (g x))

  -- what tells a list without its first, and then the first
  backwards : (f : List A → List B) → f [] ≡ [] → ((x : A) (xs : List A) → f (x ∷ xs) ≡ f xs ++ g x) → (xs : List A) → f xs ≡ flat_map g (reverse xs)
  backwards f none more [] = none
  backwards f none more (x ∷ xs) = more x xs ∙ ap (λ (l : List B). l ++ g x) (backwards f none more xs) ∙ sym (last x xs)

pub words-told : (path : List (List ℕ)) → path_word path ≡ flat_map (λ n. codes "::" ++ escaped n) (reverse path)
words-told = backwards (λ (n : List ℕ). codes "::" ++ escaped n) path_word refl (λ x xs. refl)

pub layers-told : (layers : List Layer) → layers_begin layers ≡ flat_map layer_word (reverse layers)
layers-told = backwards layer_word layers_begin refl (λ x xs. refl)

pub arrays-told : (lengths : List ℕ) → arrays_of lengths ≡ map (λ n. Array n) (reverse lengths)
arrays-told [] = refl
arrays-told (n ∷ ns) =
    ap (λ (l : List Layer). l ++ Array n ∷ []) (arrays-told ns)
    ∙ sym (ap (λ (l : List ℕ). map (λ n. Array n) l) (reverse_onto ns n []) ∙ map-append (λ n. Array n) (reverse ns) (n ∷ []))

-- ---- names with something between them

abbrev after_colons : List ℕ → List ℕ
after_colons n = codes "::" ++ n

between-colons : (name : List ℕ) (scope : List (List ℕ)) → flat_map after_colons (reverse (name ∷ scope)) ≡ codes "::" ++ path_text (name ∷ scope)
between-colons name [] = append-nil (codes "::" ++ name)
between-colons name (scope ∷ outer) =
    last after_colons name (scope ∷ outer)
    ∙ ap (λ (l : List ℕ). l ++ after_colons name) (between-colons scope outer)

pub texts-told : (path : List (List ℕ)) → path_text path ≡ drop 2 (flat_map (λ n. codes "::" ++ n) (reverse path))
texts-told [] = refl
texts-told (name ∷ scope) = sym (ap (λ (l : List ℕ). drop 2 l) (between-colons name scope))

abbrev after_slash : List ℕ → List ℕ
after_slash n = 47 ∷ n

between-slashes : (name : List ℕ) (scope : List (List ℕ)) → flat_map after_slash (reverse (name ∷ scope)) ≡ 47 ∷ slashed (name ∷ scope)
between-slashes name [] = append-nil (47 ∷ name)
between-slashes name (scope ∷ outer) =
    last after_slash name (scope ∷ outer)
    ∙ ap (λ (l : List ℕ). l ++ after_slash name) (between-slashes scope outer)

pub slashes-told : (path : List (List ℕ)) → slashed path ≡ drop 1 (flat_map (λ n. 47 ∷ n) (reverse path))
slashes-told [] = refl
slashes-told (name ∷ scope) = sym (ap (λ (l : List ℕ). drop 1 l) (between-slashes name scope))

pub names-told : (parts : List (List ℕ)) → slashed_name parts ≡ flat_map (λ p. 47 ∷ p) parts
names-told [] = refl
names-told (p ∷ parts) = ap (λ (l : List ℕ). 47 ∷ p ++ l) (names-told parts)
