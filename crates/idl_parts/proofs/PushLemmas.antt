-- Sites behind others, one after another.
use Rattle.std.proofs.Common.{◌≡◌, ◌∙◌, ℕ, ◌+◌, ◌<◌, ◌≤◌, List, [], ◌∷◌, ◌++◌, length, map, take, get_or, ap, sym, subst, append_assoc}
use Rattle.std.specs.List.{flat_map}
use Rattle.std.proofs.lemmas.List.{flat_map_more, map-append, take_more, take_all}
use Rattle.idl_parts.specs.Item.{Pushes, item_at, item_of, items}
use Rattle.idl_parts.specs.Part.{Part, Parts}
use Rattle.idl_parts.specs.declared.part.UnitPart.{UnitPart}
use Rattle.idl_tree.specs.Lexeme.{Lexemes}

-- some parts, and then others
pub pushes-append : (a b c : List UnitPart) (p q : Parts) → Pushes a b p → Pushes b c q → Pushes a c (p ++ q)
pushes-append a b c p q h g =
    g ∙ ap (λ front. front ++ items q) h
    ∙ append_assoc (map item_at a) (items p) (items q)
    ∙ ap (λ back. map item_at a ++ back) (sym (map-append _ p q))

-- an item more
pub pushes-step : {X : Type 0} (f : X → Parts) (xs : List X) (i : ℕ) (d : X) (a b c : List UnitPart) (p : Parts) → i < length xs
    → Pushes a b (p ++ flat_map f (take i xs)) → Pushes b c (f (get_or xs i d)) → Pushes a c (p ++ flat_map f (take (i + 1) xs))
pushes-step f xs i d a b c p lt h g =
    pushes-append a b c (p ++ flat_map f (take i xs)) (f (get_or xs i d)) h g
    ∙ ap (λ parts. map item_at a ++ items parts)
    (flat_map_more f p (take i xs) (get_or xs i d) ∙ ap (λ ys. p ++ flat_map f ys) (sym (take_more xs i d lt)))

-- all items
pub pushes-end : {X : Type 0} (f : X → Parts) (xs : List X) (i : ℕ) (a b : List UnitPart) (p : Parts) → length xs ≤ i
    → Pushes a b (p ++ flat_map f (take i xs)) → Pushes a b (p ++ flat_map f xs)
pushes-end f xs i a b p le h = h ∙ ap (λ ys. map item_at a ++ items (p ++ flat_map f ys)) (take_all i xs le)

-- one more site
pub pushes-one : (a b : List UnitPart) (site : UnitPart) (part : Part Lexemes) → b ≡ a ++ site ∷ [] → item_at site ≡ item_of part → Pushes a b (part ∷ [])
pushes-one a b site part h e = ap (λ sites. map item_at sites) h ∙ map-append item_at a (site ∷ []) ∙ ap (λ item. map item_at a ++ item ∷ []) e

-- an item more, which the loop has found there
pub pushes-turn : {X : Type 0} (f : X → Parts) (xs : List X) (i : ℕ) (x : X) (a b c : List UnitPart) (p : Parts) → i < length xs → x ≡ get_or xs i x
    → Pushes a b (p ++ flat_map f (take i xs)) → Pushes b c (f x) → Pushes a c (p ++ flat_map f (take (i + 1) xs))
pushes-turn f xs i x a b c p lt is h g = pushes-step f xs i x a b c p lt h (subst (λ y. Pushes b c (f y)) is g)

-- all items, and what follows
pub pushes-close : {X : Type 0} (f : X → Parts) (xs : List X) (i : ℕ) (a b c : List UnitPart) (p e : Parts) → length xs ≤ i
    → Pushes a b (p ++ flat_map f (take i xs)) → Pushes b c e → Pushes a c (p ++ (flat_map f xs ++ e))
pushes-close f xs i a b c p e le h g =
    pushes-append a b c (p ++ flat_map f xs) e (pushes-end f xs i a b p le h) g
    ∙ ap (λ parts. map item_at a ++ items parts) (append_assoc p (flat_map f xs) e)

-- the same behind two lists of parts
pub pushes-close_behind : {X : Type 0} (f : X → Parts) (xs : List X) (i : ℕ) (a b c : List UnitPart) (front middle p e : Parts) → length xs ≤ i
    → Pushes a b (front ++ (middle ++ (p ++ flat_map f (take i xs)))) → Pushes b c e
    → Pushes a c (front ++ (middle ++ (p ++ (flat_map f xs ++ e))))
pushes-close_behind f xs i a b c front middle p e le h g =
    let join : (z : Parts) → front ++ (middle ++ (p ++ z)) ≡ (front ++ (middle ++ p)) ++ z =
    λ z. ap (λ (w : Parts). front ++ w) (sym (append_assoc middle p z)) ∙ sym (append_assoc front (middle ++ p) z) in
    subst (λ (w : Parts). Pushes a c w) (sym (join (flat_map f xs ++ e)))
    (pushes-close f xs i a b c (front ++ (middle ++ p)) e le (subst (λ (w : Parts). Pushes a b w) (join (flat_map f (take i xs))) h) g)
