-- The spelling of parts, one after another.
use Rattle.std.proofs.Common.{◌≡◌, ◌∙◌, List, [], ◌∷◌, ◌++◌, Option, None, Some, flat_map, map, refl, sym, ap}
use Rattle.std.proofs.lemmas.Grind.{flat_map-append}
use Rattle.idl_lex.specs.declared.kinds.mark.Mark.TheVariants.{Comma}
use Rattle.idl_parts.specs.Part.{Parts, all_parts, if_some, listed, punctuation, spell_part, spell_parts}
use Rattle.idl_tree.proofs.Many.{many_spell}
use Rattle.idl_tree.specs.Lexeme.{Lexemes, Punctuation}
use Rattle.idl_tree.specs.Several.{spell_all, spell_if, spell_listed}
use Rattle.idl_tree.specs.declared.several.Several.{Several}

-- some parts, and then others
pub spells-then : (p q : Parts) (a b : Lexemes) → spell_parts p ≡ a → spell_parts q ≡ b → spell_parts (p ++ q) ≡ a ++ b
spells-then p q a b h g = flat_map-append spell_part p q ∙ ap (λ (w : Lexemes). w ++ spell_parts q) h ∙ ap (λ (w : Lexemes). a ++ w) g

-- the parts of several things
pub spells-each : {X : Type 0} (f : X → Parts) (g : X → Lexemes) → ((x : X) → spell_parts (f x) ≡ g x) → (xs : List X) → spell_parts (flat_map f xs) ≡ flat_map g xs
spells-each f g each [] = refl
spells-each f g each (x ∷ xs) = spells-then (f x) (flat_map f xs) (g x) (flat_map g xs) (each x) (spells-each f g each xs)

pub spells-many : {S Y : Type 0} (f : Y → Parts) (g : Y → Lexemes) (v : S → Y) → ((s : S) → spell_parts (f (v s)) ≡ g (v s)) → (xs : List S)
    → spell_parts (flat_map f (map v xs)) ≡ many_spell g (map v xs)
spells-many f g v each [] = refl
spells-many f g v each (x ∷ xs) = spells-then (f (v x)) (flat_map f (map v xs)) (g (v x)) (many_spell g (map v xs)) (each x) (spells-many f g v each xs)

-- x+
pub spells-all : {X : Type 0} (f : X → Parts) (g : X → Lexemes) → ((x : X) → spell_parts (f x) ≡ g x) → (xs : Several X) → spell_parts (all_parts f xs) ≡ spell_all g xs
spells-all f g each xs = spells-then (f xs.first) (flat_map f xs.rest) (g xs.first) (flat_map g xs.rest) (each xs.first) (spells-each f g each xs.rest)

-- x/","
pub spells-listed : {X : Type 0} (f : X → Parts) (g : X → Lexemes) → ((x : X) → spell_parts (f x) ≡ g x) → (xs : Several X) → spell_parts (listed f xs) ≡ spell_listed g xs
spells-listed f g each xs =
    spells-then (f xs.first) (flat_map (λ x. punctuation Comma ∷ f x) xs.rest) (g xs.first) (flat_map (λ x. Punctuation Comma ∷ g x) xs.rest) (each xs.first)
    (spells-each (λ x. punctuation Comma ∷ f x) (λ x. Punctuation Comma ∷ g x) (λ x. ap (λ (w : Lexemes). Punctuation Comma ∷ w) (each x)) xs.rest)

-- [x]
pub spells-if : {X : Type 0} (f : X → Parts) (g : X → Lexemes) → ((x : X) → spell_parts (f x) ≡ g x) → (x : Option X) → spell_parts (if_some f x) ≡ spell_if g x
spells-if f g each None = refl
spells-if f g each (Some x) = each x

-- an operand, and more behind operators
pub spells-rank : {S Y : Type 0} (whole first : Parts) (spelled a : Lexemes) (f : Y → Parts) (g : Y → Lexemes) (v : S → Y) → ((s : S) → spell_parts (f (v s)) ≡ g (v s)) → (xs : List S)
    → whole ≡ first ++ flat_map f (map v xs)
    → spelled ≡ a ++ many_spell g (map v xs)
    → spell_parts first ≡ a
    → spell_parts whole ≡ spelled
spells-rank whole first spelled a f g v each xs e e2 h =
    ap spell_parts e ∙ spells-then first (flat_map f (map v xs)) a (many_spell g (map v xs)) h (spells-many f g v each xs) ∙ sym e2
