-- Tokens apart from their places.
use Rattle.std.proofs.Common.{◌≡◌, ◌∙◌, ◌<◌, ◌++◌, ◌∷◌, ℕ, List, [], suc, get_or, length, map, refl, ap, arith}
use Rattle.std.proofs.lemmas.List.{get_or-map}
use Rattle.idl_lex.specs.tokens.Apart.{place_of, placed, placed_at}
use Rattle.idl_lex.specs.tokens.Tokens.{Token, tokens_in}
use Rattle.idl_lex.specs.declared.tokens.chunk_tokens.TokenPlace.{TokenPlace}
use Rattle.idl_lex.specs.declared.tokens.token.PlacedToken.{PlacedToken}

pub length-placed : (tokens : List Token) (places : List TokenPlace) → length places ≡ length tokens → length (placed tokens places) ≡ length tokens
length-placed [] places e = refl
length-placed (t ∷ tokens) [] e = absurd (omega (arith, e))
length-placed (t ∷ tokens) (p ∷ places) e = ap (λ n. suc n) (length-placed tokens places (omega (arith, e)))

-- the tokens without their places
pub tokens_in-placed : (tokens : List Token) (places : List TokenPlace) → length places ≡ length tokens → tokens_in (placed tokens places) ≡ tokens
tokens_in-placed [] places e = refl
tokens_in-placed (t ∷ tokens) [] e = absurd (omega (arith, e))
tokens_in-placed (t ∷ tokens) (p ∷ places) e = ap (λ ts. t ∷ ts) (tokens_in-placed tokens places (omega (arith, e)))

-- and the places alone
pub places_in-placed : (tokens : List Token) (places : List TokenPlace) → length places ≡ length tokens → map place_of (placed tokens places) ≡ places
places_in-placed [] [] e = refl
places_in-placed [] (p ∷ places) e = absurd (omega (arith, e))
places_in-placed (t ∷ tokens) [] e = absurd (omega (arith, e))
places_in-placed (t ∷ tokens) (p ∷ places) e = ap (λ ps. p ∷ ps) (places_in-placed tokens places (omega (arith, e)))

-- one more
pub placed-push : (tokens : List Token) (places : List TokenPlace) (t : PlacedToken) → length places ≡ length tokens
    → placed (tokens ++ t.token ∷ []) (places ++ place_of t ∷ []) ≡ placed tokens places ++ t ∷ []
placed-push [] [] t e = refl
placed-push [] (p ∷ places) t e = absurd (omega (arith, e))
placed-push (u ∷ tokens) [] t e = absurd (omega (arith, e))
placed-push (u ∷ tokens) (p ∷ places) t e = ap (λ ts. placed_at u p ∷ ts) (placed-push tokens places t (omega (arith, e)))

-- a token that is read with its place
pub placed_at-read : (all : List PlacedToken) (i : ℕ) (token : Token) (place other : TokenPlace) → i < length all
    → token ≡ get_or (tokens_in all) i token → place ≡ get_or (map place_of all) i other → placed_at token place ≡ get_or all i (placed_at token place)
placed_at-read all i token place other lt token_is place_is =
    let d = placed_at token place in
    (λ k. placed_at ((token_is ∙ get_or-map (λ (t : PlacedToken). t.token) all i d token lt) k) ((place_is ∙ get_or-map place_of all i d other lt) k))
