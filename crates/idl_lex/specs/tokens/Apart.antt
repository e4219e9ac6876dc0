-- Tokens apart from their places.
use Rattle.std.specs.Prelude.{List, [], ◌∷◌}
use Rattle.idl_lex.specs.tokens.Tokens.{Token}
use Rattle.idl_lex.specs.declared.tokens.chunk_tokens.TokenPlace.{TokenPlace}
use Rattle.idl_lex.specs.declared.tokens.token.PlacedToken.{PlacedToken}

-- a token at its place
abbrev pub placed_at : Token → TokenPlace → PlacedToken
placed_at token place =
    record {
      token = token;
      line = place.line;
      starts_line = place.starts_line;
      follows_word = place.follows_word;
    }

-- tokens at their places, as many as there are of both
abbrev pub placed : List Token → List TokenPlace → List PlacedToken
placed [] places = []
placed (t ∷ tokens) [] = []
placed (t ∷ tokens) (p ∷ places) = placed_at t p ∷ placed tokens places

-- where a token stands
abbrev pub place_of : PlacedToken → TokenPlace
place_of t =
    record { line = t.line; starts_line = t.starts_line; follows_word = t.follows_word }
