-- How the tokens of a text are kept: by runs.
use Rattle.std.specs.Prelude.{ℕ, ◌+◌, List, [], ◌∷◌, flat_map, length}
use Rattle.idl_lex.specs.tokens.Tokens.{Token}

-- the tokens of runs, end to end
abbrev pub tokens_of : List (List Token) → List Token
tokens_of runs = flat_map (λ run. run) runs

-- how many tokens are before each, where so many are before the first
abbrev pub starts_of : ℕ → List (List Token) → List ℕ
starts_of n [] = []
starts_of n (run ∷ runs) = n ∷ starts_of (n + length run) runs
