-- Where a list of tokens stops being the beginning of a tree.
use Rattle.std.specs.Prelude.{◌≡◌, ℕ, List, [], ◌∷◌, ◌++◌, length}
use Rattle.idl_tree.specs.Lexeme.{Lexeme}

-- some tree's spelling starts with these tokens
abbrev pub Begins : {A : Type 0} → (A → List Lexeme) → List Lexeme → Type 0
Begins {A} spell front = (tree : A) × (more : List Lexeme) × (spell tree ≡ front ++ more)

-- No tree has this spelling. With so many tokens left, the tokens before are a beginning of one,
-- and through the next token they are none.
pub record IsFaultAt {A : Type 0} (spell : A → List Lexeme) (tokens : List Lexeme) (left : ℕ)
    : Type 0 where
  pub front : List Lexeme
  pub rest : List Lexeme
  pub parts : tokens ≡ front ++ rest
  pub count : length rest ≡ left
  pub begins : Begins spell front
  pub stops : (next : Lexeme) (more : List Lexeme) → rest ≡ next ∷ more
      → Begins spell (front ++ next ∷ []) → ⊥
  pub none : (tree : A) → spell tree ≡ tokens → ⊥
