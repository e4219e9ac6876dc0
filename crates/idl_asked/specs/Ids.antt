-- What is asked for an id, as the table of LANGUAGE tells it: which keys, over any answers.
use Rattle.std.specs.Prelude.{◌≡◌, ◌⊎◌, ℕ, List, [], ◌∷◌, Option, None}
use Rattle.idl_env.specs.Facts.{typeprefix_in}
use Rattle.idl_env.specs.declared.answering.answer.Answer.{Answer}
use Rattle.idl_env.specs.declared.keys.key.Key.{Key}
use Rattle.idl_env.specs.declared.keys.key.Key.TheVariants.{IdOf, Typeprefix}

-- the typeprefixes of what is declared at a path and of the scopes around it but the global one,
-- up to the first that there is
abbrev pub AsksTypeprefix : (Key → Option Answer) → List (List ℕ) → Key → Type 0
AsksTypeprefix answers [] k = ⊥
AsksTypeprefix answers (name ∷ scope) k =
    (k ≡ Typeprefix (name ∷ scope))
    ⊎ ((typeprefix_in (answers (Typeprefix (name ∷ scope))) ≡ None)
    × AsksTypeprefix answers scope k)

-- the id of what is declared at a path, and with it these typeprefixes
abbrev pub AsksId : (Key → Option Answer) → List (List ℕ) → Key → Type 0
AsksId answers path k = (k ≡ IdOf path) ⊎ AsksTypeprefix answers path k
