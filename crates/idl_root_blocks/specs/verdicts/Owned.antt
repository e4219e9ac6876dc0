-- What is declared stands at its own key.
use Rattle.std.specs.Prelude.{◌≡◌, ℕ, List, Option, Some}
use Rattle.idl_entity.specs.declared.entity.Entity.{Entity}
use Rattle.idl_env.specs.Facts.{entity_in, entity_key}
use Rattle.idl_env.specs.declared.answering.answer.Answer.{Answer}
use Rattle.idl_env.specs.declared.keys.key.Key.{Key}
use Rattle.idl_env.specs.declared.keys.key.Key.TheVariants.{Declared}

abbrev pub AreOwned : (Key → Option Answer) → Type 0
AreOwned answers =
    (n : List ℕ) (path : List (List ℕ)) (e : Entity)
    → entity_in (answers (Declared n path)) ≡ Some e → entity_key e.path ≡ Declared n path
