-- What an entry asks, as the table of LANGUAGE tells it: which keys, over any answers.
use Rattle.std.specs.Prelude.{◌≡◌, ◌⊎◌, ℕ, List, ◌∷◌, Option, Some, Contains}
use Rattle.idl_asked.specs.Ids.{AsksId}
use Rattle.idl_entity.specs.declared.entity.Entity.{Entity}
use Rattle.idl_env.specs.Facts.{entity_in, entity_key}
use Rattle.idl_env.specs.declared.answering.answer.Answer.{Answer}
use Rattle.idl_env.specs.declared.keys.key.Key.{Key}
use Rattle.idl_repo.specs.Referred.{referred}

-- what is declared at its path; and, where something is, its id and each that its row refers to
abbrev pub AsksEntry : (Key → Option Answer) → List (List ℕ) → Key → Type 0
AsksEntry answers path k =
    (k ≡ entity_key path)
    ⊎ ((e : Entity) × (entity_in (answers (entity_key path)) ≡ Some e)
    × (p : List (List ℕ)) × Contains (e.path ∷ referred e.kind e) p × AsksId answers p k)
