-- What the steps of walks through bases and typedefs ask, and what is asked from a scope outward.
use Rattle.std.specs.Prelude.{ℕ, List, [], ◌∷◌, Option, None, Some}
use Rattle.idl_env.specs.Facts.{entity_key}
use Rattle.idl_env.specs.declared.answering.answer.Answer.{Answer}
use Rattle.idl_env.specs.declared.answering.answer.Answer.TheVariants.{Known}
use Rattle.idl_env.specs.declared.answering.steps.Walked.{Walked}
use Rattle.idl_env.specs.declared.answering.steps.Walked.TheVariants.{Behind, Entered, Named, Outward}
use Rattle.idl_env.specs.declared.keys.key.Key.{Key}
use Rattle.idl_env.specs.declared.keys.key.Key.TheVariants.{Declared, Typeprefix}

-- the path of the entity that is answered, and of what is no entity that of the global scope
abbrev pub path_of : Answer → List (List ℕ)
path_of (Known e) = e.path
path_of answer = []

-- what is asked for typeprefixes from a scope outward, where none has one
abbrev pub entries_outward : {A : Type 0} → List (List ℕ) → List (Key × Option A)
entries_outward [] = []
entries_outward (name ∷ scope) = (Typeprefix (name ∷ scope), None) ∷ entries_outward scope

-- what is asked where this is answered, and how it is answered
abbrev pub entries_walked : Walked → Answer → List (Key × Option Answer)
entries_walked (Entered n) a =
    (Declared n (path_of a), None) ∷ (entity_key (path_of a), Some a) ∷ []
entries_walked (Named n) a = (Declared n (path_of a), None) ∷ []
entries_walked Behind a = (entity_key (path_of a), Some a) ∷ []
entries_walked (Outward scope) a = entries_outward scope
