-- What an addition names, and where it leaves which answer.
use Rattle.std.specs.Prelude.{ℕ, List, [], ◌∷◌, if◌then◌else◌}
use Rattle.idl_entity.specs.Entity.{is_operation}
use Rattle.idl_entity.specs.Identity.{fixed_for, prefix_for}
use Rattle.idl_env.specs.Facts.{entity_key}
use Rattle.idl_env.specs.declared.additions.addition.Addition.{Addition}
use Rattle.idl_env.specs.declared.additions.addition.Addition.TheVariants.{Appears, Declares, Identifies, TypePrefixes, Uses, UsesFurther}
use Rattle.idl_env.specs.declared.answering.answer.Answer.{Answer}
use Rattle.idl_env.specs.declared.answering.answer.Answer.TheVariants.{Appeared, Identified, Known, Prefixed, Used}
use Rattle.idl_env.specs.declared.keys.key.Key.{Key}
use Rattle.idl_env.specs.declared.keys.key.Key.TheVariants.{IdOf, Introduced, Typeprefix}

-- the paths of the entity that an addition declares, if it does, and of its bases: each needs a turn
-- of a look-up
abbrev pub named_by : Addition → List (List (List ℕ))
named_by (Declares e) = e.path ∷ e.bases
named_by other = []

-- the path of the operation or attribute that it declares, if it does
abbrev pub operation_by : Addition → List (List (List ℕ))
operation_by (Declares e) = if is_operation e then e.path ∷ [] else []
operation_by other = []

-- the key at which it leaves an answer, and that answer
abbrev pub left_by : Addition → Key × Answer
left_by (Declares e) = (entity_key e.path, Known e)
left_by (Uses n path body) = (Introduced n path body, Used)
left_by (UsesFurther n path further) = (Introduced n path further.body, Used)
left_by (Appears path prefix) = (IdOf path, Appeared (prefix_for path prefix))
left_by (Identifies path fixed) = (IdOf path, Identified (fixed_for path fixed))
left_by (TypePrefixes path text) = (Typeprefix path, Prefixed text)
