-- What a unit asks first.
use Rattle.std.proofs.Common.{◌≡◌, ℕ, Option, Some, refl}
use Rattle.idl_check.specs.walk.Verdict.{verdict}
use Rattle.idl_memo.specs.Query.{first_asked}
use Rattle.idl_env.specs.declared.answering.answer.Answer.{Answer}
use Rattle.idl_env.specs.declared.keys.key.Key.{Key}
use Rattle.idl_env.specs.declared.keys.key.Key.TheVariants.{Cursor}
use Rattle.idl_unit.specs.declared.unit.UnitText.{UnitText}
use Rattle.idl_unit.specs.declared.unit.UnitText.TheVariants as unit

-- each asks which scopes are open
pub cursor_first : (turns : ℕ) (text : UnitText) (answers : Key → Option Answer)
    → first_asked (verdict turns text) answers ≡ Some (Cursor, answers Cursor)
unfolding verdict
cursor_first turns (unit.Tokens tokens) answers = refl
cursor_first turns (unit.Pragma tokens inside) answers = refl
