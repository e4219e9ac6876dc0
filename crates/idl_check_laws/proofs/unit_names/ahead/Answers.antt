use Rattle.idl_check_laws.proofs.Visits.AheadLaws.{unit-ahead}
use Rattle.idl_check_laws.proofs.Visits.KnownLaws.{unit-fresh, unit-known}
use Rattle.idl_check_laws.proofs.unit_names.ahead.Goals as goal
use Rattle.idl_check.specs.walk.Names.{declared_paths, unit_names}
use Rattle.idl_check.specs.walk.Verdict.{verdict}
use Rattle.idl_env.proofs.Membership.{IsIn-Contains}
use Rattle.idl_env.specs.declared.additions.addition.Addition.TheVariants.{Appears, Declares}
use Rattle.idl_check_laws.proofs.Fits.FittingLaws.{pragma-calm}
use Rattle.idl_memo.specs.Query.{outcome}
use Rattle.idl_unit.specs.declared.unit.UnitText.TheVariants as unit

pub returns-clause-known : goal.returns-clause-known
returns-clause-known c = λ turns text answers path none has. unit-known turns answers text path none (IsIn-Contains path (declared_paths (unit_names turns answers text)) has)

pub returns-clause-fresh : goal.returns-clause-fresh
returns-clause-fresh c = λ turns text answers path prefix has. unit-fresh turns answers path prefix text (IsIn-Contains (Appears path prefix) (outcome (verdict turns text) answers).writes.additions has)

pub returns-clause-ahead : goal.returns-clause-ahead
returns-clause-ahead c = λ turns tokens answers e has. unit-ahead turns answers tokens e (IsIn-Contains (Declares e) (outcome (verdict turns (unit.Tokens tokens)) answers).writes.additions has)

pub returns-clause-pragma : goal.returns-clause-pragma
returns-clause-pragma c = λ turns tokens inside answers e has.
    (pragma-calm turns answers tokens inside).nothing e (IsIn-Contains (Declares e) (outcome (verdict turns (unit.Pragma tokens inside)) answers).writes.additions has)
