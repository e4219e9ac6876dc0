use Rattle.std.proofs.Common.{◌≡◌, ◌+◌, ◌<◌, Bool, true, false, cond, length, IfNone, refl, subst, sym, arith, lt_of_not-le}
use Rattle.std.specs.Int.{from_bool}
use Rattle.idl_check.proofs.Visits.StepsLemmas.{sum-none, sum-some}
use Rattle.idl_tree.proofs.NameLemmas.{behind_name}
use Rattle.idl_tree.specs.Name.{spell_name}
use Rattle.idl_check.proofs.walk.steps.name_length.Goals as goal

leading : (b : Bool) → from_bool b ≡ cond b 1 0
leading true = refl
leading false = refl

pub returns-in_err-further-clause-none : goal.returns-in_err-further-clause-none
returns-in_err-further-clause-none c =
    let behind = behind_name 0 c.args.name.now in
    let past = lt_of_not-le c.in_err-further.ensures in
    let more : 18446744073709551615 < length (spell_name c.args.name.now) = omega (arith, behind, past, c.len.ensures) in
    subst (λ r. IfNone r (18446744073709551615 < length (spell_name c.args.name.now))) (sym c.from_residual.ensures) more

pub returns-clause-some : goal.returns-clause-some
returns-clause-some c =
    let behind = behind_name 0 c.args.name.now in
    sum-some c.checked_add.result (c.in_ok-further.further + (1 + c.from.result)) (length (spell_name c.args.name.now)) c.checked_add.ensures
    (omega (arith, behind, c.in_ok-further.ensures.1, c.from.ensures, leading c.args.name.now.is_global, c.len.ensures))

pub returns-clause-none : goal.returns-clause-none
returns-clause-none c =
    let behind = behind_name 0 c.args.name.now in
    sum-none c.checked_add.result (c.in_ok-further.further + (1 + c.from.result)) (length (spell_name c.args.name.now)) c.checked_add.ensures
    (omega (arith, behind, c.in_ok-further.ensures.1, c.from.ensures, leading c.args.name.now.is_global, c.len.ensures))
