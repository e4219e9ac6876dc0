use Rattle.std.proofs.Common.{ap, refl, subst, sym}
use Rattle.idl_env.specs.Facts.{answers}
use Rattle.idl_kept.specs.Texts.{Texts}
use Rattle.idl_root.specs.Followed.{IsDeclarationLast, UnitsOnly}
use Rattle.idl_unit.specs.contracts.unit.UnitTextDatum.TheImpl.Laws.{copy-law}
use Rattle.idl_unit.specs.declared.unit.UnitText.{UnitText}
use Rattle.idl_root.proofs.kept.keeping.Keeping.obtained.Goals as goal

pub returns-clause-obtained : goal.returns-clause-obtained
returns-clause-obtained c =
    subst
    (λ (t : UnitText). IsDeclarationLast (t, answers c.args.env.now) c.args.kept.now.declarations c.obtain.new.self.declarations c.args.self.now.meter c.obtain.new.meter c.in_ok-obtain.field-0.value)
    (copy-law c.args.text.now c.in_ok-clone.field-0 c.in_ok-clone.ensures.cases)
    (record {
      result_is = c.in_ok-obtain.ensures.result;
      new_is = ap (λ (t : Texts). t.declarations) c.in_ok-obtain.ensures.ok;
      obtained = c.in_ok-obtain.ensures.meter;
    })

pub returns-clause-units : goal.returns-clause-units
returns-clause-units c = subst (λ n. UnitsOnly c.args.kept.now n) (sym c.in_ok-obtain.ensures.ok) refl

pub returns-clause-lists : goal.returns-clause-lists
returns-clause-lists c = ap (λ (t : Texts). t.declarations.lists) c.in_ok-obtain.ensures.ok
