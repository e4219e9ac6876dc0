use Rattle.std.proofs.Common.{◌≡◌, ◌∙◌, ◌∷◌, [], Bool, true, false, refl, sym, ap}
use Rattle.std.specs.Prelude.{is_none, not}
use Rattle.idl_check.specs.tables.Codes.{codes_in}
use Rattle.idl_check.specs.tables.Using.{suited_table}
use Rattle.idl_fault.specs.declared.code.Code.TheVariants.{IncompleteType, NoConstantType}
use Rattle.idl_unit.specs.TokenRules.{first}
use Rattle.idl_check.proofs.tables.using.type_code.Goals as goal

not-twice : (b : Bool) → not (not b) ≡ b
not-twice true = refl
not-twice false = refl

pub returns-in-AsConstantType : goal.returns-in-AsConstantType
returns-in-AsConstantType c = λ behind bases h other.
    let none = sym (not-twice c.is_none.result) ∙ ap not (sym c.is_none.ensures) ∙ ap is_none h in
    c.first_code-in-AsConstantType.ensures
    ∙ (λ i. first (codes_in ((none i, NoConstantType) ∷ (c.is_incomplete-is_incomplete.ensures i, IncompleteType) ∷ [])))
    ∙ ap (λ way. first (codes_in (suited_table way bases c.args.denoted.entity.now behind))) (sym c.in-AsConstantType.is)
