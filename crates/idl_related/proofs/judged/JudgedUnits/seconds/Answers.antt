use Rattle.std.proofs.Common.{◌≡◌, ◌∙◌, true, false, subst, sym}
use Rattle.std.proofs.lemmas.Result.{IfOk-weaker}
use Rattle.idl_related.specs.FirstDeclared.{first_declaration_over, seconds_at}
use Rattle.idl_related.specs.Judged.{before_spelled}
use Rattle.idl_related.specs.Told.{AreFew, is_redeclaration}
use Rattle.idl_related.proofs.FirstDeclaredLemmas.{few-first}
use Rattle.idl_related.proofs.judged.JudgedUnits.seconds.Goals as goal

pub returns-then-is_redeclaration-clause-few : goal.returns-then-is_redeclaration-clause-few
returns-then-is_redeclaration-clause-few c =
    let unit = c.args.unit in
    let spot = first_declaration_over (before_spelled c.args.self.now unit) unit.text.now c.args.fault.index in
    IfOk-weaker c.first_declared.result (λ seconds. seconds.items ≡ seconds_at spot) (λ seconds. AreFew seconds.items)
    (λ seconds is. subst AreFew (sym is) (few-first spot)) c.first_declared.ensures

pub returns-then-is_redeclaration-clause-first_declared : goal.returns-then-is_redeclaration-clause-first_declared
returns-then-is_redeclaration-clause-first_declared c =
    let unit = c.args.unit in
    let spot = first_declaration_over (before_spelled c.args.self.now unit) unit.text.now c.args.fault.index in
    IfOk-weaker c.first_declared.result (λ seconds. seconds.items ≡ seconds_at spot) (λ seconds. is_redeclaration c.args.fault.code ≡ true → seconds.items ≡ seconds_at spot)
    (λ seconds is yes. is) c.first_declared.ensures

pub returns-clause-first_declared : goal.returns-clause-first_declared
returns-clause-first_declared c =
    let unit = c.args.unit in
    let spot = first_declaration_over (before_spelled c.args.self.now unit) unit.text.now c.args.fault.index in
    let other : is_redeclaration c.args.fault.code ≡ false = sym c.is_redeclaration.ensures ∙ c.if-is_redeclaration.false in
    IfOk-weaker c.seconds.result (λ seconds. AreFew seconds.items) (λ seconds. is_redeclaration c.args.fault.code ≡ true → seconds.items ≡ seconds_at spot)
    (λ seconds few yes. absurd (let both : true ≡ false = sym yes ∙ other in cc)) c.seconds.ensures
