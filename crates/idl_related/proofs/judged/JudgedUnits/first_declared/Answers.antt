use Rattle.std.proofs.Common.{◌≡◌, ◌∙◌, [], ap}
use Rattle.std.proofs.lemmas.Result.{IfOk-weaker}
use Rattle.idl_related.specs.FirstDeclared.{first_declaration, first_declaration_over, seconds_at}
use Rattle.idl_related.specs.Judged.{before_spelled}
use Rattle.idl_related.proofs.judged.JudgedUnits.first_declared.Goals as goal

pub returns : goal.returns
returns c =
    let token = c.args.token in
    let first = c.args.self.now.first in
    let unit = c.args.unit in
    IfOk-weaker c.seconds_at.result (λ seconds. seconds.items ≡ seconds_at c.in_ok-spot.spot)
    (λ seconds. seconds.items ≡ seconds_at (first_declaration_over (before_spelled c.args.self.now unit) unit.text.now token))
    (λ seconds is.
    is ∙ ap seconds_at (c.in_ok-spot.ensures ∙ ap (first_declaration token first []) (c.as_slice.ensures.value ∙ c.in_ok-own.ensures)))
    c.seconds_at.ensures
