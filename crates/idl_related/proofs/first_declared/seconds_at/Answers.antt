use Rattle.std.proofs.Common.{◌≡◌, ◌∙◌, Some, ap, sym}
use Rattle.std.proofs.lemmas.Result.{IfOk-weaker}
use Rattle.idl_related.specs.FirstDeclared.{seconds_at}
use Rattle.idl_related.proofs.first_declared.seconds_at.Goals as goal

pub returns-in-Some : goal.returns-in-Some
returns-in-Some c =
    IfOk-weaker c.second_at.result (λ seconds. seconds.items ≡ seconds_at (Some c.in-Some.spot)) (λ seconds. seconds.items ≡ seconds_at c.args.spot)
    (λ seconds is. is ∙ ap seconds_at (sym c.in-Some.is)) c.second_at.ensures

pub returns-in-None : goal.returns-in-None
returns-in-None c = c.new.ensures.items ∙ ap seconds_at (sym c.in-None.is)
