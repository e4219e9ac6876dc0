use Rattle.std.proofs.Common.{◌≡◌, ◌∙◌, ap, flat_map}
use Rattle.std.proofs.lemmas.Result.{IfOk-weaker}
use Rattle.idl_related.specs.FirstDeclared.{declared_at, names_over}
use Rattle.idl_related.proofs.first_declared.names_in.Goals as goal

pub returns : goal.returns
returns c =
    let number = c.args.number in
    IfOk-weaker c.declared_in.result (λ names. names.items ≡ flat_map (declared_at number) c.as_slice.result.now)
    (λ names. names.items ≡ names_over c.args.env.now number c.args.text.now)
    (λ names is. is ∙ ap (flat_map (declared_at number)) (c.as_slice.ensures.value ∙ c.in_ok-names.ensures)) c.declared_in.ensures
