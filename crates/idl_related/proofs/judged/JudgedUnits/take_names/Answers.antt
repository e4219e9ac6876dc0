use Rattle.std.proofs.Common.{◌∙◌, ap}
use Rattle.std.proofs.lemmas.Result.{on_ok_weaker}
use Rattle.std.specs.List.{fold}
use Rattle.idl_related.specs.FirstDeclared.{with_name}
use Rattle.idl_related.proofs.judged.JudgedUnits.take_names.Goals as goal

pub returns-clause-names : goal.returns-clause-names
returns-clause-names c =
    on_ok_weaker c.add_names.result
    (λ is asks. is ∙ ap (fold with_name c.args.self.now.first) (c.as_slice.ensures.value ∙ c.in_ok-names.ensures)) c.add_names.ensures
