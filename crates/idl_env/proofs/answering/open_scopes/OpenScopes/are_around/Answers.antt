use Rattle.std.proofs.Common.{◌∙◌, subst, sym}
use Rattle.idl_entity.specs.Path.{same_path}
use Rattle.idl_env.specs.answering.OpenScopes.{IsChild}
use Rattle.idl_env.proofs.answering.open_scopes.OpenScopes.are_around.Goals as goal

pub returns-in-Some : goal.returns-in-Some
returns-in-Some c = λ same.
    subst (IsChild c.args.path.now) (sym c.in-Some.ensures.some)
    (sym c.lent.ensures ∙ sym (same_path c.around.result c.lent.result (sym c.are_those.ensures ∙ same)) ∙ c.around.ensures)
