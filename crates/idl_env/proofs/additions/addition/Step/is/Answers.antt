use Rattle.std.proofs.Common.{sym, ◌∙◌}
use Rattle.idl_entity.specs.Kind.{same_kind}
use Rattle.idl_entity.specs.Path.{same_path}
use Rattle.idl_env.specs.declared.additions.addition.Step.TheVariants.{Opens}
use Rattle.idl_env.proofs.additions.addition.Step.is.Goals as goal

pub returns-then-eq : goal.returns-then-eq
returns-then-eq c = λ kinds.
    let path = same_path c.in-Opens-Opens.path c.in-Opens-Opens.opened (sym c.eq.ensures ∙ c.if-eq.true) in
    let kind = same_kind c.in-Opens-Opens.kind c.in-Opens-Opens.other (sym c.eq-then-eq.ensures ∙ kinds) in
    c.in-Opens-Opens.is-0 ∙ (λ i. Opens (path i) (kind i)) ∙ sym c.in-Opens-Opens.is-1
