use Rattle.std.proofs.Common.{◌≡◌, ◌∙◌, [], sym}
use Rattle.idl_entity.specs.DataType.{same_element}
use Rattle.idl_env.proofs.plain.is_plain.Goals as goal

pub returns-then-eq : goal.returns-then-eq
returns-then-eq c = λ h.
    let element : c.args.t.now.element ≡ c.args.element.now = same_element c.args.t.now.element c.args.element.now (sym c.eq.ensures ∙ c.if-eq.true) in
    let layers : c.args.t.now.layers ≡ [] = c.is_empty.ensures.0 h in
    λ i. record { element = element i; layers = layers i }
