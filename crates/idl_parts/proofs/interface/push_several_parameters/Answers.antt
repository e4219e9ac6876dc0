use Rattle.std.proofs.Common.{[], ◌∷◌, ap, arith, get_or, length, refl, subst, ◌≡◌}
use Rattle.std.proofs.lemmas.Grind.{common_steps}
use Rattle.idl_lex.specs.declared.kinds.mark.Mark.TheVariants.{Comma}
use Rattle.idl_parts.specs.Part.{punctuation}
use Rattle.idl_parts.specs.UnitParts.{parameter_parts}
use Rattle.idl_parts.specs.declared.part.UnitPart.TheVariants.{Tokens}
use Rattle.idl_parts.proofs.PushLemmas.{pushes-append, pushes-one, pushes-turn}
use Rattle.idl_parts.proofs.interface.push_several_parameters.Goals as goal

pub loop-parameter-preserved : goal.loop-parameter-preserved
loop-parameter-preserved c =
    let is_oneway = c.args.is_oneway in
    let xs = c.args.parameters.now.rest in
    let same : c.as_slice-parameter-items.result.now ≡ xs = c.as_slice-parameter-items.ensures in
    let long = ap length same in
    let item = c.parameter-item.result in
    let b = c.loop-parameter.sites.items in
    let m = c.push.new.self.items in
    let z = c.push_parameter-in-loop-parameter.new.sites.items in
    pushes-turn (λ x. punctuation Comma ∷ parameter_parts is_oneway x) xs c.loop-parameter.parameter-index item c.args.sites.now.items b z (parameter_parts is_oneway c.args.parameters.now.first) (omega arith)
    (subst (λ ys. item ≡ get_or ys c.loop-parameter.parameter-index item) same c.parameter-item.is)
    c.loop-parameter.invariant
    (pushes-append b m z (punctuation Comma ∷ []) (parameter_parts is_oneway item) (pushes-one b m (Tokens 1) (punctuation Comma) c.in_ok-push.ensures.items refl) c.in_ok-push_parameter-2.ensures)

pub returns : goal.returns
returns c = grind (arith, common_steps)
