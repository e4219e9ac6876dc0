use Rattle.std.proofs.Common.{[], ◌∷◌, ap, arith, get_or, length, refl, subst, ◌≡◌}
use Rattle.idl_lex.specs.declared.kinds.mark.Mark.TheVariants.{Comma}
use Rattle.idl_parts.specs.Part.{punctuation}
use Rattle.idl_parts.specs.TypeParts.{declarator_parts}
use Rattle.idl_parts.specs.declared.part.UnitPart.TheVariants.{Tokens}
use Rattle.idl_parts.proofs.PushLemmas.{pushes-append, pushes-end, pushes-one, pushes-turn}
use Rattle.idl_parts.proofs.construction.push_declarators.Goals as goal

pub loop-declarator-preserved : goal.loop-declarator-preserved
loop-declarator-preserved c =
    let declaration = c.args.declaration in
    let xs = c.args.declarators.now.rest in
    let same : c.as_slice-declarator-items.result.now ≡ xs = c.as_slice-declarator-items.ensures in
    let long = ap length same in
    let item = c.declarator-item.result in
    let b = c.loop-declarator.sites.items in
    let m = c.push.new.self.items in
    let z = c.push_declarator-in-loop-declarator.new.sites.items in
    pushes-turn (λ x. punctuation Comma ∷ declarator_parts declaration x) xs c.loop-declarator.declarator-index item c.args.sites.now.items b z (declarator_parts declaration c.args.declarators.now.first) (omega arith)
    (subst (λ ys. item ≡ get_or ys c.loop-declarator.declarator-index item) same c.declarator-item.is)
    c.loop-declarator.invariant
    (pushes-append b m z (punctuation Comma ∷ []) (declarator_parts declaration item) (pushes-one b m (Tokens 1) (punctuation Comma) c.in_ok-push.ensures.items refl) c.in_ok-push_declarator-2.ensures)

pub returns : goal.returns
returns c =
    let declaration = c.args.declaration in
    let xs = c.args.declarators.now.rest in
    let same : c.as_slice-declarator-items.result.now ≡ xs = c.as_slice-declarator-items.ensures in
    let long = ap length same in
    pushes-end (λ x. punctuation Comma ∷ declarator_parts declaration x) xs c.loop-declarator.declarator-index c.args.sites.now.items c.loop-declarator.sites.items (declarator_parts declaration c.args.declarators.now.first) (omega arith) c.loop-declarator.invariant
