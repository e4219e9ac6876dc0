use Rattle.std.proofs.Common.{reverse, sym, ap, ◌∙◌, ◌++◌, ◌∷◌, []}
use Rattle.idl_env.specs.Facts.{entity_in, inherited, innermost}
use Rattle.idl_env.specs.Held.{held}
use Rattle.idl_env.specs.declared.additions.addition.Addition.TheVariants.{Declares}
use Rattle.idl_entity.specs.declared.kind.Stage.TheVariants.{Complete}
use Rattle.idl_env.proofs.AnswerLaws.StateLemmas.{closing_is, kept}
use Rattle.idl_env.proofs.answering.state.State.closing.Goals as goal

pub returns : goal.returns
returns c =
    let entries = c.args.self.now.answers in
    let inside = c.args.self.now.inside.items in
    let e = c.in-Some.entity.now in
    let one = sym c.is_interface.ensures ∙ c.if-not-is_interface.false in
    let there = ap (λ q. entity_in (kept entries q)) (sym c.of_entity-key.ensures) ∙ ap entity_in (sym c.in_ok-get_lent.ensures) ∙ sym c.in-Some.ensures in
    let operations = c.in_ok-operations.ensures ∙ ap (λ x. inherited (kept entries) x.bases ++ innermost (reverse inside)) c.get-interface.ensures in
    let new = c.in_ok-new.ensures ∙ c.in_ok-closed.ensures ∙ (λ i. record (c.get-interface.ensures i) { stage = Complete; operations = operations i }) in
    closing_is (held c.args.self.now) c.args.scope.now e one there ∙ ap (λ x. Declares x ∷ []) (sym new)
