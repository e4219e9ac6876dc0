use Rattle.std.proofs.Common.{sym, ap, ◌∙◌, ◌++◌, ◌+◌, ◌∷◌, [], drop, append_assoc, arith}
use Rattle.std.specs.Prelude.{not}
use Rattle.std.proofs.lemmas.List.Elements.{filter-append}
use Rattle.idl_env.specs.Stamps.{stamped_in}
use Rattle.idl_env.specs.Facts.{is_stopped, unstopped}
use Rattle.idl_env.specs.declared.additions.addition.Addition.{Addition}
use Rattle.idl_env.proofs.AnswerLaws.PlaceLemmas.{drop-at1, drop-past1}
use Rattle.std.proofs.lemmas.Grind.{common_steps}
use Rattle.idl_env.proofs.additions.facts.Facts.unstopped.Goals as goal

pub loop-index-preserved : goal.loop-index-preserved
loop-index-preserved c =
    let additions = c.args.self.now.additions in
    let bank = (stamped_in c.args.answers.now).at in
    let at = c.loop-index.index in
    let old = c.loop-index.left.items in
    let one = c.in-Some.addition.now in
    let rest = drop (at + 1) additions in
    (λ i. c.in_ok-put_unless_stopped.ensures i ++ unstopped bank rest)
    ∙ append_assoc old (unstopped bank (one ∷ [])) (unstopped bank rest)
    ∙ ap (λ l. old ++ l) (sym (filter-append (λ (a : Addition). not (is_stopped bank a)) (one ∷ []) rest))
    ∙ ap (λ l. old ++ unstopped bank l) (sym (drop-at1 additions at one (sym c.in-Some.ensures)))
    ∙ c.loop-index.invariant

pub returns : goal.returns
returns c = grind (arith, common_steps)

pub loop-index-init : goal.loop-index-init
loop-index-init c = grind (arith, common_steps)

pub loop-index-preserved-in_default : goal.loop-index-preserved-in_default
loop-index-preserved-in_default c =
    ap (λ l. c.loop-index.left.items ++ unstopped (stamped_in c.args.answers.now).at l) (sym (drop-past1 c.args.self.now.additions c.loop-index.index (sym c.in_default.ensures)))
    ∙ c.loop-index.invariant
