use Rattle.std.proofs.Common.{List, ◌≡◌, ◌∙◌, ◌++◌, ◌∷◌, [], ◌+◌, length, sym, ap, subst, rules}
use Rattle.idl_event.proofs.ApartLemmas.{woven-other}
use Rattle.idl_event.specs.Apart.{StandApart, woven}
use Rattle.idl_event.specs.Runs.{tokens_of}
use Rattle.idl_event.specs.declared.told.event.Event.{Event}
use Rattle.idl_event.proofs.told.builder.ExpansionBuilder.push.Goals as goal

pub invariant_of-self-in_default : goal.invariant_of-self-in_default
invariant_of-self-in_default c =
    let b = c.self.inside in
    let n = c.len.result + c.len-in_default.result in
    let number : n ≡ length b.sites + length b.others.items = search rules in
    let others : c.push.new.self.items ≡ b.others.items ++ (n, c.args.event) ∷ [] = search rules in
    subst (StandApart b.sites (tokens_of b.runs.items ++ b.open.items)) (sym others)
    (woven-other b.sites (tokens_of b.runs.items ++ b.open.items) b.others.items n c.args.event c.self.invariant number c.in_default.not-Emitted).1

pub returns-in_ok-push-in_default : goal.returns-in_ok-push-in_default
returns-in_ok-push-in_default c =
    let b = c.self.inside in
    let n = c.len.result + c.len-in_default.result in
    let number : n ≡ length b.sites + length b.others.items = search rules in
    let others : c.push.new.self.items ≡ b.others.items ++ (n, c.args.event) ∷ [] = search rules in
    ap (woven b.sites (tokens_of b.runs.items ++ b.open.items)) others
    ∙ (woven-other b.sites (tokens_of b.runs.items ++ b.open.items) b.others.items n c.args.event c.self.invariant number c.in_default.not-Emitted).0
    ∙ ap (λ (es : List Event). es ++ c.args.event ∷ []) c.self.view_is
