use Rattle.std.proofs.Common.{◌≡◌, List, ◌∷◌, ap, ◌∙◌, length, refl, rules}
use Rattle.idl_text.specs.Line.{Directive}
use Rattle.idl_text.specs.Tree.{is_else}
use Rattle.idl_text.specs.declared.groups.branch.OpenBranch.{OpenBranch}
use Rattle.idl_text.specs.declared.groups.fault.GroupFault.{GroupFault}
use Rattle.idl_text.proofs.MatchedLemmas.{matched-branch, matched-stray}
use Rattle.idl_text.proofs.groups.matching.Matching.begin_branch.Goals as goal

pub returns-in_ok-push-in-Some : goal.returns-in_ok-push-in-Some
returns-in_ok-push-in-Some c = λ lines is m.
    let old = c.args.self.now in
    let new = c.stray-in-Some.new.self in
    let told = c.in_ok-stray-in-Some.ensures in
    matched-stray lines c.args.at c.args.after c.args.directive.now c.in-Some.branch c.pop.new.self old.branches c.push.new.self old.spans.items new.spans.items old.faults.items new.faults.items
    c.requires.branch c.if-this.true c.requires.order is c.in-Some.ensures
    (c.in_ok-push-in-Some.ensures ∙ ap (λ (bs : List OpenBranch). c.in-Some.branch ∷ bs) told.branches) told.spans told.faults m

pub returns-in_ok-push-in-Some-2 : goal.returns-in_ok-push-in-Some-2
returns-in_ok-push-in-Some-2 c = λ lines is m.
    let old = c.args.self.now in
    let new = c.close.new.self in
    let b = c.in-Some.branch in
    let closed = c.in_ok-close-in-Some-2.ensures in
    let next : OpenBranch = record { from = c.args.after; faults = c.len.result; has_else = c.is_else.result; unclosed = b.unclosed } in
    let count : c.len.result ≡ length new.faults.items = search rules in
    let goes_on : c.is_else.result ≡ is_else c.args.directive.now.kind = c.is_else.ensures ∙ ap (λ (d : Directive). is_else d.kind) c.directive.view_is in
    matched-branch lines c.args.at c.args.after c.args.directive.now b next c.pop.new.self old.branches c.push-in-Some-2.new.self old.spans.items new.spans.items old.faults.items new.faults.items
    c.requires.branch c.if-this.false c.requires.order is c.in-Some.ensures
    (c.in_ok-push-in-Some-2.ensures ∙ ap (λ (bs : List OpenBranch). next ∷ bs) closed.branches) closed.spans closed.faults
    refl (count ∙ ap (λ (xs : List GroupFault). length xs) closed.faults) goes_on refl m
