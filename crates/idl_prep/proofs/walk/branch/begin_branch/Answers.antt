use Rattle.std.proofs.Common.{◌≡◌, ◌∷◌, ◌||◌, false, ap, ◌∙◌}
use Rattle.idl_text.specs.Line.{Directive}
use Rattle.idl_text.specs.Tree.{is_else}
use Rattle.idl_prep.proofs.WalkLaws.PassLemmas.{continued}
use Rattle.idl_prep.proofs.WalkLaws.WalkLemmas.{to_come-branch, to_come-branch-skipped}
use Rattle.idl_prep.proofs.walk.branch.begin_branch.Goals as goal

pub returns-then-not-group : goal.returns-then-not-group
returns-then-not-group g c = λ enter gs lines.
    let site = c.args.site.now in
    let group = c.args.group.now in
    let has_else : c.is_else-group.result ≡ is_else c.args.directive.now.kind = c.is_else-group.ensures ∙ ap (λ (d : Directive). is_else d.kind) c.directive.view_is in
    to_come-branch-skipped (g.B.Bank.at site.bank.now) enter site.file.now c.args.directive.now lines group gs _ c.args.root.now
    c.requires.branch c.requires.no_else c.if-not-group.true (ap (λ h. continued group group.is_taken false h ∷ gs) has_else)

pub returns : goal.returns
returns g c = λ enter gs lines.
    let site = c.args.site.now in
    let group = c.args.group.now in
    let taken = c.in_ok-group.field-0 in
    let has_else : c.is_else-group.result ≡ is_else c.args.directive.now.kind = c.is_else-group.ensures ∙ ap (λ (d : Directive). is_else d.kind) c.directive.view_is in
    to_come-branch (g.B.Bank.at site.bank.now) enter site.file.now c.args.directive.now lines group gs _ taken c.args.root.now c.turn.new.self c.decide.new.root
    c.requires.branch c.requires.no_else c.if-not-group.false c.in_ok-turn.ensures c.in_ok-group.ensures.arrival c.in_ok-group.ensures.state
    (ap (λ h. continued group (group.is_taken || taken) taken h ∷ gs) has_else)
