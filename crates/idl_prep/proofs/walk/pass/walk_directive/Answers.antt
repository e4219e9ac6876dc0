use Rattle.std.proofs.Common.{◌≡◌, ◌∷◌, ap, sym, ◌∙◌}
use Rattle.std.proofs.lemmas.Result.{IfOk-weaker}
use Rattle.idl_text.specs.Line.{Directive, Directed}
use Rattle.idl_text.specs.Tree.{part}
use Rattle.idl_text.specs.declared.groups.kind.DirectiveKind.TheVariants.{Alone, Opening}
use Rattle.idl_text.proofs.TreeLemmas.{before-alone}
use Rattle.idl_prep.specs.Pass.{entered}
use Rattle.idl_prep.proofs.WalkLaws.WalkLemmas.{to_come-act_first, to_come-opening-skipped, to_come-skipped}
use Rattle.idl_prep.proofs.walk.pass.walk_directive.Goals as goal

pub returns-in-Alone : goal.returns-in-Alone
returns-in-Alone g c = IfOk-weaker c.act_directive.result _ _ (λ inclusion acted enter lines.
    let site = c.args.site.now in
    let d = c.args.directive.now in
    let alone : d.kind ≡ Alone c.in-Alone.what = ap (λ (d : Directive). d.kind) (sym c.directive.view_is) ∙ c.in-Alone.is in
    to_come-act_first (g.B.Bank.at site.bank.now) enter site.file.now c.args.groups.now (Directed d) lines (before-alone d c.in-Alone.what (part lines) alone)
    (entered enter inclusion) c.args.root.now c.act_directive.new.root (sym c.is_walked.ensures ∙ c.if-is_walked.true)
    (acted enter)) c.act_directive.ensures

pub returns-in-Alone-2 : goal.returns-in-Alone-2
returns-in-Alone-2 g c = λ enter lines.
    let site = c.args.site.now in
    let d = c.args.directive.now in
    let alone : d.kind ≡ Alone c.in-Alone.what = ap (λ (d : Directive). d.kind) (sym c.directive.view_is) ∙ c.in-Alone.is in
    to_come-skipped (g.B.Bank.at site.bank.now) enter site.file.now c.args.groups.now (Directed d) lines (before-alone d c.in-Alone.what (part lines) alone) c.args.root.now
    (sym c.is_walked.ensures ∙ c.if-is_walked.false)

pub returns-in_ok-push-in-Opening-2 : goal.returns-in_ok-push-in-Opening-2
returns-in_ok-push-in-Opening-2 g c = λ enter lines.
    let site = c.args.site.now in
    let d = c.args.directive.now in
    let gs = c.args.groups.now in
    let opens : d.kind ≡ Opening c.in-Opening.what = ap (λ (d : Directive). d.kind) (sym c.directive.view_is) ∙ c.in-Opening.is in
    to_come-opening-skipped (g.B.Bank.at site.bank.now) enter site.file.now d lines gs c.push-in-Opening-2.new.self c.in-Opening.what c.args.root.now opens
    (sym c.if-is_walked-2.ensures) (c.in_ok-push-in-Opening-2.ensures ∙ ap (λ group. group ∷ gs) c.in_ok-skip_group-in-Opening-2.ensures)
