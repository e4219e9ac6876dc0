use Rattle.std.proofs.Common.{◌≡◌, ap, subst, sym, ◌∙◌}
use Rattle.idl_text.specs.Line.{Directive, Directed}
use Rattle.idl_text.specs.TreeLaw.{IsAlone}
use Rattle.idl_text.specs.declared.groups.kind.DirectiveKind.{DirectiveKind}
use Rattle.idl_text.specs.declared.groups.kind.DirectiveKind.TheVariants.{Alone, Opening}
use Rattle.idl_text.proofs.MatchedLemmas.{matched-alone}
use Rattle.idl_text.proofs.groups.matching.Matching.step.Goals as goal

pub returns-in-Alone : goal.returns-in-Alone
returns-in-Alone c = λ lines is m.
    let old = c.args.self.now in
    let d = c.args.directive.now in
    let alone : d.kind ≡ Alone c.in-Alone.field-0 = ap (λ (d : Directive). d.kind) (sym c.directive.view_is) ∙ c.in-Alone.is in
    matched-alone lines c.args.at c.args.after (Directed d) old.branches old.spans.items old.faults.items
    (let P : DirectiveKind → Type 0 = λ k. IsAlone k in subst P (sym alone) tt) c.requires is m

pub returns-in_ok-open_group-in-Opening : goal.returns-in_ok-open_group-in-Opening
returns-in_ok-open_group-in-Opening c = λ lines is m.
    let d = c.args.directive.now in
    let opens : d.kind ≡ Opening c.in-Opening.field-0 = ap (λ (d : Directive). d.kind) (sym c.directive.view_is) ∙ c.in-Opening.is in
    c.in_ok-open_group-in-Opening.ensures c.in-Opening.field-0 c.args.at opens c.requires lines is m
