use Rattle.std.proofs.Common.{◌∙◌, ap, sym}
use Rattle.idl_root_blocks.specs.idl_check.declared.walk.verdict.Verdict.{Verdict}
use Rattle.idl_root.specs.Held.{with_gathered, with_judged, with_units}
use Rattle.idl_root.specs.Judged.{judged_at, judged_over}
use Rattle.idl_root.proofs.JudgingLemmas.{with-one}
use Rattle.idl_root.proofs.compiling.judging.Accumulator.add_named.Goals as goal

pub returns-clause-gathered : goal.returns-clause-gathered
returns-clause-gathered c = λ facts.
    let o = with_gathered facts c.args.self.now in
    let text = c.in-Spelled.text in
    let sites = c.in-Spelled.sites in
    c.in_ok-add_verdict.ensures facts
    ∙ ap (λ (v : Verdict). with_judged o (record { text = text; sites = sites; verdict = v })) c.in_ok-verdict.ensures
    ∙ with-one o (judged_over c.args.env.now text sites)
    ∙ ap (λ u. with_units o (judged_at c.args.env.now u)) (sym c.in-Spelled.is)
