use Rattle.std.proofs.Common.{◌∷◌, ◌∙◌, [], ap, sym}
use Rattle.idl_root_blocks.specs.idl_check.declared.walk.verdict.Verdict.{Verdict}
use Rattle.idl_env.specs.Facts.{UnitFacts}
use Rattle.idl_root.specs.Held.{with_gathered, with_judged, with_units}
use Rattle.idl_root.specs.Judged.{judged_at, judged_over}
use Rattle.idl_root_blocks.specs.idl_check.walk.Verdict.{added}
use Rattle.idl_root.proofs.JudgingLemmas.{with-none, with-one}
use Rattle.idl_root.proofs.compiling.judging.Accumulator.add.Goals as goal

pub returns-in_ok-add_verdict-in-Spelled-clause-added : goal.returns-in_ok-add_verdict-in-Spelled-clause-added
returns-in_ok-add_verdict-in-Spelled-clause-added c =
    ap (λ (w : UnitFacts). w ∷ []) (c.into_writes.ensures ∙ ap (λ (v : Verdict). v.writes) c.in_ok-verdict-in-Spelled.ensures) ∙ ap (added c.args.env.now) (sym c.in-Spelled.is)

pub returns-in_ok-add_verdict-in-Spelled-clause-gathered : goal.returns-in_ok-add_verdict-in-Spelled-clause-gathered
returns-in_ok-add_verdict-in-Spelled-clause-gathered c = λ facts.
    let o = with_gathered facts c.args.self.now in
    let text = c.in-Spelled.text in
    let sites = c.in-Spelled.sites in
    c.in_ok-add_verdict-in-Spelled.ensures facts
    ∙ ap (λ (v : Verdict). with_judged o (record { text = text; sites = sites; verdict = v })) c.in_ok-verdict-in-Spelled.ensures
    ∙ with-one o (judged_over c.args.env.now text sites)
    ∙ ap (λ u. with_units o (judged_at c.args.env.now u)) (sym c.in-Spelled.is)

pub returns-in_ok-boundary-in-Entered-clause-added : goal.returns-in_ok-boundary-in-Entered-clause-added
returns-in_ok-boundary-in-Entered-clause-added c = sym c.in_ok-boundary-in-Entered.ensures ∙ ap (added c.args.env.now) (sym c.in-Entered.is)

pub returns-in_ok-boundary-in-Entered-clause-gathered : goal.returns-in_ok-boundary-in-Entered-clause-gathered
returns-in_ok-boundary-in-Entered-clause-gathered c = λ facts.
    let o = with_gathered facts c.args.self.now in
    with-none o ∙ ap (λ u. with_units o (judged_at c.args.env.now u)) (sym c.in-Entered.is)

pub returns-in_ok-boundary-in-Left-clause-added : goal.returns-in_ok-boundary-in-Left-clause-added
returns-in_ok-boundary-in-Left-clause-added c = sym c.in_ok-boundary-in-Left.ensures ∙ ap (added c.args.env.now) (sym c.in-Left.is)

pub returns-in_ok-boundary-in-Left-clause-gathered : goal.returns-in_ok-boundary-in-Left-clause-gathered
returns-in_ok-boundary-in-Left-clause-gathered c = λ facts.
    let o = with_gathered facts c.args.self.now in
    with-none o ∙ ap (λ u. with_units o (judged_at c.args.env.now u)) (sym c.in-Left.is)

pub returns-in-End-clause-added : goal.returns-in-End-clause-added
returns-in-End-clause-added c = ap (added c.args.env.now) (sym c.in-End.is)

pub returns-in-End-clause-gathered : goal.returns-in-End-clause-gathered
returns-in-End-clause-gathered c = λ facts.
    let o = with_gathered facts c.args.self.now in
    with-none o ∙ ap (λ u. with_units o (judged_at c.args.env.now u)) (sym c.in-End.is)
