use Rattle.std.proofs.Common.{◌≡◌, ◌∙◌, ◌∷◌, ◌++◌, [], Some, suc, ℕ, ap, arith, rules, subst, sym}
use Rattle.idl_root_blocks.specs.idl_check.declared.walk.verdict.Verdict.{Verdict}
use Rattle.idl_env.specs.Facts.{UnitFacts}
use Rattle.idl_root.specs.AsBefore.{judged_beside}
use Rattle.idl_root.specs.Compile.{Outcome}
use Rattle.idl_root.specs.Followed.{added_by}
use Rattle.idl_root.specs.Held.{with_gathered, with_judged, with_units}
use Rattle.idl_root.specs.Passed.{known_results}
use Rattle.idl_kept.specs.Texts.{DeclarationResult}
use Rattle.idl_root.specs.Results.{marks_of}
use Rattle.idl_root_blocks.specs.Finding.{texts_in}
use Rattle.idl_root_blocks.specs.Units.{text_of}
use Rattle.idl_root.proofs.KnownLemmas.{added-spelled, judged-spelled}
use Rattle.idl_root.proofs.TakenLemmas.{at-some}
use Rattle.std.proofs.Common.{List}
use Rattle.idl_unit.specs.declared.unit.Unit.{Unit as RootUnit}
use Rattle.idl_root.proofs.compiling.judging.Accumulator.add_next.Goals as goal

pub returns-in_ok-env-in-Spelled-clause-env : goal.returns-in_ok-env-in-Spelled-clause-env
returns-in_ok-env-in-Spelled-clause-env c = λ units.
    let known = c.args.known in
    let behind = c.in_ok-declaration-in-Spelled.behind in
    let result : DeclarationResult = c.in_ok-declaration-in-Spelled.declaration.now in
    let found : c.split_first.result ≡ Some (c.in_ok-declaration-in-Spelled.declaration, behind) = grind arith in
    let first : (count : ℕ) → known_results known (suc count) ≡ result ∷ known_results behind count =
    at-some c.split_first.result (c.in_ok-declaration-in-Spelled.declaration, behind) _ found c.split_first.ensures.behind in
    let adds : c.of.result ≡ c.args.env ++ result.out.writes ∷ [] = search rules in
    subst
    (λ (u : RootUnit). c.of.result ++ added_by (marks_of units) (known_results behind (texts_in (text_of units)))
    ≡ c.args.env ++ added_by (marks_of (u ∷ units)) (known_results known (texts_in (text_of (u ∷ units)))))
    (sym c.in-Spelled.is)
    (ap (λ (e : List UnitFacts). e ++ added_by (marks_of units) (known_results behind (texts_in (text_of units)))) adds
    ∙ added-spelled known behind result first c.in-Spelled.text c.in-Spelled.sites units c.args.env)

pub returns-in_ok-env-in-Spelled-clause-gathered : goal.returns-in_ok-env-in-Spelled-clause-gathered
returns-in_ok-env-in-Spelled-clause-gathered c = λ facts units.
    let known = c.args.known in
    let behind = c.in_ok-declaration-in-Spelled.behind in
    let result : DeclarationResult = c.in_ok-declaration-in-Spelled.declaration.now in
    let found : c.split_first.result ≡ Some (c.in_ok-declaration-in-Spelled.declaration, behind) = grind arith in
    let first : (count : ℕ) → known_results known (suc count) ≡ result ∷ known_results behind count =
    at-some c.split_first.result (c.in_ok-declaration-in-Spelled.declaration, behind) _ found c.split_first.ensures.behind in
    let old = with_gathered facts c.args.self.now in
    let rest = judged_beside units (known_results behind (texts_in (text_of units))) in
    let verdict : c.kept_verdict-verdict.result.now ≡ result.out = search rules in
    subst
    (λ (u : RootUnit). with_units (with_gathered facts c.add_verdict.new.self) rest
    ≡ with_units old (judged_beside (u ∷ units) (known_results known (texts_in (text_of (u ∷ units))))))
    (sym c.in-Spelled.is)
    (ap (λ (o : Outcome). with_units o rest)
    (c.in_ok-add_verdict-in-Spelled.ensures facts
    ∙ ap (λ (v : Verdict). with_judged old (record { text = c.in-Spelled.text; sites = c.in-Spelled.sites; verdict = v })) verdict)
    ∙ judged-spelled known behind result first c.in-Spelled.text c.in-Spelled.sites units old)
