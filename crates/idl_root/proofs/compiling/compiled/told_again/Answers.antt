use Rattle.std.proofs.Common.{◌≡◌, ◌∙◌, ◌++◌, List, ap, flat_map, map, refl, rules, subst, sym}
use Rattle.idl_root.specs.AsBefore.{AreAsBefore, closing_beside, judged_beside}
use Rattle.idl_root.specs.Compile.{has_error, outcome_of}
use Rattle.idl_finding.specs.Findings.{finding_row}
use Rattle.idl_root.specs.Findings.{unit_finding}
use Rattle.idl_root.specs.Held.{listed_at}
use Rattle.idl_root.specs.Printed.{closing_finding, listed_in}
use Rattle.idl_finding.specs.declared.finding.EventFinding.{EventFinding}
use Rattle.idl_root.specs.declared.compiling.printing.Listed.{Listed as HeldListed}
use Rattle.idl_root.proofs.AsBeforeLemmas.{closing-again, found-again, told-again}
use Rattle.idl_root.specs.Places.{declarations_of}
use Rattle.idl_kept.specs.Texts.{DeclarationResult}
use Rattle.idl_root_blocks.specs.Places.{declaration_result}
use Rattle.idl_store.specs.Stored.{Stored, list_at}
use Rattle.idl_unit.specs.Units.{units_of}
use Rattle.idl_root.proofs.compiling.compiled.told_again.Goals as goal

pub returns : goal.returns
returns c =
    let root = c.args.before in
    let events = c.args.source.1.now in
    let was = c.requires.kept.0 in
    let kept = c.requires.kept.1 in
    let same : AreAsBefore (units_of was) (units_of events) = subst (AreAsBefore (units_of was)) c.requires.units c.requires.kept.3 in
    let units = c.args.source.2.now in
    let results = list_at c.declarations.result.now.lists root.at in
    let are : results ≡ map declaration_result (declarations_of was) =
    ap (λ (t : Stored DeclarationResult). list_at t.lists root.at) c.declarations.ensures ∙ kept.declarations_are in
    let entries = list_at c.args.keeper.now.entries.lists root.at in
    let findings = c.in_ok-findings-2.findings.items in
    let found : c.into_findings.result.items ≡ (outcome_of events).found =
    search rules
    ∙ c.in_ok-again.ensures.findings
    ∙ ap (λ (l : List EventFinding). l ++ flat_map unit_finding (judged_beside units results)) (search rules)
    ∙ found-again was events same units c.requires.units results are in
    let closing : c.in_ok-closing.closing.items ≡ flat_map (closing_finding (outcome_of events).facts) (outcome_of events).listed =
    c.in_ok-closing.ensures
    ∙ ap (λ l. closing_beside l entries)
    (c.in_ok-again.ensures.listed ∙ ap (λ (l : List HeldListed). map listed_at l ++ flat_map listed_in (judged_beside units results)) c.new.ensures.listed)
    ∙ closing-again was events same units c.requires.units results entries are kept.entries_are in
    let own : c.from_vec.result ≡ findings = c.from_vec.ensures in
    let lent : c.deref.result.now ≡ findings = search rules in
    let wrong : c.has_error-is_faulty.result ≡ has_error findings = c.has_error-is_faulty.ensures ∙ ap has_error lent in
    let rows : c.from_vec-2.result ≡ map finding_row findings = c.from_vec-2.ensures ∙ search rules in
    (λ i. record {
      findings = own i;
      diagnostics = rows i;
      listing = c.in_ok-clone.ensures.cases i;
      dump = c.in_ok-clone-2.ensures.cases i;
      is_faulty = wrong i;
      is_open = c.args.compiled.now.is_open;
    })
    ∙ told-again was events same c.args.source.0.now c.args.compiled.now findings c.into_findings.result.items c.in_ok-closing.closing.items c.args.compiled.now.is_open c.requires.kept.2
    found closing refl c.in_ok-findings-2.ensures (sym wrong ∙ search rules)
